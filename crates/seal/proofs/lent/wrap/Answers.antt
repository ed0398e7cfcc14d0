use Rattle.std.proofs.Common.{◌≡◌, true, sym, ap, ◌∙◌, rules}
use Rattle.std.specs.Option.{option_copied}
use Rattle.block.specs.Bytes.{bytes}
use Rattle.mode.specs.Sealing.{Sealed}
use Rattle.seal.specs.Sizes.{sized}
use Rattle.seal.proofs.Wraps.{past, seals_held, wraps}
use Rattle.seal.proofs.lent.wrap.Goals as goal

pub returns-clause-seals : goal.returns-clause-seals
returns-clause-seals g c =
    let s = g.C.Cipher.scheme c.args.cipher.now in
    let k = c.args.key.now in
    let h = option_copied c.args.header in
    let t = c.args.tag.now in
    let x = c.args.text.now in
    let load = c.in_ok-load_key.ensures in
    let fits : sized s k h t x ≡ true = past s k h t x (search rules) (sym c.if-not-sizes_fit.ensures) (sym load.fits) in
    let seals = seals_held h x load.keys c.seal.ensures in
    wraps s k h t x (g.met.C.Cipher.lawful c.args.cipher.now) (λ i _. search rules) fits
    (c.to_bytes-sealed.ensures ∙ ap (λ (z : Sealed). bytes 16 z.tag) seals) (ap (λ (z : Sealed). z.text) seals)
