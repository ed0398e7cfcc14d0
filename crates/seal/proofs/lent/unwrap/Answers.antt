use Rattle.std.proofs.Common.{◌≡◌, true, sym, ap, ◌∙◌, rules}
use Rattle.std.specs.Option.{option_copied}
use Rattle.block.specs.Bytes.{spelled}
use Rattle.seal.specs.Sizes.{sized}
use Rattle.seal.proofs.Wraps.{past, opens_held, unwraps, refuses}
use Rattle.seal.proofs.lent.unwrap.Goals as goal

pub returns-in_default-clause-opens : goal.returns-in_default-clause-opens
returns-in_default-clause-opens g c =
    let s = g.C.Cipher.scheme c.args.cipher.now in
    let k = c.args.key.now in
    let h = option_copied c.args.header in
    let t = c.args.tag.now in
    let x = c.args.text.now in
    let load = c.in_ok-load_key.ensures in
    let fits : sized s k h t x ≡ true = past s k h t x (search rules) (sym c.if-not-fits.ensures) (sym load.fits) in
    let opens = opens_held h t x load.keys (c.from_bytes.ensures ∙ ap spelled (search rules)) c.in_default.ensures.opens in
    refuses s k h t x (g.met.C.Cipher.lawful c.args.cipher.now) (λ i _. search rules) (λ i _. search rules) fits opens (search rules) (search rules)

pub returns-clause-opens : goal.returns-clause-opens
returns-clause-opens g c =
    let s = g.C.Cipher.scheme c.args.cipher.now in
    let k = c.args.key.now in
    let h = option_copied c.args.header in
    let t = c.args.tag.now in
    let x = c.args.text.now in
    let load = c.in_ok-load_key.ensures in
    let fits : sized s k h t x ≡ true = past s k h t x (search rules) (sym c.if-not-fits.ensures) (sym load.fits) in
    let opens = opens_held h t x load.keys (c.from_bytes.ensures ∙ ap spelled (search rules)) c.in-Ok.ensures.opens in
    unwraps s k h t x (g.met.C.Cipher.lawful c.args.cipher.now) (λ i _. search rules) (λ i _. search rules) fits opens (search rules)
