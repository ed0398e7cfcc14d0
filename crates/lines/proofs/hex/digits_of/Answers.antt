use Rattle.std.proofs.Common.{◌≡◌, ◌<◌, ◌∷◌, ◌++◌, [], ◌/◌, ◌%◌, get_or, string_bytes, ap, ◌∙◌, subst, sym, arith, rules}
use Rattle.lines.proofs.Encoding.{symbol_made, symbol_below, digits_more}
use Rattle.lines.specs.Hex.{symbol_of, digits}
use Rattle.lines.proofs.hex.digits_of.Goals as goal

pub loop-b-preserved : goal.loop-b-preserved
loop-b-preserved c =
    let bytes = c.args.bytes.now in
    let i = c.loop-b.b-index in
    let byte = get_or bytes i 0 in
    let text = string_bytes c.loop-b.text in
    let mid = string_bytes c.push.new.self in
    let new = string_bytes c.push-in-loop-b.new.self in
    let a = c.unwrap.result in
    let b = c.unwrap-in-loop-b.result in
    let high : a ≡ symbol_of (byte / 16) = symbol_made c.from_digit.result (byte / 16) a (search rules) c.unwrap.ensures in
    let low : b ≡ symbol_of (byte % 16) = symbol_made c.from_digit-in-loop-b.result (byte % 16) b (search rules) c.unwrap-in-loop-b.ensures in
    let pushed : mid ≡ text ++ a ∷ [] =
    c.in_ok-push.ensures.bytes ∙ ap (λ w. text ++ w) (c.in_ok-push.ensures.ascii (subst (λ d. d < 128) (sym high) (symbol_below (byte / 16) (omega arith)))) in
    let pushed_low : new ≡ mid ++ b ∷ [] =
    c.in_ok-push-2.ensures.bytes ∙ ap (λ w. mid ++ w) (c.in_ok-push-2.ensures.ascii (subst (λ d. d < 128) (sym low) (symbol_below (byte % 16) (omega arith)))) in
    digits_more text mid new (digits bytes) bytes i a b (omega arith) high low pushed pushed_low c.loop-b.invariant
