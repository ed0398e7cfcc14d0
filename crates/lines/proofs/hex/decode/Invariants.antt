use Rattle.std.proofs.Common.{◌≡◌, ◌++◌, drop, vec_items}
use Rattle.std.specs.Option.{option_map}
use Rattle.lines.specs.Hex.{pairs}
use Rattle.lines.proofs.Decoding.{paired}
use Rattle.lines.proofs.hex.decode.Given as goal

-- The bytes so far, before those of the pairs that are left, are those of the text.
abbrev pub invariant-loop-high : goal.invariant-loop-high
invariant-loop-high l = option_map (λ bs. vec_items l.bytes ++ bs) (paired (drop l.high-index l.pairs)) ≡ pairs l.fn.text
