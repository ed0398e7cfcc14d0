use Rattle.std.proofs.Common.{ap, ◌∙◌, arith}
use native.Mathlib.Nat.{sub-zero}
use Rattle.block.specs.Bytes.{spelled}
use Rattle.mode.proofs.Pads.{written_over}
use Rattle.mode.proofs.padding.filled.Goals as goal

pub returns : goal.returns
returns c =
    (simp (c.copy_from_slice.ensures.after, sub-zero) at c.from_bytes.ensures) ∙ ap spelled (written_over 15 c.args.rest.now 0x80 (omega arith))
