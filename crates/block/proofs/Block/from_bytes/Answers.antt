use Rattle.std.proofs.Common.{sym, ◌∙◌, arith, rules}
use Rattle.block.specs.Bytes.{after, spelled}
use Rattle.block.proofs.Words.{spelled_16}
use Rattle.block.proofs.Block.from_bytes.Goals as goal

pub returns : goal.returns
unfolding spelled after
returns c = omega (arith, c.from_be_bytes.ensures, c.from_be_bytes-2.ensures) ∙ sym (spelled_16 c.args.bytes (search rules))
