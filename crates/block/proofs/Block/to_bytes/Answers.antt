use Rattle.std.proofs.Common.{rules}
use Rattle.block.proofs.Words.{bytes_16}
use Rattle.block.proofs.Block.to_bytes.Goals as goal

pub returns : goal.returns
returns c =
    simp (c.to_be_bytes.ensures, c.to_be_bytes-2.ensures) (bytes_16 c.args.self.hi c.args.self.lo (search rules) (search rules))
