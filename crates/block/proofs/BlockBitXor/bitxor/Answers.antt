use Rattle.std.proofs.Common.{rules}
use Rattle.block.proofs.Words.{words-xor}
use Rattle.block.proofs.BlockBitXor.bitxor.Goals as goal

pub returns : goal.returns
returns c =
    words-xor c.args.self.hi c.args.self.lo c.args.rhs.hi c.args.rhs.lo (search rules) (search rules)
