use Rattle.std.proofs.Common.{rules}
use Rattle.block.proofs.Words.{words_half}
use Rattle.block.proofs.Block.half.Goals as goal

pub returns : goal.returns
returns c = words_half c.args.self.hi c.args.self.lo (search rules) (search rules)
