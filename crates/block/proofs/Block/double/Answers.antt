use Rattle.std.proofs.Common.{rules}
use Rattle.block.proofs.Words.{words-double}
use Rattle.block.proofs.Block.double.Goals as goal

pub returns : goal.returns
returns c =
    words-double c.args.self.hi c.args.self.lo c.wrapping_neg-mask.result (search rules) (search rules) (search rules)
    c.wrapping_neg-mask.ensures
