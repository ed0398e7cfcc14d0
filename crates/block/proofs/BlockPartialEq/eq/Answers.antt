use Rattle.std.proofs.Common.{rules}
use Rattle.block.proofs.Words.{words_eqb}
use Rattle.block.proofs.BlockPartialEq.eq.Goals as goal

pub returns : goal.returns
returns c =
    words_eqb c.args.self.now.hi c.args.other.now.hi c.args.self.now.lo c.args.other.now.lo (search rules) (search rules)
