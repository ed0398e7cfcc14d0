use Rattle.block.specs.Num.{num}
use Rattle.multiplier.proofs.Halves.{double-four}
use Rattle.multiplier.proofs.table.sixteenfold.Goals as goal

pub returns : goal.returns
returns c = cc (double-four (num c.args.block))
