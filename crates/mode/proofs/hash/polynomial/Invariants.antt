use Rattle.std.proofs.Common.{◌≡◌, map, take}
use Rattle.block.specs.Bytes.{spelled}
use Rattle.block.specs.Num.{num}
use Rattle.mode.specs.Hash.{poly}
use Rattle.mode.proofs.hash.polynomial.Given as goal

-- the polynomial of the blocks so far
abbrev pub invariant-loop-block : goal.invariant-loop-block
invariant-loop-block g l = num l.sum ≡ poly (g.M.Multiplier.element l.multiplier) (map spelled (take l.block-index l.blocks))
