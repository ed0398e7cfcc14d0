use Rattle.std.proofs.Common.{◌≡◌, ◌*◌, length}
use Rattle.block.specs.Num.{num}
use Rattle.multiplier.specs.Products.{Products}
use Rattle.multiplier.proofs.table.TableMultiplier.load.Given as goal

-- the entries below 2k stand
abbrev pub invariant-loop-k : goal.invariant-loop-k
invariant-loop-k l = (length l.products ≡ 16) × Products (num l.block) (2 * l.k) l.products
