use Rattle.std.proofs.Common.{◌≡◌, take}
use Rattle.block.specs.Bytes.{spelled}
use Rattle.block.specs.Field.{product}
use Rattle.block.specs.Num.{num}
use Rattle.multiplier.specs.Products.{held}
use Rattle.multiplier.proofs.table.TableMultiplier.times.Given as goal

-- the product with the bytes so far
abbrev pub invariant-loop-byte : goal.invariant-loop-byte
invariant-loop-byte l = num l.sum ≡ product (held l.self.products 1) (spelled (take l.byte-index l.byte-items))
