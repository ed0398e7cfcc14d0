use Rattle.std.proofs.Common.{◌≡◌, ◌-◌}
use lib.Bits.{bit_xor}
use Rattle.block.specs.Field.{sum, product}
use Rattle.block.specs.Num.{num}
use Rattle.block.proofs.Block.product.Given as goal

-- what is summed, with what is left to sum, is the product
abbrev pub invariant-loop : goal.invariant-loop
invariant-loop l =
    bit_xor (num l.sum) (sum (128 - l.counter) (num l.doubled) (num l.rest)) ≡ product (num l.initial.doubled) (num l.initial.rest)
