use Rattle.std.proofs.Common.{◌≡◌, ◌*◌, ◌%◌, ap, ◌∙◌, arith, rules}
use lib.Bits.{bit_xor}
use Rattle.block.specs.Num.{num}
use Rattle.block.proofs.Laws.{product-sum}
use Rattle.block.proofs.Product.{turn, turn_end, with_bit, without_bit}
use Rattle.block.proofs.Block.product.Goals as goal
use Rattle.block.proofs.Block.product.Goals.{then-rest-eq1, else-rest-eq1}

pub loop-init : goal.loop-init
loop-init c = product-sum (num c.args.self) (num c.args.other) (search rules)

summed : (c : goal.After-half-rest) → num c.if-rest-eq1.sum ≡ bit_xor (num c.loop.sum) (num c.loop.rest % 2 * num c.loop.doubled)
summed c =
    elim c.if-rest-eq1.branch [
      | then-rest-eq1 w ↦ ap num w.sum-is ∙ w.bitxor-sum.ensures ∙ with_bit (num c.loop.rest % 2) (num c.loop.sum) (num c.loop.doubled) (omega (arith, w.if-rest-eq1.true))
      | else-rest-eq1 w ↦ ap num w.sum-is ∙ without_bit (num c.loop.rest % 2) (num c.loop.sum) (num c.loop.doubled) (omega (arith, w.if-rest-eq1.false))
    ]

pub loop-preserved : goal.loop-preserved
loop-preserved c =
    turn c.loop.counter (num c.loop.sum) (num c.loop.doubled) (num c.loop.rest) _ _ _ _
    c.loop-test.true (summed c) c.double-doubled.ensures c.half-rest.ensures c.loop.invariant

pub returns : goal.returns
returns c =
    turn_end c.loop.counter (num c.loop.sum) (num c.loop.doubled) (num c.loop.rest) _ c.loop-test.false c.loop.invariant
