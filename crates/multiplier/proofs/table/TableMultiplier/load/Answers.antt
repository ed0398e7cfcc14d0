use Rattle.std.proofs.Common.{refl, ◌∙◌, arith, length-set, rules}
use Rattle.block.proofs.Laws.{product_one}
use Rattle.block.specs.Num.{num}
use Rattle.multiplier.proofs.Entries.{first_two, two_more, of_its_own}
use Rattle.multiplier.proofs.table.TableMultiplier.load.Goals as goal

pub loop-k-init : goal.loop-k-init
loop-k-init c = (refl, first_two c.args.block (search rules))

pub loop-k-preserved : goal.loop-k-preserved
loop-k-preserved c = (
  simp length-set c.loop-k.invariant.0,
  two_more (num c.args.block) c.loop-k.k c.loop-k.products c.double-even.result c.bitxor.result
      (search rules) c.loop-k.invariant.0 c.loop-k.auto.k c.loop-k-test.true c.loop-k.invariant.1 c.double-even.ensures c.bitxor.ensures,
)

pub invariant_of-self : goal.invariant_of-self
invariant_of-self c = record { filled = of_its_own (num c.args.block) c.loop-k.products (search rules) (λ k h. c.loop-k.invariant.1 k (omega arith)) }

pub returns : goal.returns
returns c = c.loop-k.invariant.1 1 (omega arith) ∙ product_one (num c.args.block) (search rules)
