use Rattle.std.proofs.Common.{sym, ap, ◌∙◌}
use Rattle.block.specs.Field.{power}
use Rattle.block.specs.Num.{num}
use Rattle.mode.proofs.Hashes.{square_is, squared-whole, squared_part}
use Rattle.mode.proofs.hash.square.Goals as goal

pub returns-then-is_whole : goal.returns-then-is_whole
returns-then-is_whole g c =
    c.double.ensures
    ∙ squared-whole (g.M.Multiplier.element c.args.multiplier.now) c.args.text.now (num c.product-square.result)
    (c.product-square.ensures ∙ square_is (num c.polynomial-z.result) ∙ ap (λ z. power z 2) c.polynomial-z.ensures)
    (sym c.if-is_whole.ensures)

pub returns-else-is_whole : goal.returns-else-is_whole
returns-else-is_whole g c =
    squared_part (g.M.Multiplier.element c.args.multiplier.now) c.args.text.now (num c.product-square.result)
    (c.product-square.ensures ∙ square_is (num c.polynomial-z.result) ∙ ap (λ z. power z 2) c.polynomial-z.ensures)
    (sym c.if-is_whole.ensures)
