use Rattle.std.proofs.Common.{eqb, true, false, ap, ◌∙◌}
use Rattle.std.specs.Option.{option_copied}
use Rattle.block.specs.Num.{num}
use Rattle.mode.specs.Keys.{held}
use Rattle.mode.proofs.Seals.{opens_so}
use Rattle.mode.proofs.sealing.open.Goals as goal

pub returns-then-eq-clause-opens : goal.returns-then-eq-clause-opens
returns-then-eq-clause-opens g c =
    let start = num c.decipher-start.result in
    let keys = held g.C.Cipher g.M.Multiplier c.args.cipher.now c.args.multiplier.now in
    opens_so keys (option_copied c.args.header) (num c.args.tag) c.args.text.now start c.apply_stream.new.text true
    c.decipher-start.ensures c.apply_stream.ensures (c.if-eq.ensures ∙ ap (λ x. eqb x start) c.hash.ensures)

pub returns-else-eq-clause-opens : goal.returns-else-eq-clause-opens
returns-else-eq-clause-opens g c =
    let start = num c.decipher-start.result in
    let keys = held g.C.Cipher g.M.Multiplier c.args.cipher.now c.args.multiplier.now in
    opens_so keys (option_copied c.args.header) (num c.args.tag) c.args.text.now start c.apply_stream.new.text false
    c.decipher-start.ensures c.apply_stream.ensures (c.if-eq.ensures ∙ ap (λ x. eqb x start) c.hash.ensures)
