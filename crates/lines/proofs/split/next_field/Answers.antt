use Rattle.std.proofs.Common.{refl, rules, tests}
use Rattle.std.proofs.lemmas.Iterator.{IsFirst-from_position, YieldsList-from_slice}
use Rattle.lines.proofs.Splitting.{Blank, Solid, First, fields_over, fields_next}
use Rattle.lines.proofs.split.next_field.Goals as goal

pub returns-in_default : goal.returns-in_default
returns-in_default c =
    let text = c.args.text.now in
    let start : First Solid Blank text c.position.result =
    IsFirst-from_position _ _ c.position.result Solid Blank c.position.ensures.ran (YieldsList-from_slice text (search rules)) (λ x q k. search (rules, tests)) (λ x q k. search (rules, tests)) in
    (refl, fields_over text c.position.result start c.in_default.is)

pub returns : goal.returns
returns c =
    let text = c.args.text.now in
    let field = c.split_at.result.1.now in
    let start : First Solid Blank text c.position.result =
    IsFirst-from_position _ _ c.position.result Solid Blank c.position.ensures.ran (YieldsList-from_slice text (search rules)) (λ x q k. search (rules, tests)) (λ x q k. search (rules, tests)) in
    let end : First Blank Solid field c.position-2.result =
    IsFirst-from_position _ _ c.position-2.result Blank Solid c.position-2.ensures.ran (YieldsList-from_slice field (search rules)) (λ x q k. search (rules, tests)) (λ x q k. search (rules, tests)) in
    let parts = fields_next text field c.position.result c.position-2.result c.in-Some.start start c.in-Some.is c.split_at.ensures.back end in
    search (rules, parts)
