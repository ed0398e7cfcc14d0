use Rattle.std.proofs.Common.{refl, rules, tests}
use Rattle.std.proofs.lemmas.Iterator.{cases_from_all, YieldsList-from_slice}
use Rattle.lines.proofs.Splitting.{Blank, Solid, Only, only_blanks, not_only_blanks}
use Rattle.lines.proofs.split.no_field.Goals as goal

pub returns-then-all : goal.returns-then-all
returns-then-all c =
    let text = c.args.text.now in
    let all : Only text c.all.result =
    cases_from_all _ _ c.all.result Blank Solid c.all.ensures.ran (YieldsList-from_slice text (search rules)) (λ x q k. search (rules, tests)) (λ x q k. search (rules, tests)) in
    only_blanks text c.all.result all c.if-all.true

pub returns-else-all : goal.returns-else-all
returns-else-all c =
    let text = c.args.text.now in
    let all : Only text c.all.result =
    cases_from_all _ _ c.all.result Blank Solid c.all.ensures.ran (YieldsList-from_slice text (search rules)) (λ x q k. search (rules, tests)) (λ x q k. search (rules, tests)) in
    (refl, not_only_blanks text c.all.result all c.if-all.false)
