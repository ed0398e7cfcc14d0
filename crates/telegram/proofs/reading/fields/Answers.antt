use Rattle.std.proofs.Common.{arith, rules}
use Rattle.telegram.proofs.Accepts.{refused, read}
use Rattle.telegram.proofs.reading.fields.Goals as goal

pub returns-then-sealed-sizes : goal.returns-then-sealed-sizes
returns-then-sealed-sizes c =
    let split = c.in-Some-default-len2-up.ensures.cases in
    refused c.args.buffer.now c.length_of.result c.length_of-2.result c.in-Some-default-len2-up.field-0-1.now
    (omega arith) c.length_of.ensures split.2 c.in-Some-default-len2-up.len_at_least c.length_of-2.ensures
    (omega (arith, c.in_ok-sizes.ensures))

pub returns : goal.returns
returns c =
    let split = c.in-Some-default-len2-up.ensures.cases in
    let sizes = c.in_ok-sizes.ensures in
    read c.args.buffer.now c.length_of.result c.length_of-2.result c.in-Some-default-len2-up.field-0-1.now
    (omega arith) c.length_of.ensures split.2 c.in-Some-default-len2-up.len_at_least c.length_of-2.ensures
    _ (λ _ _. search rules) (omega arith, omega arith) (omega arith) (omega arith) split.1 c.split_at.ensures.front c.split_at.ensures.back (rw (← sizes.0, ← sizes.1) c.from.ensures)
