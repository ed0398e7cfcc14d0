use Rattle.std.proofs.Common.{sym, ap, ◌∙◌, rules}
use Rattle.std.specs.Option.{option_copied_mut}
use Rattle.std.proofs.lemmas.Result.{err_from_is_err_and}
use Rattle.station.specs.Answers.{refusal}
use Rattle.station.specs.State.{running}
use Rattle.station.proofs.Opens.{accepted, answers_told, refused}
use Rattle.station.proofs.parts.Station.open.Goals as goal

pub returns-in_err-incoming : goal.returns-in_err-incoming
returns-in_err-incoming g c =
    let s = running g.C.Cipher g.M.Multiplier c.args.self.now.hbs c.in_ok-ledger.ledger.now in
    let admit = c.in_err-incoming.ensures.admits in
    let from = err_from_is_err_and c.from_residual-in_err-incoming.result c.from_residual-in_err-incoming.ensures.1 in
    rw (sym c.as_mut.ensures.value ∙ ap option_copied_mut c.in_ok-ledger.ensures.ok_part)
    (refused s c.args.buffer.now admit.moves (refusal c.in_err-incoming.field-0.0) admit.answers (simp (from.1, from.2)) (search rules))

pub returns : goal.returns
returns g c =
    let s = running g.C.Cipher g.M.Multiplier c.args.self.now.hbs c.in_ok-ledger.ledger.now in
    let b = c.args.buffer.now in
    let admit = c.in_ok-incoming.ensures.admits in
    let opens = admit.answers in
    rw (sym c.as_mut.ensures.value ∙ ap option_copied_mut c.in_ok-ledger.ensures.ok_part)
    (accepted s b admit.moves opens.message opens.passed opens.opens (answers_told s b c.in_ok-incoming.incoming opens.told)
    (let is = opens.leaves in search rules))
