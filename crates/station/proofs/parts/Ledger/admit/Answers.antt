use Rattle.std.proofs.Common.{◌≡◌, ℕ, true, false, List, Some, None, refl, ap, ◌∙◌, subst}
use Rattle.std.proofs.lemmas.Result.{err_from_is_err_and}
use Rattle.std.specs.List.{between}
use Rattle.station.specs.Admission.{Admitted}
use Rattle.station.specs.Answers.{refusal}
use Rattle.station.specs.State.{running}
use Rattle.station.specs.Steps.{with_message}
use Rattle.station.specs.Tests.{admission, message, past}
use Rattle.station.proofs.Opens.{accepts, counts, heard_told, mismatched, no_message, part_message, passed, some_message, stays, stopped, with_use}
use Rattle.station.proofs.parts.Ledger.admit.Goals as goal

pub returns-in_err-incoming-clause-admits : goal.returns-in_err-incoming-clause-admits
returns-in_err-incoming-clause-admits g c =
    let s = running g.C.Cipher g.M.Multiplier c.args.hbs.now c.args.self.now in
    let b = c.args.watch.now.bytes.now in
    let n = refusal c.in_err-incoming.field-0.0 in
    let from = err_from_is_err_and c.from_residual.result c.from_residual.ensures.1 in
    let stops = subst (λ (z : List ℕ). past (admission s c.args.wanted z) Some None ≡ Some n) c.contents.ensures c.in_err-incoming.ensures in
    record {
      answers = simp (from.1, from.2) (stopped s c.args.wanted b n stops);
      moves = stays s c.args.wanted b n stops;
      long = refl;
    }

pub returns-in_err-open_part-clause-admits : goal.returns-in_err-open_part-clause-admits
returns-in_err-open_part-clause-admits g c =
    let s = running g.C.Cipher g.M.Multiplier c.args.hbs.now c.args.self.now in
    let b = c.args.watch.now.bytes.now in
    let x = c.in_ok-incoming.field-0 in
    let admitted : Admitted s c.args.wanted b x = subst (λ (z : List ℕ). Admitted s c.args.wanted z x) c.contents.ensures c.in_ok-incoming.ensures in
    let header = c.as_slice.ensures ∙ c.copied-header.ensures ∙ ap (between x.incoming.places.header.start x.incoming.places.header.end) c.contents-2.ensures in
    let opens = part_message s b x.incoming admitted.told false _ c.open_part.new.self.bytes.now header c.in_err-open_part.ensures.opens in
    let none = no_message (message s b) (λ m. with_message m b) opens in
    let from = err_from_is_err_and c.from_residual-in_err-open_part.result c.from_residual-in_err-open_part.ensures.1 in
    let fault = c.in_err-open_part.ensures.fault in
    record {
      answers = simp (from.1, from.2, fault) (mismatched s c.args.wanted b admitted.passed none);
      moves = ap (with_use s) admitted.wear ∙ counts s c.args.wanted b admitted.passed none;
      long = c.open_part.ensures.len;
    }

pub returns-clause-admits : goal.returns-clause-admits
returns-clause-admits g c =
    let s = running g.C.Cipher g.M.Multiplier c.args.hbs.now c.args.self.now in
    let b = c.args.watch.now.bytes.now in
    let x = c.in_ok-incoming.field-0 in
    let admitted : Admitted s c.args.wanted b x = subst (λ (z : List ℕ). Admitted s c.args.wanted z x) c.contents.ensures c.in_ok-incoming.ensures in
    let left = c.open_part.new.self.bytes.now in
    let header = c.as_slice.ensures ∙ c.copied-header.ensures ∙ ap (between x.incoming.places.header.start x.incoming.places.header.end) c.contents-2.ensures in
    let opens = part_message s b x.incoming admitted.told true _ left header c.in_ok-open_part.ensures.opens in
    let found = some_message (message s b) (λ m. with_message m b) left opens in
    record {
      answers = record {
        passed = passed s c.args.wanted b admitted.passed found.0 found.1;
        told = admitted.told;
        message = found.0;
        opens = found.1;
        leaves = found.2;
      };
      moves =
          ap (running g.C.Cipher g.M.Multiplier c.args.hbs.now) c.hear.ensures
          ∙ heard_told s b x.incoming admitted.told x.sender.number _ admitted.sender admitted.wear
          ∙ accepts s c.args.wanted b admitted.passed found.0 found.1;
      long = c.open_part.ensures.len;
    }
