-- What is left of an opening once all tests but the last are passed, and once it is accepted.
use Rattle.std.specs.Prelude.{◌≡◌, ℕ, List, length, Some, None, Result, MatchResult, slice_set}
use Rattle.telegram.specs.Format.{parts}
use Rattle.telegram.specs.declared.kind.Kind.{Kind}
use Rattle.station.specs.declared.parts.Ledger.{Ledger}
use Rattle.station.specs.declared.admission.Admission.{Admission}
use Rattle.station.specs.declared.incoming.Incoming.{Incoming}
use Rattle.station.specs.declared.fault.StationFault.{StationFault}
use Rattle.station.specs.Answers.{refusal}
use Rattle.station.specs.Incoming.{Told}
use Rattle.station.specs.State.{State}
use Rattle.station.specs.Steps.{accepting, refusing, with_message}
use Rattle.station.specs.Tests as Tests
use Rattle.station.specs.Tests.{admission, opening_tests, past}
use Rattle.station.specs.Use.{counted, use_of}

-- a gauge's serial is heard
abbrev pub heard : ℕ → ℕ → Ledger → Ledger
heard gauge serial l = record l { gauges = slice_set l.gauges gauge (record { last = serial }) }

-- the tests of an opening of b were passed, with what is told of the telegram and the wear counted
pub record Admitted (s : State) (wanted : Kind) (b : List ℕ) (x : Admission) : Type 0 where
  pub passed : past (admission s wanted b) Some None ≡ None
  pub told : Told b x.incoming
  pub sender : x.sender.number ≡ x.incoming.gauge
  pub wear : use_of x.wear ≡ counted (length (parts b).header) (length (parts b).ciphertext) s.used

-- b was opened to b', with what is told of the telegram
pub record Opens (s : State) (wanted : Kind) (b b' : List ℕ) (x : Incoming) : Type 0 where
  pub passed : past (opening_tests s wanted b) Some None ≡ None
  pub told : Told b x
  pub message : List ℕ
  pub opens : Tests.message s b ≡ Some message
  pub leaves : b' ≡ with_message message b

-- the half that both openings of b share came to r, and left b' and the state t
pub record Admits (s : State) (wanted : Kind) (b : List ℕ) (r : Result Incoming StationFault) (b' : List ℕ) (t : State) : Type 0 where
  pub answers : MatchResult r (Opens s wanted b b') (λ fault. past (opening_tests s wanted b) Some None ≡ Some (refusal fault))
  pub moves : t ≡ past (opening_tests s wanted b) (refusing s b) (accepting s.pending s b)
  pub long : length b' ≡ length b
