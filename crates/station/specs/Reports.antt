-- A report: which gauges were heard under the key in force, with the last serial accepted from each.
use Rattle.std.specs.Prelude.{◌≡◌, ℕ, zero, suc, ◌*◌, Bool, if◌then◌else◌, not, List, [], ◌∷◌, ◌++◌, length, drop, ◌==◌, nat_lt}
use Rattle.std.specs.List.Sorted.{IsPermutation}
use Rattle.telegram.specs.Header.{four}
use Rattle.station.specs.declared.parts.Gauge.{Gauge}
use Rattle.station.specs.Calls.{Answer, Refused, Reported}
use Rattle.station.specs.State.{State, last_of}
use Rattle.station.specs.Tests.{Test, past}

-- a serial was accepted from the gauge
abbrev pub is_heard : List Gauge → ℕ → Bool
is_heard gauges g = not (last_of g gauges == 0)

-- of the n first gauges, those that were heard
unfoldable pub heard_of : List Gauge → ℕ → List ℕ
heard_of gauges zero = []
heard_of gauges (suc n) = heard_of gauges n ++ (if is_heard gauges n then n ∷ [] else [])

-- five bytes: the gauge and its last serial
abbrev pub entry : List Gauge → ℕ → List ℕ
entry gauges g = g ∷ four (last_of g gauges)

unfoldable pub listing : List Gauge → List ℕ → List ℕ
listing gauges [] = []
listing gauges (g ∷ gs) = entry gauges g ++ listing gauges gs

abbrev pub heard_gauges : State → List ℕ
heard_gauges s = heard_of s.gauges 16

abbrev pub report_tests : State → List ℕ → List Test
report_tests s out = (1, not s.started) ∷ (5, nat_lt (length out) (5 * length (heard_gauges s))) ∷ []

-- each gauge that was heard is listed once; in which order is left open
pub record Reporting (s : State) (out : List ℕ) (a : Answer) (b : List ℕ) : Type 0 where
  pub answers : a ≡ past (report_tests s out) Refused (Reported (length (heard_gauges s)) s.used.q s.used.h s.used.m)
  pub listed : List ℕ
  pub once : IsPermutation listed (heard_gauges s)
  pub leaves : b ≡ past (report_tests s out) (λ _. out) (listing s.gauges listed ++ drop (5 * length listed) out)
