-- The entries of a report.
use Rattle.std.proofs.Common.{◌≡◌, ℕ, ◌+◌, ◌*◌, true, false, cond, ltb, List, [], ◌∷◌, ◌++◌, length, drop, sym, refl, ap, ◌∙◌, add-one, map}
use Rattle.std.proofs.lemmas.List.{append-nil, map-append}
use Rattle.std.specs.List.{flat_map}
use Rattle.station.specs.declared.parts.Gauge.{Gauge}
use Rattle.std.specs.List.Sorted.{IsPermutation}
use Rattle.std.proofs.lemmas.List.Sorted.{IsPermutation-refl}
use Rattle.station.specs.Calls.{Answer, Refused, Reported}
use Rattle.station.specs.Reports.{Reporting, entry, heard_gauges, heard_of, is_heard, listing, report_tests}
use Rattle.station.specs.State.{State}
use Rattle.station.specs.Tests.{past}

-- one gauge more
more : (gs : List Gauge) (i : ℕ) → heard_of gs (i + 1) ≡ heard_of gs i ++ cond (is_heard gs i) (i ∷ []) []
unfolding heard_of
more gs i = ap (heard_of gs) (add-one i)

pub heard_more : (gs : List Gauge) (i : ℕ) → is_heard gs i ≡ true → map (entry gs) (heard_of gs (i + 1)) ≡ map (entry gs) (heard_of gs i) ++ (entry gs i ∷ [])
heard_more gs i heard =
    ap (map (entry gs)) (more gs i ∙ ap (λ b. heard_of gs i ++ cond b (i ∷ []) []) heard) ∙ map-append (entry gs) (heard_of gs i) (i ∷ [])

pub unheard_same : (gs : List Gauge) (i : ℕ) → is_heard gs i ≡ false → map (entry gs) (heard_of gs (i + 1)) ≡ map (entry gs) (heard_of gs i)
unheard_same gs i unheard =
    ap (map (entry gs)) (more gs i ∙ ap (λ b. heard_of gs i ++ cond b (i ∷ []) []) unheard ∙ append-nil (heard_of gs i))

-- the entries, joined
pub joined : (gs : List Gauge) (xs : List ℕ) → flat_map (λ x. x) (map (entry gs) xs) ≡ listing gs xs
unfolding listing
joined gs [] = refl
joined gs (x ∷ xs) = ap (λ rest. entry gs x ++ rest) (joined gs xs)

-- ---- a report, from what its tests found

module _ (s : State) (out : List ℕ) {a : Answer} {b : List ℕ} where
  listed_as : (listed : List ℕ) → IsPermutation listed (heard_gauges s)
      → a ≡ past (report_tests s out) Refused (Reported (length (heard_gauges s)) s.used.q s.used.h s.used.m)
      → b ≡ past (report_tests s out) (λ _. out) (listing s.gauges listed ++ drop (5 * length listed) out) → Reporting s out a b
  listed_as listed once answers leaves = record { answers = answers; listed = listed; once = once; leaves = leaves }

  rising : a ≡ past (report_tests s out) Refused (Reported (length (heard_gauges s)) s.used.q s.used.h s.used.m)
      → b ≡ past (report_tests s out) (λ _. out) (listing s.gauges (heard_gauges s) ++ drop (5 * length (heard_gauges s)) out) → Reporting s out a b
  rising = listed_as (heard_gauges s) (IsPermutation-refl (heard_gauges s))

  pub reports_idle : s.started ≡ false → a ≡ Refused 1 → b ≡ out → Reporting s out a b
  reports_idle idle answers leaves = rising (answers ∙ sym (simp idle)) (leaves ∙ sym (simp idle))

  module _ (started : s.started ≡ true) where
    pub reports_short : ltb (length out) (5 * length (heard_gauges s)) ≡ true → a ≡ Refused 5 → b ≡ out → Reporting s out a b
    reports_short short answers leaves = rising (answers ∙ sym (simp (started, short))) (leaves ∙ sym (simp (started, short)))

    pub reports : ltb (length out) (5 * length (heard_gauges s)) ≡ false
        → a ≡ Reported (length (heard_gauges s)) s.used.q s.used.h s.used.m
        → b ≡ listing s.gauges (heard_gauges s) ++ drop (5 * length (heard_gauges s)) out → Reporting s out a b
    reports room answers leaves = rising (answers ∙ sym (simp (started, room))) (leaves ∙ sym (simp (started, room)))
