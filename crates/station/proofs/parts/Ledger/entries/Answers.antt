use Rattle.std.proofs.Common.{ℕ, not, eqb, List, [], ◌∷◌, ◌++◌, length, get_or, sym, ap, ap₂, ◌∙◌, arith, length-append, rules, ne_eqb}
use Rattle.station.specs.Held.{held}
use Rattle.station.specs.declared.held.Held.{Held}
use Rattle.station.specs.State.{last_of}
use Rattle.station.proofs.Listed.{heard_more, unheard_same}
use Rattle.station.specs.Reports.{heard_of}
use Rattle.station.proofs.parts.Ledger.entries.Goals as goal
use Rattle.station.proofs.parts.Ledger.entries.Goals.{then-gauge-ne0, else-gauge-ne0}

abbrev items : Held (List ℕ) 16 → List (List ℕ)
items e = held e

pub loop-number-init : goal.loop-number-init
unfolding heard_of
loop-number-init c = search rules

pub loop-number-preserved : goal.loop-number-preserved
loop-number-preserved c =
    let gs = c.args.self.now.gauges in
    let i = c.loop-number.number in
    elim c.if-gauge-ne0.branch [
      | then-gauge-ne0 w ↦
          let heard = heard_more gs i (ap not (ne_eqb (last_of i gs) 0 w.if-gauge-ne0.true)) in
          let same = ap items w.entries-is in
          let long = ap length w.push.ensures ∙ length-append (held c.loop-number.entries) (_ ∷ []) in (
            omega (arith, ap length same, long, c.loop-number.invariant.0),
            same ∙ w.push.ensures ∙ ap₂ (λ xs e. xs ++ (e ∷ [])) c.loop-number.invariant.1 (ap (λ (r : List ℕ). i ∷ get_or r 0 0 ∷ get_or r 1 0 ∷ get_or r 2 0 ∷ get_or r 3 0 ∷ []) w.to_be_bytes.ensures) ∙ sym heard,
          )
      | else-gauge-ne0 w ↦
          let unheard = unheard_same gs i (ap (λ (n : ℕ). not (eqb n 0)) w.if-gauge-ne0.false) in
          let same = ap items w.entries-is in
          (omega (arith, ap length same, c.loop-number.invariant.0), same ∙ c.loop-number.invariant.1 ∙ sym unheard)
    ]
