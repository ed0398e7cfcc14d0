use Rattle.std.proofs.Common.{◌≡◌, ℕ, ◌*◌, ◌<◌, List, ◌++◌, length, drop, sym, refl, ap, ◌∙◌, ap₂, arith, rules, le-ltb, lt-ltb}
use Rattle.std.proofs.lemmas.List.{length-map}
use Rattle.std.specs.Option.{option_copied}
use Rattle.std.proofs.lemmas.Result.{err_from_is_err_and}
use native.Mathlib.Nat.{sub-zero}
use Rattle.std.specs.List.{flat_map}
use Rattle.mode.specs.Keys.{keys}
use Rattle.station.specs.Calls.{Reported}
use Rattle.station.specs.Reports.{entry, heard_gauges}
use Rattle.station.specs.State.{running, unstarted}
use Rattle.station.proofs.Listed.{joined, reports, reports_idle, reports_short}
use Rattle.station.proofs.parts.Station.report.Goals as goal

pub returns-in_err-ledger : goal.returns-in_err-ledger
returns-in_err-ledger g c =
    let k = keys g.C.Cipher g.M.Multiplier c.args.self.now.hbs in
    let from = err_from_is_err_and c.from_residual.result c.from_residual.ensures.1 in
    rw (sym c.as_ref.ensures.value ∙ ap option_copied c.in_err-ledger.ensures.ok_part)
    (reports_idle (unstarted k.scheme k.key k.hash_key) c.args.out.now refl (search rules) refl)

pub returns-then-out-bytes : goal.returns-then-out-bytes
returns-then-out-bytes g c =
    let s = running g.C.Cipher g.M.Multiplier c.args.self.now.hbs c.in_ok-ledger.ledger.now in
    let is = c.as_slice-listed.ensures ∙ c.entries-entries.ensures in
    let short : length c.args.out.now < 5 * length (heard_gauges s) = omega (arith, c.if-out-bytes.true, c.as_flattened-bytes.ensures.len, ap length is, length-map (heard_gauges s) (entry s.gauges)) in
    rw (sym c.as_ref.ensures.value ∙ ap option_copied c.in_ok-ledger.ensures.ok_part) (reports_short s c.args.out.now refl (lt-ltb _ _ short) refl refl)

pub returns : goal.returns
returns g c =
    let s = running g.C.Cipher g.M.Multiplier c.args.self.now.hbs c.in_ok-ledger.ledger.now in
    let heard = heard_gauges s in
    let count = length-map heard (entry s.gauges) in
    let is = c.as_slice-listed.ensures ∙ c.entries-entries.ensures in
    let long : length c.as_flattened-bytes.result.now ≡ 5 * length heard = omega (arith, c.as_flattened-bytes.ensures.len, ap length is, count) in
    let bytes = c.copy_from_slice.ensures.after ∙ c.as_flattened-bytes.ensures.value ∙ ap (flat_map (λ x. x)) is ∙ joined s.gauges heard in
    rw (sym c.as_ref.ensures.value ∙ ap option_copied c.in_ok-ledger.ensures.ok_part)
    (reports s c.args.out.now refl (le-ltb _ _ (omega (arith, long, c.if-out-bytes.false)))
    (ap (λ (n : ℕ). Reported n s.used.q s.used.h s.used.m) (ap length is ∙ count))
    (ap₂ (λ (x : List ℕ) (n : ℕ). x ++ drop n c.args.out.now) bytes (sub-zero (length c.as_flattened-bytes.result.now) ∙ long)))
