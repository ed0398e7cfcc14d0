-- A fold over the numbers of the rounds.
use Rattle.std.specs.Prelude.{◌≡◌, ℕ, ◌-◌, ◌<◌, true, length, reverse, fold}
use Rattle.std.specs.Option.{unwrap_or}
use Rattle.std.specs.declared.ops.Range.{Range}
use Rattle.std.specs.Iterator.Runs.{Run}
use Rattle.std.proofs.Common.{sym, ap, ◌∙◌, arith}
use Rattle.std.proofs.iter.Yields.{nat_range_steps}
use Rattle.std.proofs.iter.runs.Sources.{nat_range_steps_back, range_runs, range_runs_back}
use Rattle.std.proofs.lemmas.List.{ext_get_or, get_or-reverse, length-reverse}
use Rattle.std.proofs.lemmas.List.FromFn.{fill_by_all, length-map-range_with_len, get_or-map-range_with_len}
use Rattle.half_cipher.specs.Rounds.{rounds, unrounds, keys_of}
use Rattle.half_cipher.specs.Iterated.{rounds_fold, unrounds_fold}

module _ (n : ℕ) where
  abbrev all : Range ℕ
  all = record { start = 0; end = n }

  counted_up : (p : Run nat_range_steps) → p.from ≡ all → p.whole ≡ true → p.items ≡ keys_of (λ i. i) n
  unfolding keys_of
  counted_up p from whole =
      let counts = range_runs p p.seen in
      let start = ap (λ (s : Range ℕ). s.start) from in
      let end = ap (λ (s : Range ℕ). s.end) from in
      let many : p.len ≡ n = omega (arith, counts.1 whole, start, end) in
      fill_by_all (λ i. i) p.items n 0 (sym p.long ∙ many)
      (λ k h. let within : k < p.len = omega arith in omega (arith, ap (λ o. unwrap_or o 0) (sym (p.reads k 0 within) ∙ counts.3 k within), start))

  counted_down : (p : Run nat_range_steps_back) → p.from ≡ all → p.whole ≡ true → p.items ≡ reverse (keys_of (λ i. i) n)
  unfolding keys_of
  counted_down p from whole =
      let counts = range_runs_back p p.seen in
      let start = ap (λ (s : Range ℕ). s.start) from in
      let end = ap (λ (s : Range ℕ). s.end) from in
      let many : p.len ≡ n = omega (arith, counts.1 whole, start, end) in
      let long = length-map-range_with_len (λ i. i) 0 n in
      ext_get_or 0 p.items _ (sym p.long ∙ many ∙ sym long ∙ sym (length-reverse (keys_of (λ i. i) n)))
      (λ k h. let within : k < p.len = omega (arith, p.long) in
      omega (
        arith,
        ap (λ o. unwrap_or o 0) (sym (p.reads k 0 within) ∙ counts.3 k within),
        end,
        many,
        long,
        get_or-reverse (keys_of (λ i. i) n) k 0 (omega (arith, many, long)),
        get_or-map-range_with_len (λ i. i) 0 n (length (keys_of (λ i. i) n) - 1 - k) (n - 1 - k) 0 (omega (arith, many, long)) (omega (arith, many, long)),
      ))

  module _ {A : Type 0} (f : ℕ → A → A) (x : A) where
    pub rounds_counted : (p : Run nat_range_steps) → p.from ≡ all → p.whole ≡ true → fold (λ x i. f i x) x p.items ≡ rounds f n x
    rounds_counted p from whole = ap (fold (λ x i. f i x) x) (counted_up p from whole) ∙ rounds_fold (λ i. i) f n x

    pub unrounds_counted : (p : Run nat_range_steps_back) → p.from ≡ all → p.whole ≡ true → fold (λ x i. f i x) x p.items ≡ unrounds f n x
    unrounds_counted p from whole = ap (fold (λ x i. f i x) x) (counted_down p from whole) ∙ unrounds_fold (λ i. i) f n x
