-- The laws of XTEA.
use Rattle.std.specs.Prelude.{◌≡◌, List, ℕ, ◌+◌, ◌^◌, ◌<◌, get_or}
use Rattle.std.proofs.Common.{ap, ap₂, ◌∙◌}
use Rattle.std.specs.Int.Bits.{bit_and, bit_xor}
use Rattle.std.proofs.lemmas.Nat.{xor_lt}
use Rattle.half_cipher.specs.Maps.{LawfulHalf}
use Rattle.half_cipher.specs.Words.{add, sub, shift_left, shift_right, words_of_key}
use Rattle.half_cipher.specs.Xtea.{mixed, first_addend, second_addend, cycle, uncycle, cycle_at, uncycle_at, sum_at, xtea}
use Rattle.half_cipher.specs.HalfLaws.{AreWords, lawful_rounds}
use Rattle.half_cipher.specs.Rotations.{add_lt, sub_lt, sub-add, add-sub}

mixed_lt : (v sum k : ℕ) → mixed v sum k < 2 ^ 32
mixed_lt v sum k = xor_lt 32 _ _ (add_lt (bit_xor (shift_left 4 v) (shift_right 5 v)) v) (add_lt sum k)

module _ (k : List ℕ) (before after : ℕ) where
  first_lt : (v1 : ℕ) → first_addend k before v1 < 2 ^ 32
  first_lt v1 = mixed_lt v1 before (get_or k (bit_and before 3) 0)

  second_lt : (v0 : ℕ) → second_addend k after v0 < 2 ^ 32
  second_lt v0 = mixed_lt v0 after (get_or k (bit_and (shift_right 11 after) 3) 0)

  cycle_undone : (v : ℕ × ℕ) → AreWords v → uncycle k before after (cycle k before after v) ≡ v
  cycle_undone v h =
      let v0 = add v.0 (first_addend k before v.1) in
      let back : sub (add v.1 (second_addend k after v0)) (second_addend k after v0) ≡ v.1 =
      sub-add v.1 (second_addend k after v0) h.1 (second_lt v0) in
      ap₂ (λ (a b : ℕ). (a, b))
      (ap (λ (v1 : ℕ). sub v0 (first_addend k before v1)) back ∙ sub-add v.0 (first_addend k before v.1) h.0 (first_lt v.1))
      back

  cycle_redone : (v : ℕ × ℕ) → AreWords v → cycle k before after (uncycle k before after v) ≡ v
  cycle_redone v h =
      let v1 = sub v.1 (second_addend k after v.0) in
      let back : add (sub v.0 (first_addend k before v1)) (first_addend k before v1) ≡ v.0 =
      add-sub v.0 (first_addend k before v1) h.0 (first_lt v1) in
      ap₂ (λ (a b : ℕ). (a, b))
      back
      (ap (λ (v0 : ℕ). add v1 (second_addend k after v0)) back ∙ add-sub v.1 (second_addend k after v.0) h.1 (second_lt v.0))

pub xtea_lawful : LawfulHalf xtea
xtea_lawful =
    lawful_rounds 32 (λ k. cycle_at (words_of_key k)) (λ k. uncycle_at (words_of_key k))
    (λ k key i n v h. (add_lt _ _, add_lt _ _))
    (λ k key i n v h. (sub_lt _ _, sub_lt _ _))
    (λ k key i n. cycle_undone (words_of_key k) (sum_at i) (sum_at (i + 1)))
    (λ k key i n. cycle_redone (words_of_key k) (sum_at i) (sum_at (i + 1)))
