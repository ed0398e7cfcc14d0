-- The laws of Speck64/128.
use Rattle.std.specs.Prelude.{◌≡◌, List, ℕ, ◌+◌, ◌^◌, ◌<◌}
use Rattle.std.proofs.Common.{ap, ap₂, ◌∙◌, arith, lit<}
use Rattle.std.specs.Int.Bits.{bit_xor}
use Rattle.std.proofs.lemmas.Nat.{xor_lt}
use Rattle.block.proofs.Laws.{xor_twice}
use Rattle.block.specs.Bytes.{word_at}
use Rattle.half_cipher.specs.Maps.{LawfulHalf, IsHalfKey}
use Rattle.half_cipher.specs.Speck.{Schedule, first, next, round, round_at, round_key, speck, unround, unround_at}
use Rattle.half_cipher.specs.Words.{add, sub, words_of_key, rotate_left, rotate_right}
use Rattle.half_cipher.specs.HalfLaws.{AreWords, lawful_rounds}
use Rattle.half_cipher.specs.Iterated.{rounds_keep}
use Rattle.half_cipher.specs.Rotations.{add_lt, sub_lt, sub-add, add-sub, left_lt, right_lt, left-right, right-left}

module _ (k : ℕ) (kh : k < 2 ^ 32) where
  pub round-words : (v : ℕ × ℕ) → AreWords v → AreWords (round k v)
  round-words v h =
      let x = bit_xor (add (rotate_right 8 v.0) v.1) k in
      let hx : x < 2 ^ 32 = xor_lt 32 (add (rotate_right 8 v.0) v.1) k (add_lt (rotate_right 8 v.0) v.1) kh in
      (hx, xor_lt 32 (rotate_left 3 v.1) x (left_lt 3 29 v.1 h.1) hx)

  unround-words : (v : ℕ × ℕ) → AreWords v → AreWords (unround k v)
  unround-words v h =
      let y = rotate_right 3 (bit_xor v.1 v.0) in
      (left_lt 8 24 (sub (bit_xor v.0 k) y) (sub_lt (bit_xor v.0 k) y), right_lt 3 29 (bit_xor v.1 v.0) (xor_lt 32 v.1 v.0 h.1 h.0))

  round_undone : (v : ℕ × ℕ) → AreWords v → unround k (round k v) ≡ v
  round_undone v h =
      let x = bit_xor (add (rotate_right 8 v.0) v.1) k in
      let y-back : rotate_right 3 (bit_xor (bit_xor (rotate_left 3 v.1) x) x) ≡ v.1 =
      ap (rotate_right 3) (xor_twice (rotate_left 3 v.1) x) ∙ right-left 3 29 v.1 h.1 in
      ap₂ (λ (a b : ℕ). (a, b))
      (ap₂ (λ (a b : ℕ). rotate_left 8 (sub a b)) (xor_twice (add (rotate_right 8 v.0) v.1) k) y-back
      ∙ ap (rotate_left 8) (sub-add (rotate_right 8 v.0) v.1 (right_lt 8 24 v.0 h.0) h.1)
      ∙ left-right 8 24 v.0 h.0)
      y-back

  round_redone : (v : ℕ × ℕ) → AreWords v → round k (unround k v) ≡ v
  round_redone v h =
      let y = rotate_right 3 (bit_xor v.1 v.0) in
      let hy : y < 2 ^ 32 = right_lt 3 29 (bit_xor v.1 v.0) (xor_lt 32 v.1 v.0 h.1 h.0) in
      let x-back : bit_xor (add (rotate_right 8 (rotate_left 8 (sub (bit_xor v.0 k) y))) y) k ≡ v.0 =
      ap (λ (a : ℕ). bit_xor (add a y) k) (right-left 8 24 (sub (bit_xor v.0 k) y) (sub_lt (bit_xor v.0 k) y))
      ∙ ap (λ (a : ℕ). bit_xor a k) (add-sub (bit_xor v.0 k) y (xor_lt 32 v.0 k h.0 kh) hy)
      ∙ xor_twice v.0 k in
      ap₂ (λ (a b : ℕ). (a, b))
      x-back
      (ap₂ bit_xor (left-right 3 29 (bit_xor v.1 v.0) (xor_lt 32 v.1 v.0 h.1 h.0)) x-back ∙ xor_twice v.1 v.0)

-- ---- the round keys are words

abbrev FourWords : Schedule → Type 0
FourWords s = (s.l0 < 2 ^ 32) × (s.l1 < 2 ^ 32) × (s.l2 < 2 ^ 32) × (s.k < 2 ^ 32)

next-words : (i : ℕ) → i < 2 ^ 32 → (s : Schedule) → FourWords s → FourWords (next i s)
next-words i hi s h = let lk = round-words i hi (s.l0, s.k) (h.0, h.3) in (h.1, h.2, lk.0, lk.1)

word_lt : (k : List ℕ) → IsHalfKey k → (i : ℕ) → i < 13 → word_at k i < 2 ^ 32
word_lt k key i h =
    omega (arith, key.all i (omega (arith, key.long)), key.all (i + 1) (omega (arith, key.long)), key.all (i + 2) (omega (arith, key.long)), key.all (i + 3) (omega (arith, key.long)))

first_words : (k : List ℕ) → IsHalfKey k → FourWords (first (words_of_key k))
first_words k key = (word_lt k key 8 (lit< tt), word_lt k key 4 (lit< tt), word_lt k key 0 (lit< tt), word_lt k key 12 (lit< tt))

key_word : (k : List ℕ) → IsHalfKey k → (i : ℕ) → i < 27 → round_key (words_of_key k) i < 2 ^ 32
key_word k key i h = (rounds_keep FourWords i next (λ j l. next-words j (omega arith)) (first (words_of_key k)) (first_words k key)).3

pub speck_lawful : LawfulHalf speck
speck_lawful =
    lawful_rounds 27 (λ k. round_at (words_of_key k)) (λ k. unround_at (words_of_key k))
    (λ k key i h. round-words (round_key (words_of_key k) i) (key_word k key i h))
    (λ k key i h. unround-words (round_key (words_of_key k) i) (key_word k key i h))
    (λ k key i h. round_undone (round_key (words_of_key k) i) (key_word k key i h))
    (λ k key i h. round_redone (round_key (words_of_key k) i) (key_word k key i h))
