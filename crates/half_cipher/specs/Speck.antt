-- Speck64/128: 27 rounds on two words, x and y, under a key whose four words are l2, l1, l0 and k0.
use Rattle.std.specs.Prelude.{List, ℕ, get_or}
use Rattle.std.specs.Int.Bits.{bit_xor}
use Rattle.half_cipher.specs.Maps.{HalfMaps}
use Rattle.half_cipher.specs.Pairs.{parted, joined}
use Rattle.half_cipher.specs.Rounds.{rounds, unrounds}
use Rattle.half_cipher.specs.Words.{add, sub, rotate_left, rotate_right, words_of_key}

-- x becomes (x >>> 8) + y ^ k, and y becomes (y <<< 3) ^ x
abbrev pub round : ℕ → ℕ × ℕ → ℕ × ℕ
round k v =
    let x = bit_xor (add (rotate_right 8 v.0) v.1) k in
    (x, bit_xor (rotate_left 3 v.1) x)

abbrev pub unround : ℕ → ℕ × ℕ → ℕ × ℕ
unround k v =
    let y = rotate_right 3 (bit_xor v.1 v.0) in
    (rotate_left 8 (sub (bit_xor v.0 k) y), y)

-- what the key schedule holds before round i: that round's key k, and l of that round and of the two after it
pub record Schedule : Type 0 where
  pub l0 : ℕ
  pub l1 : ℕ
  pub l2 : ℕ
  pub k : ℕ

abbrev pub first : List ℕ → Schedule
first ws = record { l2 = get_or ws 0 0; l1 = get_or ws 1 0; l0 = get_or ws 2 0; k = get_or ws 3 0 }

-- the round itself on l and k, with the round's number as its key
abbrev pub next : ℕ → Schedule → Schedule
next i s =
    let lk = round i (s.l0, s.k) in
    record { l0 = s.l1; l1 = s.l2; l2 = lk.0; k = lk.1 }

-- the key of round i
abbrev pub round_key : List ℕ → ℕ → ℕ
round_key ws i = (rounds next i (first ws)).k

abbrev pub round_at : List ℕ → ℕ → ℕ × ℕ → ℕ × ℕ
round_at ws i = round (round_key ws i)

abbrev pub unround_at : List ℕ → ℕ → ℕ × ℕ → ℕ × ℕ
unround_at ws i = unround (round_key ws i)

abbrev pub speck : HalfMaps
speck = record {
  forward = λ k x. joined 32 (rounds (round_at (words_of_key k)) 27 (parted 32 x));
  backward = λ k y. joined 32 (unrounds (unround_at (words_of_key k)) 27 (parted 32 y));
}
