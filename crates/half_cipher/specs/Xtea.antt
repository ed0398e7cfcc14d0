-- XTEA: 32 cycles on two words, v0 and v1, under the four words of a key, k0 to k3.
use Rattle.std.specs.Prelude.{List, ℕ, ◌+◌, ◌*◌, ◌%◌, ◌^◌, get_or}
use Rattle.std.specs.Int.Bits.{bit_and, bit_xor}
use Rattle.half_cipher.specs.Maps.{HalfMaps}
use Rattle.half_cipher.specs.Pairs.{parted, joined}
use Rattle.half_cipher.specs.Rounds.{rounds, unrounds}
use Rattle.half_cipher.specs.Words.{add, sub, shift_left, shift_right, words_of_key}

-- (v << 4 ^ v >> 5) + v ^ sum + k
abbrev pub mixed : ℕ → ℕ → ℕ → ℕ
mixed v sum k = bit_xor (add (bit_xor (shift_left 4 v) (shift_right 5 v)) v) (add sum k)

-- the sum before cycle i
abbrev pub sum_at : ℕ → ℕ
sum_at i = i * 0x9e3779b9 % 2 ^ 32

-- what v adds to the other word, under the word of the key that the two lowest bits of c name
abbrev pub addend : List ℕ → ℕ → ℕ → ℕ → ℕ
addend k sum c v = mixed v sum (get_or k (bit_and c 3) 0)

-- what is added to v0, and what to v1
abbrev pub first_addend : List ℕ → ℕ → ℕ → ℕ
first_addend k sum v1 = addend k sum sum v1

abbrev pub second_addend : List ℕ → ℕ → ℕ → ℕ
second_addend k sum v0 = addend k sum (shift_right 11 sum) v0

-- a cycle, with the sum before it and the sum after it
abbrev pub cycle : List ℕ → ℕ → ℕ → ℕ × ℕ → ℕ × ℕ
cycle k before after v =
    let v0 = add v.0 (first_addend k before v.1) in
    (v0, add v.1 (second_addend k after v0))

abbrev pub uncycle : List ℕ → ℕ → ℕ → ℕ × ℕ → ℕ × ℕ
uncycle k before after v =
    let v1 = sub v.1 (second_addend k after v.0) in
    (sub v.0 (first_addend k before v1), v1)

abbrev pub cycle_at : List ℕ → ℕ → ℕ × ℕ → ℕ × ℕ
cycle_at k i = cycle k (sum_at i) (sum_at (i + 1))

abbrev pub uncycle_at : List ℕ → ℕ → ℕ × ℕ → ℕ × ℕ
uncycle_at k i = uncycle k (sum_at i) (sum_at (i + 1))

abbrev pub xtea : HalfMaps
xtea = record {
  forward = λ k x. joined 32 (rounds (cycle_at (words_of_key k)) 32 (parted 32 x));
  backward = λ k y. joined 32 (unrounds (uncycle_at (words_of_key k)) 32 (parted 32 y));
}
