-- The wide cipher over a map e on halves, which takes a key of sixteen bytes: six rounds of Feistel's under twelve such keys.
use Rattle.std.specs.Prelude.{List, [], ◌∷◌, ℕ, ◌+◌, ◌*◌, slice_index_or, take, drop}
use Rattle.std.specs.Int.Bits.{bit_xor}
use Rattle.cipher.specs.Scheme.{Scheme}
use Rattle.half_cipher.specs.Pairs.{parted, joined}
use Rattle.half_cipher.specs.Rounds.{rounds, unrounds}

-- K(i)
abbrev pub subkey : List ℕ → ℕ → List ℕ
subkey k i = take 16 (drop (16 * i) k)

-- the two keys of round i: K(2i) and K(2i+1)
abbrev pub pair_of : List ℕ → ℕ → List (List ℕ)
pair_of k i = subkey k (2 * i) ∷ subkey k (2 * i + 1) ∷ []

-- ---- a round under its two keys

module _ (e : List ℕ → ℕ → ℕ) (keys : List (List ℕ)) where
  -- what it makes of b: e(b) under the one key ⊕ e(b) under the other
  abbrev pub mixed_under : ℕ → ℕ
  mixed_under b = bit_xor (e (slice_index_or keys 0 []) b) (e (slice_index_or keys 1 []) b)

  -- (a, b) becomes (b, a ⊕ what the round makes of b)
  abbrev pub round_under : ℕ × ℕ → ℕ × ℕ
  round_under p = (p.1, bit_xor p.0 (mixed_under p.1))

  abbrev pub unround_under : ℕ × ℕ → ℕ × ℕ
  unround_under p = (bit_xor p.1 (mixed_under p.0), p.0)

-- ---- round i

module _ (e : List ℕ → ℕ → ℕ) (k : List ℕ) where
  abbrev pub mixed : ℕ → ℕ → ℕ
  mixed i = mixed_under e (pair_of k i)

  abbrev pub round : ℕ → ℕ × ℕ → ℕ × ℕ
  round i = round_under e (pair_of k i)

  abbrev pub unround : ℕ → ℕ × ℕ → ℕ × ℕ
  unround i = unround_under e (pair_of k i)

abbrev pub wide : (List ℕ → ℕ → ℕ) → Scheme
wide e = record {
  key_len = 192;
  enc = λ k x. joined 64 (rounds (round e k) 6 (parted 64 x));
  dec = λ k y. joined 64 (unrounds (unround e k) 6 (parted 64 y));
}
