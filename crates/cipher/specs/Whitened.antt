-- The whitened cipher over a scheme, between the blocks a and b: E'(x) = E(x ⊕ a) ⊕ b, and D'(y) = D(y ⊕ b) ⊕ a.
use Rattle.std.specs.Prelude.{ℕ}
use Rattle.std.specs.Int.Bits.{bit_xor}
use Rattle.cipher.specs.Scheme.{Scheme}

abbrev pub whitened : ℕ → ℕ → Scheme → Scheme
whitened a b s = record {
  key_len = s.key_len;
  enc = λ k x. bit_xor (s.enc k (bit_xor x a)) b;
  dec = λ k y. bit_xor (s.dec k (bit_xor y b)) a;
}
