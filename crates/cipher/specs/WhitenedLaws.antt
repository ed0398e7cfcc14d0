-- The laws of the whitened cipher, from those of the scheme within.
use Rattle.std.specs.Prelude.{List, ◌≡◌, ℕ, ◌^◌, ◌<◌}
use Rattle.std.proofs.Common.{ap, ◌∙◌}
use Rattle.std.specs.Int.Bits.{bit_xor}
use Rattle.std.proofs.lemmas.Nat.{xor_lt}
use Rattle.block.proofs.Laws.{xor_twice}
use Rattle.cipher.specs.Scheme.{IsKey, Lawful, Scheme}
use Rattle.cipher.specs.Whitened.{whitened}

module _ (a b : ℕ) (ha : a < 2 ^ 128) (hb : b < 2 ^ 128) (s : Scheme) (lawful : Lawful s) where
  -- a key of the whitened cipher is one of the scheme
  within : (k : List ℕ) → IsKey (whitened a b s) k → IsKey s k
  within k key = record { long = key.long; all = key.all }

  -- one map between blocks p and q, and then the map m that undoes it between q and p
  between : (p q : ℕ) → p < 2 ^ 128 → (m m' : ℕ → ℕ) → ((x : ℕ) → x < 2 ^ 128 → m' (m x) ≡ x)
      → (x : ℕ) → x < 2 ^ 128 → bit_xor (m' (bit_xor (bit_xor (m (bit_xor x p)) q) q)) p ≡ x
  between p q hp m m' undoes x h =
      ap (λ (z : ℕ). bit_xor (m' z) p) (xor_twice (m (bit_xor x p)) q)
      ∙ ap (λ (z : ℕ). bit_xor z p) (undoes (bit_xor x p) (xor_lt 128 x p h hp)) ∙ xor_twice x p

  pub whitened_lawful : Lawful (whitened a b s)
  whitened_lawful =
      record {
        some = lawful.some;
        few = lawful.few;
        enc_block = λ k x key h. xor_lt 128 (s.enc k (bit_xor x a)) b (lawful.enc_block k (bit_xor x a) (within k key) (xor_lt 128 x a h ha)) hb;
        dec_block = λ k y key h. xor_lt 128 (s.dec k (bit_xor y b)) a (lawful.dec_block k (bit_xor y b) (within k key) (xor_lt 128 y b h hb)) ha;
        dec_enc = λ k x key. between a b ha (s.enc k) (s.dec k) (λ x. lawful.dec_enc k x (within k key)) x;
        enc_dec = λ k y key. between b a hb (s.dec k) (s.enc k) (λ y. lawful.enc_dec k y (within k key)) y;
      }
