-- The rows of a word.
use Rattle.std.proofs.Common.{◌≡◌, ℕ, ◌+◌, ◌-◌, ◌/◌, ◌%◌, ◌^◌, ◌<◌, [], ◌∷◌, get_or, refl, sym, ap, div-one, ◌∙◌, ap₂, mod-lt, arith, lit<}
use lib.Bits.{bit_xor, xor_shr, xor_mod}
use Rattle.std.specs.Int.{to_be_bytes, w32}
use Rattle.fips197.specs.Field.{mul}
use Rattle.fips197.specs.State.{quad}
use Rattle.fips197.proofs.Linear.{mul_small, turn, turn²}
use Rattle.aes_tables.specs.Words.{word, spread}
use Rattle.aes_tables.proofs.Tables.{by_row}
use Rattle.aes.specs.Columns.{byte_at, mix_word}

pub byte_small : (r x : ℕ) → byte_at r x < 256
unfolding byte_at
byte_small r x = mod-lt (x / 256 ^ (3 - r)) (lit< tt)

-- .. as the library has them
pub byte_of : (x r : ℕ) → r < 4 → get_or (to_be_bytes w32 x) r 0 ≡ byte_at r x
unfolding byte_at
byte_of x = by_row (λ r. get_or (to_be_bytes w32 x) r 0 ≡ byte_at r x) refl refl refl (ap (λ (n : ℕ). n % 256) (sym (div-one x)))

pub byte_word : (a b c d : ℕ) → a < 256 → b < 256 → c < 256 → d < 256 → (r : ℕ) → r < 4 → byte_at r (word a b c d) ≡ get_or (a ∷ b ∷ c ∷ d ∷ []) r 0
unfolding byte_at word
byte_word a b c d ha hb hc hd =
    by_row (λ r. byte_at r (word a b c d) ≡ get_or (a ∷ b ∷ c ∷ d ∷ []) r 0) (omega arith) (omega arith) (omega arith) (omega arith)

pub byte_xor : (r : ℕ) → r < 4 → (x y : ℕ) → byte_at r (bit_xor x y) ≡ bit_xor (byte_at r x) (byte_at r y)
unfolding byte_at
byte_xor r h x y =
    by_row (λ r. byte_at r (bit_xor x y) ≡ bit_xor (byte_at r x) (byte_at r y)) (at 24) (at 16) (at 8) (at 0) r h
  where
    at : (k : ℕ) → bit_xor x y / 2 ^ k % 256 ≡ bit_xor (x / 2 ^ k % 256) (y / 2 ^ k % 256)
    at k = ap (λ (n : ℕ). n % 256) (xor_shr x y k) ∙ xor_mod (x / 2 ^ k) (y / 2 ^ k) 8

byte_quad : (r : ℕ) → r < 4 → (x y z v : ℕ) → byte_at r (quad x y z v) ≡ quad (byte_at r x) (byte_at r y) (byte_at r z) (byte_at r v)
byte_quad r h x y z v = byte_xor r h (bit_xor x y) (bit_xor z v) ∙ ap₂ bit_xor (byte_xor r h x y) (byte_xor r h z v)

byte_spread : (p q u v a : ℕ) → a < 256 → (r : ℕ) → r < 4 → byte_at r (spread p q u v a) ≡ get_or (mul p a ∷ mul q a ∷ mul u a ∷ mul v a ∷ []) r 0
unfolding spread
byte_spread p q u v a h = byte_word (mul p a) (mul q a) (mul u a) (mul v a) (mul_small p a h) (mul_small q a h) (mul_small u a h) (mul_small v a h)

-- the rows of a mixed column, from f 0, f 1, f 2 and f 3
module _ (p q u v : ℕ) (f : ℕ → ℕ) (small : (r : ℕ) → r < 4 → f r < 256) where
  parts : (r : ℕ) → r < 4 → byte_at r (mix_word p q u v (f 0) (f 1) (f 2) (f 3))
      ≡ quad (get_or (mul p (f 0) ∷ mul v (f 0) ∷ mul u (f 0) ∷ mul q (f 0) ∷ []) r 0) (get_or (mul q (f 1) ∷ mul p (f 1) ∷ mul v (f 1) ∷ mul u (f 1) ∷ []) r 0)
      (get_or (mul u (f 2) ∷ mul q (f 2) ∷ mul p (f 2) ∷ mul v (f 2) ∷ []) r 0) (get_or (mul v (f 3) ∷ mul u (f 3) ∷ mul q (f 3) ∷ mul p (f 3) ∷ []) r 0)
  parts r h =
      byte_quad r h (spread p v u q (f 0)) (spread q p v u (f 1)) (spread u q p v (f 2)) (spread v u q p (f 3))
      ∙ ap₂ bit_xor
      (ap₂ bit_xor (byte_spread p v u q (f 0) (small 0 (lit< tt)) r h) (byte_spread q p v u (f 1) (small 1 (lit< tt)) r h))
      (ap₂ bit_xor (byte_spread u q p v (f 2) (small 2 (lit< tt)) r h) (byte_spread v u q p (f 3) (small 3 (lit< tt)) r h))

  pub byte_mix : (r : ℕ) → r < 4 → byte_at r (mix_word p q u v (f 0) (f 1) (f 2) (f 3))
      ≡ quad (mul p (f r)) (mul q (f ((r + 1) % 4))) (mul u (f ((r + 2) % 4))) (mul v (f ((r + 3) % 4)))
  byte_mix =
      by_row
      (λ r. byte_at r (mix_word p q u v (f 0) (f 1) (f 2) (f 3)) ≡ quad (mul p (f r)) (mul q (f ((r + 1) % 4))) (mul u (f ((r + 2) % 4))) (mul v (f ((r + 3) % 4))))
      (parts 0 (lit< tt))
      (parts 1 (lit< tt) ∙ sym (turn (mul v (f 0)) (mul p (f 1)) (mul q (f 2)) (mul u (f 3))))
      (parts 2 (lit< tt) ∙ turn² (mul p (f 2)) (mul q (f 3)) (mul u (f 0)) (mul v (f 1)))
      (parts 3 (lit< tt) ∙ turn (mul p (f 3)) (mul q (f 0)) (mul u (f 1)) (mul v (f 2)))
