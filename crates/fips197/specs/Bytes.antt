-- What holds of each byte: by a test of all 256, or by a table that is compared with what the rule gives at 0, 1, .., 255.
use Rattle.std.proofs.Common.{◌≡◌, ℕ, zero, suc, ◌-◌, ◌<◌, Bool, true, false, T, eqb, ltb, map, get_or, refl, inl, inr, zero-add, le_of_suc-le-suc, not-suc-le-zero, eq-or-lt_of_le, arith, eqb→eq, ltb→lt}
use Rattle.std.specs.List.{range_with_len}
use Rattle.std.proofs.lemmas.List.FromFn.{get_or-map-range_with_len}
use Rattle.fips197.specs.Field.{xtime, times, mul, squares, inverse}
use Rattle.fips197.specs.Sbox.{rotate, affine, unaffine, sub_byte, inv_sub_byte}
use Rattle.fips197.specs.Theorems.{Inverts, SboxLaws}

abbrev both : Bool → Bool → Bool
both true b = b
both false b = false

both_left : (a b : Bool) → T (both a b) → T a
both_left true b t = tt
both_left false b t = t

both_right : (a b : Bool) → T (both a b) → T b
both_right true b t = t
both_right false b t = absurd t

-- the test f passes at each number below n
abbrev pub upto : (ℕ → Bool) → ℕ → Bool
upto f zero = true
upto f (suc n) = both (f n) (upto f n)

pub below : (f : ℕ → Bool) (n : ℕ) → T (upto f n) → (k : ℕ) → k < n → T (f k)
below f zero t k h = absurd (not-suc-le-zero h)
below f (suc n) t k h =
    elim (eq-or-lt_of_le (le_of_suc-le-suc h)) [
      | inl e ↦ rw e (both_left (f n) (upto f n) t)
      | inr l ↦ below f n (both_right (f n) (upto f n) t) k l
    ]

-- two functions with equal values at each byte
pub same : (f g : ℕ → ℕ) → T (upto (λ a. eqb (f a) (g a)) 256) → (a : ℕ) → a < 256 → f a ≡ g a
same f g t a h = eqb→eq (f a) (g a) (below (λ a. eqb (f a) (g a)) 256 t a h)

small : (f : ℕ → ℕ) → T (upto (λ a. ltb (f a) 256) 256) → (a : ℕ) → a < 256 → f a < 256
small f t a h = ltb→lt (f a) 256 (below (λ a. ltb (f a) 256) 256 t a h)

-- the entry of a byte in the table of f; where a table is written out, the check computes f at each byte and compares
pub entry : (f : ℕ → ℕ) (a : ℕ) → a < 256 → get_or (map f (range_with_len 0 256)) a 0 ≡ f a
entry f a h = get_or-map-range_with_len f 0 256 a a 0 h (zero-add a)

pub inverts : Inverts
unfolding xtime times mul squares inverse
inverts =
    record {
      at_zero = refl;
      product_one = λ a p h. eqb→eq (mul a (inverse a)) 1
          (rw (lone a p) at (below (λ k. eqb (mul (suc k) (inverse (suc k))) 1) 255 tt (a - 1) (omega arith)));
    }
  where
    lone : (a : ℕ) → 0 < a → suc (a - 1) ≡ a
    lone a p = omega arith

pub sub_back : (a : ℕ) → a < 256 → inv_sub_byte (sub_byte a) ≡ a
unfolding xtime times mul squares inverse rotate affine unaffine sub_byte inv_sub_byte
sub_back = same (λ a. inv_sub_byte (sub_byte a)) (λ a. a) tt

pub back_sub : (a : ℕ) → a < 256 → sub_byte (inv_sub_byte a) ≡ a
unfolding xtime times mul squares inverse rotate affine unaffine sub_byte inv_sub_byte
back_sub = same (λ a. sub_byte (inv_sub_byte a)) (λ a. a) tt

pub sbox_laws : SboxLaws
sbox_laws = record { undone = sub_back; redone = back_sub }

pub sub_small : (a : ℕ) → a < 256 → sub_byte a < 256
unfolding xtime times mul squares inverse rotate affine sub_byte
sub_small = small sub_byte tt

pub inv_sub_small : (a : ℕ) → a < 256 → inv_sub_byte a < 256
unfolding xtime times mul squares inverse rotate unaffine inv_sub_byte
inv_sub_small = small inv_sub_byte tt
