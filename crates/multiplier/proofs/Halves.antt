-- A product by Horner's rule, over the halves of bytes.
use Rattle.std.proofs.Common.{◌≡◌, ℕ, ◌+◌, ◌*◌, ◌/◌, ◌%◌, ◌^◌, ◌<◌, ◌≤◌, List, length, get_or, take, sym, ap, ◌∙◌, subst, ap₂, lt_of_lt_of_le, arith, lit<}
use native.Mathlib.Nat.{pow-le-pow_right}
use lib.Bits.{bit_xor, and_mask, bit_and}
use Rattle.std.proofs.lemmas.List.{take_all, take_more}
use Rattle.block.proofs.Horner.{horner}
use Rattle.block.proofs.Laws.{double_is, product-double, product_zero}
use Rattle.block.proofs.Spelling.{all_bytes, length-bytes, spelled-bytes, spelled_push, spelled-take}
use Rattle.block.specs.Bytes.{AllBytes, after, spelled, bytes}
use Rattle.block.specs.Field.{double, product}

pub double-four : (a : ℕ) → double (double (double (double a))) ≡ product a 16
unfolding double
double-four a =
    ap (λ (x : ℕ). double (double (double x))) (double_is a) ∙ ap (λ (x : ℕ). double (double x)) (sym (product-double a 2))
    ∙ ap double (sym (product-double a 4)) ∙ sym (product-double a 8)

-- the step for half a byte, as the code takes it
abbrev pub step : ℕ → ℕ → ℕ → ℕ
step a s half = bit_xor (product s 16) (product a half)

-- a byte more is its two halves more
pub byte_more : (a q b : ℕ) → q < 2 ^ 120 → b < 256 → step a (step a (product a q) (b / 16)) (b % 16) ≡ product a (q * 256 + b)
byte_more a q b hq hb =
    ap (λ (s : ℕ). step a s (b % 16)) (sym (horner 4 a q (b / 16) (lit< tt) (omega arith) (omega arith)))
    ∙ sym (horner 4 a (q * 16 + b / 16) (b % 16) (lit< tt) (omega arith) (omega arith))
    ∙ ap (product a) (omega arith)

-- the loop over the bytes bs of x: before the one at i, s is the product with those that came
pub bytes_none : (a : ℕ) (bs : List ℕ) → 0 ≡ product a (spelled (take 0 bs))
unfolding spelled after
bytes_none a bs = sym (product_zero a)

module _ (a x i s : ℕ) (bs : List ℕ) (of-x : bs ≡ bytes 16 x) (before : s ≡ product a (spelled (take i bs))) where
  long : length bs ≡ 16
  long = ap length of-x ∙ length-bytes 16 x

  all : AllBytes bs
  all = subst AllBytes (sym of-x) (all_bytes 16 x)

  pub bytes_more : (t u : ℕ) → i < 16 → t ≡ step a s (get_or bs i 0 / 16) → u ≡ step a t (bit_and (get_or bs i 0) 15)
      → u ≡ product a (spelled (take (i + 1) bs))
  bytes_more t u h high low =
      low ∙ ap₂ (step a) (high ∙ ap (λ (p : ℕ). step a p (get_or bs i 0 / 16)) before) (and_mask (get_or bs i 0) 4)
      ∙ byte_more a (spelled (take i bs)) (get_or bs i 0) small (all i (omega (arith, long)))
      ∙ ap (product a) (sym (spelled_push (take i bs) (get_or bs i 0)) ∙ ap spelled (sym (take_more bs i 0 (omega (arith, long)))))
    where
      small : spelled (take i bs) < 2 ^ 120
      small =
          lt_of_lt_of_le (spelled-take i bs all (omega (arith, long))) (pow-le-pow_right {n = 256} (lit< tt) {i = i} {j = 15} (omega arith))

  pub bytes_all : x < 2 ^ 128 → 16 ≤ i → s ≡ product a x
  bytes_all small h =
      before ∙ ap (λ (cs : List ℕ). product a (spelled cs)) (take_all i bs (omega (arith, long)) ∙ of-x) ∙ ap (product a) (spelled-bytes x small)
