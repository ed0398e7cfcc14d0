-- A product by Horner's rule, some bits of the second factor at a time, from the top.
use Rattle.std.proofs.Common.{◌≡◌, ℕ, zero, suc, ◌+◌, ◌*◌, ◌^◌, ◌<◌, sym, ap, ◌∙◌, mul_assoc, pow-suc, mul-one, arith}
use lib.Bits.{bit_xor, xor_shifted}
use lib.Pow.{pow-lt}
use Rattle.block.specs.Field.{double, product}
use Rattle.block.proofs.Laws.{double_small, product_one, product-double, product_assoc, product-xor-right}

-- shifted left by k bits, where none falls out
pub product-power : (k q : ℕ) → k < 128 → q * 2 ^ k < 2 ^ 128 → product q (2 ^ k) ≡ q * 2 ^ k
product-power zero q h small = product_one q (omega (arith, mul-one q)) ∙ sym (mul-one q)
product-power (suc k) q h small =
    ap (product q) (pow-suc 2 k ∙ sym (double_small (2 ^ k) (pow-lt {j = 127} (omega arith))))
    ∙ product-double q (2 ^ k) ∙ ap double (product-power k q (omega arith) (omega (arith, twice)))
    ∙ double_small (q * 2 ^ k) (omega (arith, twice)) ∙ sym twice
  where
    twice : q * 2 ^ suc k ≡ q * 2 ^ k * 2
    twice = ap (λ (p : ℕ). q * p) (pow-suc 2 k) ∙ sym (mul_assoc q (2 ^ k) 2)

-- k bits r after the bits of q
pub horner : (k a q r : ℕ) → k < 128 → q * 2 ^ k < 2 ^ 128 → r < 2 ^ k
    → product a (q * 2 ^ k + r) ≡ bit_xor (product (product a q) (2 ^ k)) (product a r)
horner k a q r h small hr =
    ap (product a) (sym (xor_shifted q k r hr)) ∙ product-xor-right a (q * 2 ^ k) r
    ∙ ap (λ (x : ℕ). bit_xor x (product a r))
    (ap (product a) (sym (product-power k q h small)) ∙ sym (product_assoc a q (2 ^ k)))
