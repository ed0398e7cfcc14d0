-- The loop that takes a product bit by bit: what is summed, with what is left to sum, stays as it is.
use Rattle.std.proofs.Common.{◌≡◌, ℕ, suc, ◌+◌, ◌-◌, ◌*◌, ◌/◌, ◌%◌, ◌<◌, ◌≤◌, sym, ap, ◌∙◌, ap₂, one-mul, zero-mul, arith}
use lib.Bits.{bit_xor, xor_assoc, xor_zero_r}
use Rattle.block.specs.Field.{double, sum}

pub turn : (i s a b s' a' b' p : ℕ) → i < 128 → s' ≡ bit_xor s (b % 2 * a) → a' ≡ double a → b' ≡ b / 2
    → bit_xor s (sum (128 - i) a b) ≡ p → bit_xor s' (sum (128 - (i + 1)) a' b') ≡ p
unfolding sum
turn i s a b s' a' b' p h es ea eb inv =
    let e : suc (128 - (i + 1)) ≡ 128 - i = omega arith in
    ap₂ bit_xor es (ap₂ (sum (128 - (i + 1))) ea eb)
    ∙ xor_assoc s (b % 2 * a) (sum (128 - (i + 1)) (double a) (b / 2))
    ∙ ap (λ (n : ℕ). bit_xor s (sum n a b)) e
    ∙ inv

pub turn_end : (i s a b p : ℕ) → 128 ≤ i → bit_xor s (sum (128 - i) a b) ≡ p → s ≡ p
unfolding sum
turn_end i s a b p h inv =
    let e : 0 ≡ 128 - i = omega arith in
    sym (xor_zero_r s) ∙ ap (λ (n : ℕ). bit_xor s (sum n a b)) e ∙ inv

-- a bit that is one, and one that is zero
pub with_bit : (x s a : ℕ) → x ≡ 1 → bit_xor s a ≡ bit_xor s (x * a)
with_bit x s a e = simp (e, one-mul)

pub without_bit : (x s a : ℕ) → x ≡ 0 → s ≡ bit_xor s (x * a)
without_bit x s a e = simp (e, zero-mul, xor_zero_r)
