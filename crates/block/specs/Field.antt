-- The field of 2^128 elements, modulo x^128 + x^7 + x^2 + x + 1. A block is the number that its sixteen bytes spell.
-- Of a larger number only the 128 lowest bits count, so that the laws hold of all numbers.
use Rattle.std.specs.Prelude.{ℕ, zero, suc, ◌*◌, ◌/◌, ◌%◌, ◌^◌, bit_xor}

-- shifted left by one bit, and reduced by 0x87 where the bit that left was a one
unfoldable pub double : ℕ → ℕ
double a = bit_xor (a * 2 % 2 ^ 128) (a / 2 ^ 127 % 2 * 0x87)

-- over the n lowest bits of b: each that is a one contributes a, doubled once for every bit below it
unfoldable pub sum : ℕ → ℕ → ℕ → ℕ
sum zero a b = 0
sum (suc n) a b = bit_xor (b % 2 * a) (sum n (double a) (b / 2))

unfoldable pub product : ℕ → ℕ → ℕ
product a b = sum 128 (a % 2 ^ 128) b

unfoldable pub power : ℕ → ℕ → ℕ
power a zero = 1
power a (suc n) = product (power a n) a
