-- The field of 2^8 elements: a byte is a polynomial over the two-element field, modulo x^8 + x^4 + x^3 + x + 1.
use Rattle.std.specs.Prelude.{ℕ, zero, suc, ◌*◌, ◌/◌, ◌%◌, bit_xor}

-- times x: a shift, and x^8 is x^4 + x^3 + x + 1, the byte 0x1b
unfoldable pub xtime : ℕ → ℕ
xtime a = bit_xor (a * 2 % 256) (a / 128 * 0x1b)

-- the sum of a x^i over the lowest n digits i of p that are set
unfoldable pub times : ℕ → ℕ → ℕ → ℕ
times zero p a = 0
times (suc n) p a = bit_xor (p % 2 * a) (times n (p / 2) (xtime a))

-- the product of two bytes
unfoldable pub mul : ℕ → ℕ → ℕ
mul p a = times 8 p a

-- the product of a^2, a^4, .., a^(2^n)
unfoldable pub squares : ℕ → ℕ → ℕ
squares zero a = 1
squares (suc n) a = let s = mul a a in mul s (squares n s)

-- the inverse, and 0 for 0: a^254, as a^255 is 1 for each other a
unfoldable pub inverse : ℕ → ℕ
inverse a = squares 7 a
