-- SubBytes on a byte: the inverse in the field, and then an affine map of the digits. InvSubBytes undoes the two.
use Rattle.std.specs.Prelude.{ℕ, ◌+◌, ◌-◌, ◌*◌, ◌/◌, ◌%◌, ◌^◌, bit_xor}
use Rattle.fips197.specs.Field.{inverse}

-- a byte's digits, k places to the left, and round the end
unfoldable pub rotate : ℕ → ℕ → ℕ
rotate k b = b * 2 ^ k % 256 + b / 2 ^ (8 - k)

-- digit i is the sum of the digits i, i + 4, i + 5, i + 6 and i + 7, and of digit i of 0x63
unfoldable pub affine : ℕ → ℕ
affine b = bit_xor (bit_xor (bit_xor b (rotate 1 b)) (bit_xor (rotate 2 b) (rotate 3 b))) (bit_xor (rotate 4 b) 0x63)

-- digit i is the sum of the digits i + 2, i + 5 and i + 7, and of digit i of 0x05
unfoldable pub unaffine : ℕ → ℕ
unaffine b = bit_xor (bit_xor (rotate 1 b) (rotate 3 b)) (bit_xor (rotate 6 b) 0x05)

unfoldable pub sub_byte : ℕ → ℕ
sub_byte a = affine (inverse a)

unfoldable pub inv_sub_byte : ℕ → ℕ
inv_sub_byte a = inverse (unaffine a)
