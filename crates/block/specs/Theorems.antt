-- What is proved of blocks and of the field.
use Rattle.std.specs.Prelude.{◌≡◌, ℕ, ◌+◌, ◌^◌, ◌<◌, List, length, bit_xor}
use Rattle.block.specs.Bytes.{AllBytes, spelled, bytes}
use Rattle.block.specs.Field.{double, product, power}

pub record FieldLaws : Type 0 where
  pub double_xor : (a b : ℕ) → double (bit_xor a b) ≡ bit_xor (double a) (double b)
  pub double_is : (a : ℕ) → double a ≡ product a 2
  pub double_left : (a b : ℕ) → product (double a) b ≡ double (product a b)
  pub double_right : (a b : ℕ) → product a (double b) ≡ double (product a b)
  pub closed : (a b : ℕ) → product a b < 2 ^ 128
  pub unit : (a : ℕ) → a < 2 ^ 128 → product a 1 ≡ a
  pub commutes : (a b : ℕ) → product a b ≡ product b a
  pub associates : (a b c : ℕ) → product (product a b) c ≡ product a (product b c)
  pub xor_left : (a b c : ℕ) → product (bit_xor a b) c ≡ bit_xor (product a c) (product b c)
  pub xor_right : (a b c : ℕ) → product a (bit_xor b c) ≡ bit_xor (product a b) (product a c)
  pub square_of_sum : (a b : ℕ) → product (bit_xor a b) (bit_xor a b) ≡ bit_xor (product a a) (product b b)
  pub powers : (a m n : ℕ) → power a (m + n) ≡ product (power a m) (power a n)

-- sixteen bytes and the number that they spell determine each other
pub record ByteLaws : Type 0 where
  pub reads_back : (a : ℕ) → a < 2 ^ 128 → spelled (bytes 16 a) ≡ a
  pub writes_back : (bs : List ℕ) → length bs ≡ 16 → AllBytes bs → bytes 16 (spelled bs) ≡ bs
  pub sixteen : (a : ℕ) → length (bytes 16 a) ≡ 16
  pub bytes_are_bytes : (a : ℕ) → AllBytes (bytes 16 a)
