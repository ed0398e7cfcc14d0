-- What is proved of the field and the cipher.
use Rattle.std.specs.Prelude.{◌≡◌, ℕ, ◌<◌, List}
use Rattle.block.specs.Bytes.{bytes}
use Rattle.fips197.specs.Cipher.{encrypt, decrypt}
use Rattle.fips197.specs.Field.{mul, inverse}
use Rattle.fips197.specs.Sbox.{sub_byte, inv_sub_byte}
use Rattle.fips197.specs.State.{IsState}

-- the inverse is the byte whose product with a is 1, and 0 for 0
pub record Inverts : Type 0 where
  pub at_zero : inverse 0 ≡ 0
  pub product_one : (a : ℕ) → 0 < a → a < 256 → mul a (inverse a) ≡ 1

-- a map of bytes to bytes, and one that another undoes
abbrev pub TakesBytes : (ℕ → ℕ) → Type 0
TakesBytes f = (a : ℕ) → a < 256 → f a < 256

abbrev pub IsUndone : (ℕ → ℕ) → (ℕ → ℕ) → Type 0
IsUndone f g = (a : ℕ) → a < 256 → g (f a) ≡ a

pub record SboxLaws : Type 0 where
  pub undone : IsUndone sub_byte inv_sub_byte
  pub redone : IsUndone inv_sub_byte sub_byte

-- under every key, both maps take states to states, and each undoes the other
pub record CipherLaws : Type 0 where
  pub encrypt_state : (key s : List ℕ) → IsState key → IsState s → IsState (encrypt key s)
  pub decrypt_state : (key s : List ℕ) → IsState key → IsState s → IsState (decrypt key s)
  pub decrypts : (key s : List ℕ) → IsState key → IsState s → decrypt key (encrypt key s) ≡ s
  pub encrypts : (key s : List ℕ) → IsState key → IsState s → encrypt key (decrypt key s) ≡ s

-- an example: under the key, the one block is enciphered as the other, and that deciphered as the one
pub record Example (key plain secret : ℕ) : Type 0 where
  pub there : encrypt (bytes 16 key) (bytes 16 plain) ≡ bytes 16 secret
  pub back : decrypt (bytes 16 key) (bytes 16 secret) ≡ bytes 16 plain

-- appendices B and C.1
pub record Examples : Type 0 where
  pub b : Example 0x2b7e151628aed2a6abf7158809cf4f3c 0x3243f6a8885a308d313198a2e0370734 0x3925841d02dc09fbdc118597196a0b32
  pub c1 : Example 0x000102030405060708090a0b0c0d0e0f 0x00112233445566778899aabbccddeeff 0x69c4e0d86a7b0430d8cdb78070b4c55a
