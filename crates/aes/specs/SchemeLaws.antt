-- AES-128 is a lawful scheme: its maps take blocks to blocks, and undo each other.
use Rattle.std.specs.Prelude.{◌≡◌, ℕ, ◌^◌, ◌<◌, List}
use Rattle.std.proofs.Common.{ap, ◌∙◌, lit≤}
use Rattle.block.specs.Bytes.{spelled, bytes}
use Rattle.block.proofs.Spelling.{spelled-bytes, bytes-spelled, spelled_block, length-bytes, all_bytes}
use Rattle.cipher.specs.Scheme.{IsKey, Lawful}
use Rattle.fips197.specs.Cipher.{encrypt, decrypt}
use Rattle.fips197.specs.State.{IsState}
use Rattle.fips197.proofs.Inverse.{cipher_laws_lem}
use Rattle.aes.specs.Scheme.{aes128}

block_state : (x : ℕ) → IsState (bytes 16 x)
block_state x = record { long = length-bytes 16 x; all = all_bytes 16 x }

key_state : (k : List ℕ) → IsKey aes128 k → IsState k
key_state k h = record { long = h.long; all = h.all }

state_block : (s : List ℕ) → IsState s → spelled s < 2 ^ 128
state_block s b = spelled_block s b.long b.all

state_bytes : (s : List ℕ) → IsState s → bytes 16 (spelled s) ≡ s
state_bytes s b = bytes-spelled s b.long b.all

pub aes128_lawful : Lawful aes128
aes128_lawful =
    record {
      some = lit≤ tt;
      few = lit≤ tt;
      enc_block = λ k x key h. state_block (encrypt k (bytes 16 x)) (enciphered k x key);
      dec_block = λ k y key h. state_block (decrypt k (bytes 16 y)) (deciphered k y key);
      dec_enc = λ k x key h.
          ap (λ (s : List ℕ). spelled (decrypt k s)) (state_bytes (encrypt k (bytes 16 x)) (enciphered k x key))
          ∙ ap spelled (cipher_laws_lem.decrypts k (bytes 16 x) (key_state k key) (block_state x)) ∙ spelled-bytes x h;
      enc_dec = λ k y key h.
          ap (λ (s : List ℕ). spelled (encrypt k s)) (state_bytes (decrypt k (bytes 16 y)) (deciphered k y key))
          ∙ ap spelled (cipher_laws_lem.encrypts k (bytes 16 y) (key_state k key) (block_state y)) ∙ spelled-bytes y h;
    }
  where
    enciphered : (k : List ℕ) (x : ℕ) → IsKey aes128 k → IsState (encrypt k (bytes 16 x))
    enciphered k x key = cipher_laws_lem.encrypt_state k (bytes 16 x) (key_state k key) (block_state x)

    deciphered : (k : List ℕ) (y : ℕ) → IsKey aes128 k → IsState (decrypt k (bytes 16 y))
    deciphered k y key = cipher_laws_lem.decrypt_state k (bytes 16 y) (key_state k key) (block_state y)
