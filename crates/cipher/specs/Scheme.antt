-- What a cipher computes: a block is a number below 2^128, a key a string of bytes.
use Rattle.std.specs.Prelude.{List, ◌≡◌, ℕ, ◌^◌, ◌<◌, ◌≤◌, length}
use Rattle.block.specs.Bytes.{AllBytes}

pub record Scheme : Type 0 where
  pub key_len : ℕ
  pub enc : List ℕ → ℕ → ℕ
  pub dec : List ℕ → ℕ → ℕ

-- a key of the scheme
pub record IsKey (s : Scheme) (k : List ℕ) : Type 0 where
  pub long : length k ≡ s.key_len
  pub all : AllBytes k

-- under every key each map takes blocks to blocks, and each undoes the other
pub record Lawful (s : Scheme) : Type 0 where
  pub some : 1 ≤ s.key_len
  pub few : s.key_len ≤ 255
  pub enc_block : (k : List ℕ) (x : ℕ) → IsKey s k → x < 2 ^ 128 → s.enc k x < 2 ^ 128
  pub dec_block : (k : List ℕ) (y : ℕ) → IsKey s k → y < 2 ^ 128 → s.dec k y < 2 ^ 128
  pub dec_enc : (k : List ℕ) (x : ℕ) → IsKey s k → x < 2 ^ 128 → s.dec k (s.enc k x) ≡ x
  pub enc_dec : (k : List ℕ) (y : ℕ) → IsKey s k → y < 2 ^ 128 → s.enc k (s.dec k y) ≡ y
