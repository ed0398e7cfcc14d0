-- Worked cases of the mode under the bench cipher, which XORs its key.
use Rattle.std.specs.Prelude.{◌≡◌, ℕ, ◌+◌, ◌*◌, ◌^◌, List, [], ◌++◌, length, replicate, Some, None}
use Rattle.block.specs.Field.{double}
use Rattle.block.specs.Bytes.{bytes}
use Rattle.cipher.specs.Bench.{bench}
use Rattle.mode.specs.Hash.{hash}
use Rattle.mode.specs.Padding.{pad}
use Rattle.mode.specs.Sealing.{pair, sealed, opened}

-- the sixteen bytes of the block that holds j
abbrev pub block : ℕ → List ℕ
block j = bytes 16 j

pub record WorkedCases : Type 0 where
  pub doubling : double (0x80 * 256 ^ 15) ≡ 135
  pub fifteen_bytes : length (pad (replicate 15 7)) ≡ 16
  pub sixteen_bytes : length (pad (replicate 16 7)) ≡ 16
  pub seventeen_bytes : length (pad (replicate 17 7)) ≡ 32
  pub hash_of_both : hash 2 (Some (block 1)) (block 3) ≡ 28
  pub with_header : sealed bench (block 2) (Some (block 1)) (block 3) ≡ pair 30 (block 28)
  pub no_header : sealed bench (block 2) None (block 3) ≡ pair 10 (block 8)
  pub empty_header : sealed bench (block 2) (Some []) (block 3) ≡ pair (0x80 * 256 ^ 15 + 0x204b) (block (0x80 * 256 ^ 15 + 0x2049))
  pub empty_message : sealed bench (block 2) (Some (block 1)) [] ≡ pair 0x4013 []
  pub damaged : opened bench (block 2) (Some (block 1)) (pair 30 (block 29)) ≡ None
  pub zero_key : sealed bench (block 0) None (replicate 32 0) ≡ pair 0 (block 1 ++ block 2)
