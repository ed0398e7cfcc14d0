-- The state: sixteen bytes in four rows and four columns, written column by column. The steps of a round on it.
use Rattle.std.specs.Prelude.{◌≡◌, ℕ, ◌+◌, ◌-◌, ◌*◌, ◌/◌, ◌%◌, List, map, length, bit_xor, slice_index}
use Rattle.std.specs.List.{range_with_len}
use Rattle.block.specs.Bytes.{AllBytes}
use Rattle.fips197.specs.Field.{mul}
use Rattle.fips197.specs.Sbox.{sub_byte, inv_sub_byte}

pub record IsState (s : List ℕ) : Type 0 where
  pub long : length s ≡ 16
  pub all : AllBytes s

-- the byte in row r of column c
abbrev pub cell : List ℕ → ℕ → ℕ → ℕ
cell s r c = slice_index s (r + 4 * c)

-- the state with f r c in row r of column c
abbrev pub state : (ℕ → ℕ → ℕ) → List ℕ
state f = map (λ k. f (k % 4) (k / 4)) (range_with_len 0 16)

unfoldable pub sub_bytes : List ℕ → List ℕ
sub_bytes s = state (λ r c. sub_byte (cell s r c))

unfoldable pub inv_sub_bytes : List ℕ → List ℕ
inv_sub_bytes s = state (λ r c. inv_sub_byte (cell s r c))

-- row r turns r columns to the left
unfoldable pub shift_rows : List ℕ → List ℕ
shift_rows s = state (λ r c. cell s r ((c + r) % 4))

-- .. and back to the right
unfoldable pub inv_shift_rows : List ℕ → List ℕ
inv_shift_rows s = state (λ r c. cell s r ((c + (4 - r)) % 4))

abbrev pub quad : ℕ → ℕ → ℕ → ℕ → ℕ
quad a b c d = bit_xor (bit_xor a b) (bit_xor c d)

-- each byte is the sum of p times it, q times the next one down its column, which goes round, u times the next and v times the last
unfoldable pub mix : ℕ → ℕ → ℕ → ℕ → List ℕ → List ℕ
mix p q u v s =
    state (λ r c. quad (mul p (cell s r c)) (mul q (cell s ((r + 1) % 4) c)) (mul u (cell s ((r + 2) % 4) c)) (mul v (cell s ((r + 3) % 4) c)))

unfoldable pub mix_columns : List ℕ → List ℕ
mix_columns s = mix 2 3 1 1 s

unfoldable pub inv_mix_columns : List ℕ → List ℕ
inv_mix_columns s = mix 0x0e 0x0b 0x0d 0x09 s

unfoldable pub add_round_key : List ℕ → List ℕ → List ℕ
add_round_key w s = state (λ r c. bit_xor (cell s r c) (cell w r c))
