-- A state as four words: each is a column, its first row in the highest byte.
use Rattle.std.specs.Prelude.{ℕ, ◌-◌, ◌/◌, ◌%◌, ◌^◌, List, slice_index}
use Rattle.aes.specs.declared.columns.Columns.{Columns}
use Rattle.aes_tables.specs.Words.{spread}
use Rattle.fips197.specs.State.{state, quad}

-- row r of a column
unfoldable pub byte_at : ℕ → ℕ → ℕ
byte_at r x = x / 256 ^ (3 - r) % 256

-- the state that four columns hold
unfoldable pub unpack : List ℕ → List ℕ
unpack xs = state (λ r c. byte_at r (slice_index xs c))

-- .. as the code has them
abbrev pub state_of : Columns → List ℕ
state_of s = unpack s.0

-- the column a b c d mixed by p q u v: the sum of what its bytes add to it
abbrev pub mix_word : ℕ → ℕ → ℕ → ℕ → ℕ → ℕ → ℕ → ℕ → ℕ
mix_word p q u v a b c d = quad (spread p v u q a) (spread q p v u b) (spread u q p v c) (spread v u q p d)

-- each of the new columns is made of the four that its rows are from: row r of column c is from column c + r, which goes round
abbrev pub Shifted : (ℕ → ℕ → ℕ → ℕ → ℕ → Type 0) → List ℕ → List ℕ → Type 0
Shifted Makes old new = Makes (w 0) (w 1) (w 2) (w 3) (x 0) × Makes (w 1) (w 2) (w 3) (w 0) (x 1) × Makes (w 2) (w 3) (w 0) (w 1) (x 2) × Makes (w 3) (w 0) (w 1) (w 2) (x 3)
  where
    w : ℕ → ℕ
    w = slice_index old

    x : ℕ → ℕ
    x = slice_index new
