-- Padding. A string is a list of bytes, and a block the number that sixteen bytes spell.
use Rattle.std.specs.Prelude.{ℕ, zero, suc, ◌-◌, ◌/◌, ◌%◌, Bool, false, cond, List, [], ◌∷◌, ◌++◌, length, take, drop, replicate, ◌==◌}
use Rattle.block.specs.Bytes.{spelled}

-- whether a string is whole blocks, and at least one
abbrev pub whole : List ℕ → Bool
whole x = cond (length x == 0) false (length x % 16 == 0)

-- whole blocks are left alone; anything else is extended by 0x80 and by zeros up to the next block boundary
unfoldable pub pad : List ℕ → List ℕ
pad x = cond (whole x) x (x ++ (0x80 ∷ replicate (15 - length x % 16) 0))

-- the factor that tells the two apart
unfoldable pub factor : List ℕ → ℕ
factor x = cond (whole x) 2 1

-- the n blocks at the front of a string
unfoldable pub blocks : ℕ → List ℕ → List ℕ
blocks zero x = []
blocks (suc n) x = spelled (take 16 x) ∷ blocks n (drop 16 x)

-- the blocks of a string after padding
unfoldable pub padded : List ℕ → List ℕ
padded x = blocks (length (pad x) / 16) (pad x)
