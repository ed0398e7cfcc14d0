-- The hash of a header and a message, under the hash key l.
use Rattle.std.specs.Prelude.{ℕ, List, [], ◌∷◌, length, Some, None, Option, bit_xor}
use Rattle.block.specs.Field.{product, power}
use Rattle.mode.specs.Padding.{factor, padded}

-- each block times the power of l that its place calls for, the last one times 1
unfoldable pub weighted : ℕ → List ℕ → ℕ
weighted l [] = 0
weighted l (x ∷ xs) = bit_xor (product (power l (length xs)) x) (weighted l xs)

-- the polynomial f of a list of m blocks, led by the m-th power of l
unfoldable pub poly : ℕ → List ℕ → ℕ
poly l xs = bit_xor (power l (length xs)) (weighted l xs)

-- the square of a string's polynomial, times its factor
unfoldable pub squared : ℕ → List ℕ → ℕ
squared l x = product (power (poly l (padded x)) 2) (factor x)

-- .. of a header, and nothing where it is absent
abbrev pub header_squared : ℕ → Option (List ℕ) → ℕ
header_squared l None = 0
header_squared l (Some h) = squared l h

-- what one string adds: that, times the power of l of its place
unfoldable pub term : ℕ → ℕ → List ℕ → ℕ
term l place x = product (power l place) (squared l x)

-- the vector hash F; with no header only the message's term stands
unfoldable pub hash : ℕ → Option (List ℕ) → List ℕ → ℕ
hash l None m = term l 2 m
hash l (Some h) m = bit_xor (term l 1 h) (term l 2 m)
