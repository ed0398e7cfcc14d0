-- A table of an element's products with small numbers.
use Rattle.std.specs.Prelude.{◌≡◌, ℕ, ◌<◌, List, slice_index_or}
use Rattle.block.specs.Field.{product}
use Rattle.block.specs.Num.{num}
use Rattle.block.specs.declared.Block.{Block}

-- the number that entry k holds
abbrev pub held : List Block → ℕ → ℕ
held table k = num (slice_index_or table k (record { hi = 0; lo = 0 }))

-- each of the first n entries is the product of a with its place
abbrev pub Products : ℕ → ℕ → List Block → Type 0
Products a n table = (k : ℕ) → k < n → held table k ≡ product a k
