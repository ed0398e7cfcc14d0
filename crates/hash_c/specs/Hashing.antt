-- The hash of one text, with no header, as bytes.
use Rattle.std.specs.Prelude.{◌≡◌, ℕ, Bool, cond, ◌&&◌, List, length, None, ◌==◌}
use Rattle.block.specs.Bytes.{spelled, bytes}
use Rattle.mode.specs.Hash.{hash}

-- a hash key and a place for the hash have the size of a block
abbrev pub sized : List ℕ → List ℕ → Bool
sized l out = length l == 16 && length out == 16

-- under the hash key l a call for the text x answers r, and leaves out' where out was
pub record Hashed (l x out : List ℕ) (r : ℕ) (out' : List ℕ) : Type 0 where
  pub answers : r ≡ cond (sized l out) 0 4
  pub leaves : out' ≡ cond (sized l out) (bytes 16 (hash (spelled l) None x)) out
