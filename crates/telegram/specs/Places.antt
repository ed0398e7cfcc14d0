-- Where the parts of a telegram lie in its buffer.
use Rattle.std.specs.Prelude.{◌≡◌, ℕ, ◌+◌, List, length}
use Rattle.std.specs.List.{between}
use Rattle.telegram.specs.declared.parts.Places.{Places}
use Rattle.telegram.specs.Format.{Parts}

-- the places of a header of h bytes, of the tag and of a ciphertext of m bytes
abbrev pub layout : ℕ → ℕ → Places
layout h m =
    record {
      header = record { start = 3; end = 3 + h };
      tag = record { start = 5 + h; end = 21 + h };
      ciphertext = record { start = 21 + h; end = 21 + h + m };
    }

-- the parts p lie in b at these places
pub record Lies (b : List ℕ) (p : Parts) (at : Places) : Type 0 where
  pub places : at ≡ layout (length p.header) (length p.ciphertext)
  pub header : between at.header.start at.header.end b ≡ p.header
  pub tag : between at.tag.start at.tag.end b ≡ p.tag
  pub ciphertext : between at.ciphertext.start at.ciphertext.end b ≡ p.ciphertext
