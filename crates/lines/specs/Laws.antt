-- Requests written as lines, with a space between the fields, are read back.
use Rattle.std.specs.Prelude.{◌≡◌, ℕ, List, ◌∷◌, ◌++◌, Some, None, Ok, codes, Option}
use Rattle.lines.specs.Hex.{Bytes, encoded}
use Rattle.lines.specs.Lines.{ToWrap, ToUnwrap, wrap_line, unwrap_line}

abbrev pub HeaderBytes : Option (List ℕ) → Type 0
HeaderBytes None = Unit {0}
HeaderBytes (Some bs) = Bytes bs

abbrev pub header_text : Option (List ℕ) → List ℕ
header_text None = codes "absent"
header_text (Some bs) = encoded bs

-- KEY HEADER MESSAGE
abbrev pub wrap_text : ToWrap → List ℕ
wrap_text w = encoded w.key ++ 32 ∷ (header_text w.header ++ 32 ∷ encoded w.message)

-- KEY HEADER TAG CIPHERTEXT
abbrev pub unwrap_text : ToUnwrap → List ℕ
unwrap_text u = encoded u.key ++ 32 ∷ (header_text u.header ++ 32 ∷ (encoded u.tag ++ 32 ∷ encoded u.ciphertext))

abbrev pub WrapsReadBack : Type 0
WrapsReadBack = (w : ToWrap) → Bytes w.key → HeaderBytes w.header → Bytes w.message → wrap_line (wrap_text w) ≡ Ok w

abbrev pub UnwrapsReadBack : Type 0
UnwrapsReadBack = (u : ToUnwrap) → Bytes u.key → HeaderBytes u.header → Bytes u.tag → Bytes u.ciphertext → unwrap_line (unwrap_text u) ≡ Ok u
