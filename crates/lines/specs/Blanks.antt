-- The fields of a line.
use Rattle.std.specs.Prelude.{ℕ, Bool, true, cond, ◌||◌, List, [], ◌∷◌, ◌==◌}

-- a space, a tab or a carriage return
abbrev pub blank : ℕ → Bool
blank c = c == 32 || (c == 9 || c == 13)

-- whether a field that stands before a text ends there
abbrev pub parted : List ℕ → Bool
parted [] = true
parted (c ∷ cs) = blank c

-- a byte in front of the first field
abbrev pub prefixed : ℕ → List (List ℕ) → List (List ℕ)
prefixed c [] = []
prefixed c (f ∷ fs) = (c ∷ f) ∷ fs

-- the fields of a text: its longest runs without a blank
abbrev pub fields : List ℕ → List (List ℕ)
fields [] = []
fields (c ∷ cs) = cond (blank c) (fields cs) (cond (parted cs) ((c ∷ []) ∷ fields cs) (prefixed c (fields cs)))
