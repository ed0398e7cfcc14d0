-- A header as C hands it in: a flag says whether there is one, since an empty one is not an absent one.
use Rattle.std.specs.Prelude.{ℕ, Bool, true, false, List, Some, None, Option}

abbrev pub flagged : Bool → List ℕ → Option (List ℕ)
flagged true h = Some h
flagged false h = None
