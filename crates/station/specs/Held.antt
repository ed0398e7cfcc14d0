-- What is held in place.
use Rattle.std.specs.Prelude.{ℕ, List, take}
use Rattle.station.specs.declared.held.Held.{Held}

abbrev pub held : {T : Type 0} → {N : ℕ} → Held T N → List T
held h = take h.len h.values
