-- The byte and the name of each kind.
use Rattle.std.specs.Prelude.{ℕ, List, codes, decimal}
use Rattle.telegram.specs.declared.kind.Kind.{Kind}
use Rattle.telegram.specs.declared.kind.Kind.TheVariants.{Measurement, Key, Other}

abbrev pub kind_byte : Kind → ℕ
kind_byte Measurement = 0
kind_byte Key = 1
kind_byte (Other other) = other.byte

-- a kind by its name, or by its number
abbrev pub kind_name : Kind → List ℕ
kind_name Measurement = codes "measurement"
kind_name Key = codes "key"
kind_name (Other other) = decimal other.byte
