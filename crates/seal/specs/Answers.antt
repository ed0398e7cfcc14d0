-- What wrap and unwrap answer: the number of each refusal, and 0 for acceptance, which brings no value.
use Rattle.std.specs.Prelude.{ℕ, List, Ok, Err, codes, Result}
use Rattle.seal.specs.declared.fault.SealFault.{SealFault}
use Rattle.seal.specs.declared.fault.SealFault.TheVariants.{Size, Mismatch}

abbrev pub refusal : SealFault → ℕ
refusal Size = 4
refusal Mismatch = 14

abbrev pub answered : Result (Unit {0}) SealFault → ℕ
answered (Ok done) = 0
answered (Err fault) = refusal fault

-- .. in words
abbrev pub words : SealFault → List ℕ
words Size = codes "a length is not one that is taken"
words Mismatch = codes "tag and text do not belong together under this key and header"
