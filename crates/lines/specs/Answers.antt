-- Answers that may also be want of memory.
use Rattle.std.specs.Prelude.{◌≡◌, ◌⊎◌, Ok, Err, Result}
use Rattle.lines.specs.declared.fault.LineFault.{LineFault}
use Rattle.lines.specs.declared.fault.LineFault.TheVariants.{NoMemory}

-- r is the answer a, as `plain` reads it, or says that there was no memory
abbrev pub Answers : {X Y : Type 0} → (X → Y) → Result X LineFault → Result Y LineFault → Type 0
Answers plain (Ok x) a = a ≡ Ok (plain x)
Answers plain (Err f) a = (f ≡ NoMemory) ⊎ (a ≡ Err f)

-- the second step on what the first gave; the first fault is the answer
abbrev pub and_then : {X Y : Type 0} → Result X LineFault → (X → Result Y LineFault) → Result Y LineFault
and_then (Ok x) step = step x
and_then (Err f) step = Err f
