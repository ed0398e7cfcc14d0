-- The number of each refusal.
use Rattle.std.specs.Prelude.{ℕ, List, codes}
use Rattle.telegram.specs.declared.fault.TelegramFault.{TelegramFault}
use Rattle.telegram.specs.declared.fault.TelegramFault.TheVariants.{Version, Lengths}

abbrev pub refusal : TelegramFault → ℕ
refusal Version = 6
refusal Lengths = 7

-- .. in words
abbrev pub words : TelegramFault → List ℕ
words Version = codes "the version is not one that is read"
words Lengths = codes "a length is out of range, or the lengths do not add up"
