-- The header: the gauge's number, the serial in four bytes, the kind and a note.
use Rattle.std.specs.Prelude.{ℕ, ◌+◌, ◌*◌, ◌/◌, ◌%◌, ◌^◌, ◌<◌, ◌≤◌, cond, List, [], ◌∷◌, ◌++◌, length, drop, Ok, Err, Result, slice_index}
use Rattle.telegram.specs.declared.fault.TelegramFault.{TelegramFault}
use Rattle.telegram.specs.declared.fault.TelegramFault.TheVariants.{Lengths}
use Rattle.telegram.specs.declared.header.Header.{Header}
use Rattle.telegram.specs.Format.{header_sized}
use Rattle.telegram.specs.Kind.{kind_byte}

pub record Heading : Type 0 where
  pub gauge : ℕ
  pub serial : ℕ
  pub kind : ℕ
  pub note : List ℕ

-- what a header says
abbrev pub heading : Header → Heading
heading h = record { gauge = h.gauge; serial = h.serial; kind = kind_byte h.kind; note = h.note.now }

-- a number in four bytes, the highest first
abbrev pub four : ℕ → List ℕ
four n = n / 2 ^ 24 % 256 ∷ n / 2 ^ 16 % 256 ∷ n / 2 ^ 8 % 256 ∷ n % 256 ∷ []

abbrev pub header_bytes : Heading → List ℕ
header_bytes h = h.gauge ∷ (four h.serial ++ (h.kind ∷ h.note))

-- a serial and a note of the sizes that a header has
pub record Fits (h : Heading) : Type 0 where
  pub serial : h.serial < 2 ^ 32
  pub note : length h.note ≤ 1018

-- the number that the four bytes from i on spell
abbrev pub number : List ℕ → ℕ → ℕ
number b i = 2 ^ 24 * slice_index b i + 2 ^ 16 * slice_index b (i + 1) + 2 ^ 8 * slice_index b (i + 2) + slice_index b (i + 3)

-- what the bytes of a header say
abbrev pub headed : List ℕ → Heading
headed b = record { gauge = slice_index b 0; serial = number b 1; kind = slice_index b 5; note = drop 6 b }

abbrev pub header_reading : List ℕ → Result Heading TelegramFault
header_reading b = cond (header_sized (length b)) (Ok (headed b)) (Err Lengths)
