-- The format of a telegram: the version 1, the header's length, the header, the message's length, the tag and the
-- ciphertext, which is as long as the message.
use Rattle.std.specs.Prelude.{◌≡◌, ℕ, ◌+◌, ◌*◌, ◌/◌, ◌%◌, ◌≤◌, Bool, cond, not, ◌&&◌, List, [], ◌∷◌, ◌++◌, length, take, drop, Ok, Err, Result, ◌==◌, nat_le, nat_lt, slice_index}
use Rattle.telegram.specs.declared.fault.TelegramFault.{TelegramFault}
use Rattle.telegram.specs.declared.fault.TelegramFault.TheVariants.{Version, Lengths}

pub record Parts : Type 0 where
  pub header : List ℕ
  pub tag : List ℕ
  pub ciphertext : List ℕ

-- ---- from parts to bytes

-- a number in two bytes, the high one first
abbrev pub two : ℕ → List ℕ
two n = n / 256 % 256 ∷ n % 256 ∷ []

abbrev pub written : Parts → List ℕ
written p = 1 ∷ (two (length p.header) ++ (p.header ++ (two (length p.ciphertext) ++ (p.tag ++ p.ciphertext))))

-- parts of the sizes that a telegram has
pub record Sized (p : Parts) : Type 0 where
  pub header : (6 ≤ length p.header) × (length p.header ≤ 1024)
  pub tag : length p.tag ≡ 16
  pub ciphertext : length p.ciphertext ≤ 4096

-- ---- from bytes to parts

-- the number that the two bytes from i on spell
abbrev pub word : List ℕ → ℕ → ℕ
word b i = 256 * slice_index b i + slice_index b (i + 1)

abbrev pub header_length : List ℕ → ℕ
header_length b = word b 1

abbrev pub message_length : List ℕ → ℕ
message_length b = word b (3 + header_length b)

-- a first byte exists, and is not 1
abbrev pub other_version : List ℕ → Bool
other_version b = nat_lt 0 (length b) && not (slice_index b 0 == 1)

abbrev pub header_sized : ℕ → Bool
header_sized h = nat_le 6 h && nat_le h 1024

-- the lengths are in their ranges, and add up to the buffer's
abbrev pub lengths_fit : List ℕ → Bool
lengths_fit b = header_sized (header_length b) && (nat_le (message_length b) 4096 && length b == 21 + header_length b + message_length b)

abbrev pub parts : List ℕ → Parts
parts b =
    let h = header_length b in
    record {
      header = take h (drop 3 b);
      tag = take 16 (drop (5 + h) b);
      ciphertext = drop (21 + h) b;
    }

abbrev pub reading : List ℕ → Result Parts TelegramFault
reading b = cond (other_version b) (Err Version) (cond (lengths_fit b) (Ok (parts b)) (Err Lengths))
