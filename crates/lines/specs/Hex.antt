-- Bytes in hex: two digits to a byte, and a lone dot for no bytes.
use Rattle.std.specs.Prelude.{◌≡◌, ℕ, ◌+◌, ◌-◌, ◌*◌, ◌/◌, ◌%◌, ◌<◌, cond, ◌&&◌, List, [], ◌∷◌, length, Some, None, codes, Option, Result, ◌==◌, nat_le, nat_lt}
use Rattle.std.specs.Option.{ok_or}
use Rattle.std.specs.List.{AllByRecursion}
use Rattle.std.specs.Str.{bytes_eq}
use Rattle.lines.specs.declared.fault.Field.{Field}
use Rattle.lines.specs.declared.fault.LineFault.{LineFault}
use Rattle.lines.specs.declared.fault.LineFault.TheVariants.{OddDigits, NotHex}

-- the value of a hex digit of either case: 0 to 9, a to f, A to F
abbrev pub digit_of : ℕ → Option ℕ
digit_of c =
    cond (nat_le 48 c && nat_le c 57) (Some (c - 48))
    (cond (nat_le 97 c && nat_le c 102) (Some (c - 87))
    (cond (nat_le 65 c && nat_le c 70) (Some (c - 55)) None))

-- the byte of two digits, the high one first
abbrev pub join_digits : Option ℕ → Option ℕ → Option ℕ
join_digits (Some high) (Some low) = Some (16 * high + low)
join_digits (Some high) None = None
join_digits None low = None

abbrev pub byte_of : ℕ → ℕ → Option ℕ
byte_of high low = join_digits (digit_of high) (digit_of low)

-- a byte before bytes, where both are there
abbrev pub before : Option ℕ → Option (List ℕ) → Option (List ℕ)
before (Some b) (Some bs) = Some (b ∷ bs)
before (Some b) None = None
before None bs = None

-- the bytes of digits, two to a byte
abbrev pub pairs : List ℕ → Option (List ℕ)
pairs [] = Some []
pairs (c ∷ []) = None
pairs (high ∷ low ∷ cs) = before (byte_of high low) (pairs cs)

-- the bytes that a text in hex writes
abbrev pub decoded : List ℕ → Option (List ℕ)
decoded text = cond (bytes_eq text (codes ".")) (Some []) (pairs text)

-- what is wrong with a field that is no hex
abbrev pub hex_fault : Field → List ℕ → LineFault
hex_fault field text = cond (length text % 2 == 0) (NotHex field) (OddDigits field)

-- a field's bytes, or what is wrong with it
abbrev pub reading : Field → List ℕ → Result (List ℕ) LineFault
reading field text = ok_or (decoded text) (hex_fault field text)

-- the digit of a value below 16
abbrev pub symbol_of : ℕ → ℕ
symbol_of d = cond (nat_lt d 10) (48 + d) (87 + d)

-- the digits of bytes
abbrev pub digits : List ℕ → List ℕ
digits [] = []
digits (b ∷ bs) = symbol_of (b / 16) ∷ symbol_of (b % 16) ∷ digits bs

-- bytes as text in hex
abbrev pub encoded : List ℕ → List ℕ
encoded [] = codes "."
encoded (b ∷ bs) = digits (b ∷ bs)

-- numbers that are bytes
abbrev pub Bytes : List ℕ → Type 0
Bytes bs = AllByRecursion (λ b. b < 256) bs

-- what is written is read back as the same bytes
abbrev pub ReadsBack : Type 0
ReadsBack = (bs : List ℕ) → Bytes bs → decoded (encoded bs) ≡ Some bs
