-- What the faults say in words.
use Rattle.std.specs.Prelude.{ℕ, List, ◌++◌, codes}
use Rattle.lines.specs.declared.fault.Field.{Field}
use Rattle.lines.specs.declared.fault.Field.TheVariants.{Key, Header, Message, Tag, Ciphertext}
use Rattle.lines.specs.declared.fault.Form.{Form}
use Rattle.lines.specs.declared.fault.Form.TheVariants.{Wrap, Unwrap}
use Rattle.lines.specs.declared.fault.LineFault.{LineFault}
use Rattle.lines.specs.declared.fault.LineFault.TheVariants.{TooFewFields, TooManyFields, OddDigits, NotHex, NoMemory}

abbrev pub field_name : Field → List ℕ
field_name Key = codes "key"
field_name Header = codes "header"
field_name Message = codes "message"
field_name Tag = codes "tag"
field_name Ciphertext = codes "ciphertext"

abbrev pub form_fields : Form → List ℕ
form_fields Wrap = codes "3 wanted: KEY HEADER MESSAGE"
form_fields Unwrap = codes "4 wanted: KEY HEADER TAG CIPHERTEXT"

abbrev pub fault_text : LineFault → List ℕ
fault_text (TooFewFields form) = codes "too few fields, " ++ form_fields form
fault_text (TooManyFields form) = codes "too many fields, " ++ form_fields form
fault_text (OddDigits field) = codes "the " ++ field_name field ++ codes " has an odd number of hex digits"
fault_text (NotHex field) = codes "the " ++ field_name field ++ codes " is not hex"
fault_text NoMemory = codes "out of memory"
