-- Words of 32 bits, and a key as four such words, big-endian.
use Rattle.std.specs.Prelude.{List, ℕ, ◌+◌, ◌-◌, ◌*◌, ◌/◌, ◌%◌, ◌^◌}
use Rattle.std.specs.Int.Bits.{bit_or}
use Rattle.block.specs.Bytes.{words_of}

abbrev pub add : ℕ → ℕ → ℕ
add a b = (a + b) % 2 ^ 32

abbrev pub sub : ℕ → ℕ → ℕ
sub a b = (a + (2 ^ 32 - b)) % 2 ^ 32

abbrev pub shift_left : ℕ → ℕ → ℕ
shift_left n a = a * 2 ^ n % 2 ^ 32

abbrev pub shift_right : ℕ → ℕ → ℕ
shift_right n a = a / 2 ^ n

abbrev pub rotate_left : ℕ → ℕ → ℕ
rotate_left n a = bit_or (shift_left n a) (shift_right (32 - n) a)

abbrev pub rotate_right : ℕ → ℕ → ℕ
rotate_right n a = bit_or (shift_right n a) (shift_left (32 - n) a)

-- the words of a key
abbrev pub words_of_key : List ℕ → List ℕ
words_of_key = words_of
