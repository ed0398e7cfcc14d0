-- A number of 2w bits as two numbers of w bits, the first of them most significant.
use Rattle.std.specs.Prelude.{ℕ, ◌+◌, ◌*◌, ◌/◌, ◌%◌, ◌^◌}

abbrev pub parted : ℕ → ℕ → ℕ × ℕ
parted w x = (x / 2 ^ w, x % 2 ^ w)

abbrev pub joined : ℕ → ℕ × ℕ → ℕ
joined w p = p.0 * 2 ^ w + p.1
