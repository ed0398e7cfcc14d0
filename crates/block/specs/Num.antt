-- The number that a block spells.
use Rattle.std.specs.Prelude.{ℕ, ◌+◌, ◌*◌, ◌^◌}
use Rattle.block.specs.declared.Block.{Block}

abbrev pub num : Block → ℕ
num b = b.hi * 2 ^ 64 + b.lo
