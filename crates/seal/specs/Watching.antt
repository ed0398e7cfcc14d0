-- The buffer that a watch stands over.
use Rattle.std.specs.Prelude.{◌≡◌}
use Rattle.seal.specs.declared.watch.Watch.{Watch}

-- it stays the same one, whatever becomes of its bytes
abbrev pub SameBuffer : Watch → Watch → Type 0
SameBuffer old new = new.bytes.ghost_name ≡ old.bytes.ghost_name
