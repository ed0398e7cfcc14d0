use Rattle.std.proofs.Common.{◌≡◌, ◌++◌, drop, string_bytes}
use Rattle.lines.specs.Hex.{digits}
use Rattle.lines.proofs.hex.digits_of.Given as goal

-- The text so far, before the digits of the bytes that are left, is that of all bytes.
abbrev pub invariant-loop-b : goal.invariant-loop-b
invariant-loop-b l = string_bytes l.text ++ digits (drop l.b-index l.bytes) ≡ digits l.bytes
