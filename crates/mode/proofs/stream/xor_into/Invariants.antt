use Rattle.std.proofs.Common.{◌≡◌}
use Rattle.mode.proofs.Streams.{done}
use Rattle.mode.proofs.stream.xor_into.Given as goal

abbrev pub invariant-loop-i : goal.invariant-loop-i
invariant-loop-i l = l.part ≡ done l.i l.initial.part l.key
