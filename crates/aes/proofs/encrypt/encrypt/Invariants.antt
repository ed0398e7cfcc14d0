use Rattle.std.proofs.Common.{◌≡◌, map, drop}
use Rattle.fips197.proofs.Rounds.{middle}
use Rattle.aes.specs.Columns.{state_of}
use Rattle.aes.proofs.encrypt.encrypt.Given as goal

-- what is left of the middle rounds gives what all of them do
abbrev pub invariant-loop-key : goal.invariant-loop-key
invariant-loop-key l = middle (map state_of (drop l.key-index l.key-items)) (state_of l.t) ≡ middle (map state_of l.key-items) (state_of l.initial.t)
