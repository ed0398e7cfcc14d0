use Rattle.std.proofs.Common.{◌≡◌, map}
use Rattle.fips197.proofs.Rounds.{inv_middle}
use Rattle.aes.specs.Columns.{state_of}
use Rattle.aes.proofs.decrypt.decrypt.Given as goal

-- what is left of the middle rounds gives what all of them do
abbrev pub invariant-loop-key : goal.invariant-loop-key
invariant-loop-key l =
    inv_middle (map state_of l.key-iterator.iter.rest.now) (state_of l.t) ≡ inv_middle (map state_of l.initial.key-iterator.iter.rest.now) (state_of l.initial.t)
