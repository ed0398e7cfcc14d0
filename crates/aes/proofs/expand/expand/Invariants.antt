use Rattle.std.proofs.Common.{◌≡◌, ◌-◌, ◌++◌, map, take}
use Rattle.aes.specs.Columns.{state_of}
use Rattle.aes.proofs.Expansion.{after}
use Rattle.aes.proofs.expand.expand.Given as goal

-- the round keys that are made, and then what is to come after the last of them
abbrev pub invariant-loop-next : goal.invariant-loop-next
invariant-loop-next l =
    map state_of (take l.next-index l.next-items) ++ after (10 - l.next-index) l.rcon (state_of l.key) ≡ after 10 1 (state_of l.initial.key)
