use Rattle.std.proofs.Common.{◌≡◌, ℕ, ◌<◌, get_or, length}
use Rattle.half_cipher.specs.Rounds.{rounds}
use Rattle.half_cipher.specs.Speck.{Schedule, first, next, round_key}
use Rattle.half_cipher.specs.Words.{words_of_key}
use Rattle.half_cipher.proofs.speck.round_keys.Given as goal

-- what the schedule holds, and the keys that are written
abbrev pub invariant-loop-i : goal.invariant-loop-i
invariant-loop-i l =
    (length l.slot-items ≡ 27)
    × (◌≡◌ {A = Schedule} (record { l0 = l.l0; l1 = l.l1; l2 = l.l2; k = l.k }) (rounds next l.i (first (words_of_key l.key))))
    × ((j : ℕ) → j < l.i → get_or l.slot-items j 0 ≡ round_key (words_of_key l.key) j)
