use Rattle.std.proofs.Common.{◌≢◌, ℕ, ◌<◌, length, refl, sym, ap, ◌∙◌, arith, below_more, length-set, get_or-set_same, get_or-set_other, rules}
use Rattle.std.proofs.lemmas.List.FromFn.{fill_by_all}
use Rattle.half_cipher.specs.Rounds.{keys_of, rounds}
use Rattle.half_cipher.specs.Speck.{Schedule, first, next, round_key}
use Rattle.half_cipher.specs.Words.{words_of_key}
use Rattle.half_cipher.specs.Iterated.{rounds_more}
use Rattle.half_cipher.proofs.speck.round_keys.Goals as goal

pub loop-i-init : goal.loop-i-init
unfolding rounds
loop-i-init c = (refl, ap first c.be_words.ensures, λ j h. absurd (omega arith))

pub loop-i-preserved : goal.loop-i-preserved
loop-i-preserved c =
    let i = c.loop-i.i in
    let keys = c.loop-i.slot-items in
    let start = first (words_of_key c.args.key.now) in
    let turned : ℕ × ℕ → Schedule = λ lk. record { l0 = c.loop-i.l1; l1 = c.loop-i.l2; l2 = lk.0; k = lk.1 } in (
      length-set keys i c.loop-i.k ∙ c.loop-i.invariant.0,
      ap turned c.round-l.ensures ∙ ap (next i) c.loop-i.invariant.1 ∙ sym (rounds_more next i start),
      below_more _ _
          (λ j h. let other : j ≢ i = omega arith in rw get_or-set_other (c.loop-i.invariant.2 j h))
          (let within : i < length keys = omega arith in rw get_or-set_same (ap (λ (s : Schedule). s.k) c.loop-i.invariant.1)),
    )

pub returns : goal.returns
unfolding keys_of
returns c =
    fill_by_all (round_key (words_of_key c.args.key.now)) c.loop-i.slot-items 27 0 c.loop-i.invariant.0 (search rules)
