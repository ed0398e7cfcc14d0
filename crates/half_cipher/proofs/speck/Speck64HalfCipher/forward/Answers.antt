use Rattle.std.proofs.Common.{ap, ◌∙◌, rules}
use Rattle.half_cipher.specs.Pairs.{joined}
use Rattle.half_cipher.specs.Rounds.{rounds}
use Rattle.half_cipher.specs.Speck.{round, round_at, round_key}
use Rattle.half_cipher.specs.Words.{words_of_key}
use Rattle.half_cipher.specs.Iterated.{rounds_read}
use Rattle.half_cipher.proofs.speck.Speck64HalfCipher.forward.Goals as goal

pub returns : goal.returns
returns c =
    let ws = words_of_key c.args.key.now in
    let run = c.fold.ensures.runs in
    let keys = ap (λ s. s.rest.now) run.1 ∙ c.iter.ensures.rest ∙ c.round_keys-keys.ensures in
    c.join.ensures
    ∙ ap (joined 32)
    (run.3 (λ v y. round y.now v) (λ v y r f' k. search rules)
    ∙ rounds_read (round_key ws) round 27 c.split.result run.0.items ((c.iter.ensures.runs run.0 run.0.seen).4 run.2 ∙ keys)
    ∙ ap (rounds (round_at ws) 27) c.split.ensures)
