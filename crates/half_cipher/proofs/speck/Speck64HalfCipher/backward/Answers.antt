use Rattle.std.proofs.Common.{ap, ◌∙◌, reverse, rules}
use Rattle.half_cipher.specs.Pairs.{joined}
use Rattle.half_cipher.specs.Rounds.{unrounds}
use Rattle.half_cipher.specs.Speck.{unround, unround_at, round_key}
use Rattle.half_cipher.specs.Words.{words_of_key}
use Rattle.half_cipher.specs.Iterated.{unrounds_read}
use Rattle.half_cipher.proofs.speck.Speck64HalfCipher.backward.Goals as goal

pub returns : goal.returns
returns c =
    let ws = words_of_key c.args.key.now in
    let run = c.rfold.ensures.runs in
    let keys = ap (λ s. s.rest.now) run.1 ∙ c.iter.ensures.rest ∙ c.round_keys-keys.ensures in
    c.join.ensures
    ∙ ap (joined 32)
    (run.3 (λ v y. unround y.now v) (λ v y r f' k. search rules)
    ∙ unrounds_read (round_key ws) unround 27 c.split.result run.0.items ((c.iter.ensures.runs_back run.0 run.0.seen).4 run.2 ∙ ap reverse keys)
    ∙ ap (unrounds (unround_at ws) 27) c.split.ensures)
