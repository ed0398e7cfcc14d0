use Rattle.std.proofs.Common.{ap, ◌∙◌, reverse, rules}
use Rattle.half_cipher.specs.Pairs.{joined}
use Rattle.half_cipher.specs.Rounds.{unrounds}
use Rattle.half_cipher.specs.Iterated.{unrounds_read}
use Rattle.wide.specs.Wide.{pair_of, unround, unround_under}
use Rattle.wide.proofs.WideCipher.decipher.Goals as goal

pub returns : goal.returns
returns g c =
    let e = (g.H.HalfCipher.maps c.args.self.now.half_cipher).forward in
    let key = c.args.self.now.key in
    let run = c.rfold-halves.ensures.runs in
    let keys = ap (λ s. s.rest.now) run.1 ∙ c.iter.ensures.rest ∙ c.round_keys.ensures in
    c.from_halves.ensures
    ∙ ap (joined 64)
    (run.3 (λ p y. unround_under e y.now p) (λ p y r f' k. search rules)
    ∙ unrounds_read (pair_of key) (unround_under e) 6 c.halves.result run.0.items ((c.iter.ensures.runs_back run.0 run.0.seen).4 run.2 ∙ ap reverse keys)
    ∙ ap (unrounds (unround e key) 6) c.halves.ensures)
