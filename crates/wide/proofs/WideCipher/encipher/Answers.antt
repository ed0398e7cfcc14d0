use Rattle.std.proofs.Common.{ap, ◌∙◌, rules}
use Rattle.half_cipher.specs.Pairs.{joined}
use Rattle.half_cipher.specs.Rounds.{rounds}
use Rattle.half_cipher.specs.Iterated.{rounds_read}
use Rattle.wide.specs.Wide.{pair_of, round, round_under}
use Rattle.wide.proofs.WideCipher.encipher.Goals as goal

pub returns : goal.returns
returns g c =
    let e = (g.H.HalfCipher.maps c.args.self.now.half_cipher).forward in
    let key = c.args.self.now.key in
    let run = c.fold-halves.ensures.runs in
    let keys = ap (λ s. s.rest.now) run.1 ∙ c.iter.ensures.rest ∙ c.round_keys.ensures in
    c.from_halves.ensures
    ∙ ap (joined 64)
    (run.3 (λ p y. round_under e y.now p) (λ p y r f' k. search rules)
    ∙ rounds_read (pair_of key) (round_under e) 6 c.halves.result run.0.items ((c.iter.ensures.runs run.0 run.0.seen).4 run.2 ∙ keys)
    ∙ ap (rounds (round e key) 6) c.halves.ensures)
