use Rattle.std.proofs.Common.{ap, ap₂, ◌∙◌, rules}
use Rattle.half_cipher.specs.Pairs.{joined}
use Rattle.half_cipher.specs.Rounds.{rounds}
use Rattle.half_cipher.specs.Xtea.{cycle_at}
use Rattle.half_cipher.proofs.Counted.{rounds_counted}
use Rattle.half_cipher.proofs.xtea.XteaHalfCipher.forward.Goals as goal

pub returns : goal.returns
returns c =
    let k = c.be_words-k.result in
    let run = c.fold.ensures.runs in
    c.join.ensures
    ∙ ap (joined 32)
    (run.3 (λ v i. cycle_at k i v) (λ v i r f' h. search rules)
    ∙ rounds_counted 32 (cycle_at k) c.split.result run.0 run.1 run.2
    ∙ ap₂ (λ ws. rounds (cycle_at ws) 32) c.be_words-k.ensures c.split.ensures)
