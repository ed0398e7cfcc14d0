use Rattle.std.proofs.Common.{◌∙◌, rules}
use Rattle.wide.proofs.RoundKeys.{pairs}
use Rattle.wide.proofs.Wide.round_keys.Goals as goal

pub returns : goal.returns
returns g c =
    c.as_chunks-2.ensures.front
    ∙ pairs c.args.self.now.key c.as_chunks.result.0.now (search rules) c.as_chunks.ensures.front c.as_chunks.ensures.front_len
