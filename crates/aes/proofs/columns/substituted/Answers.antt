use Rattle.aes_tables.specs.Words.{word}
use Rattle.aes.proofs.columns.substituted.Goals as goal

pub returns : goal.returns
unfolding word
returns g c = cc
