use Rattle.std.proofs.Common.{refl}
use Rattle.fips197.specs.Field.{xtime}
use Rattle.aes.proofs.expand.doubled.Goals as goal

pub returns : goal.returns
unfolding xtime
returns c = refl
