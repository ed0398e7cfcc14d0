use Rattle.mode.proofs.Inverts.{inverses}
use Rattle.mode.proofs.inverse_laws.Goals as goal

pub returns : goal.returns
returns c = inverses
