use Rattle.aes.proofs.Unpacked.{added}
use Rattle.aes.proofs.columns.ColumnsBitXor.bitxor.Goals as goal

pub returns : goal.returns
returns c = added c.args.w.0 c.args.self.0
