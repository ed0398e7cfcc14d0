use Rattle.std.proofs.Common.{rules}
use Rattle.aes.proofs.Unpacked.{back_substituted}
use Rattle.aes.proofs.decrypt.turned.Goals as goal

pub returns : goal.returns
returns c = search (rules, back_substituted)
