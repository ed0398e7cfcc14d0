use Rattle.std.proofs.Common.{rules}
use Rattle.aes.proofs.Unpacked.{forth_mixed}
use Rattle.aes.proofs.encrypt.round.Goals as goal

pub returns : goal.returns
returns c = search (rules, forth_mixed)
