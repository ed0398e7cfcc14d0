use Rattle.std.specs.Option.{option_copied}
use Rattle.block.specs.Num.{num}
use Rattle.mode.specs.Keys.{held}
use Rattle.mode.proofs.Seals.{seals_so}
use Rattle.mode.proofs.sealing.seal.Goals as goal

pub returns : goal.returns
returns g c =
    seals_so (held g.C.Cipher g.M.Multiplier c.args.cipher.now c.args.multiplier.now)
    (option_copied c.args.header) c.args.text.now (num c.hash-start.result) (num c.encipher.result) c.apply_stream.new.text
    c.hash-start.ensures c.encipher.ensures c.apply_stream.ensures
