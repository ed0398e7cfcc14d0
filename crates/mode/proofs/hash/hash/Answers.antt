use lib.Bits.{bit_xor}
use Rattle.std.proofs.Common.{ap, ◌∙◌, ap₂}
use Rattle.std.specs.Option.{option_copied}
use Rattle.block.specs.Field.{product}
use Rattle.mode.proofs.Hashes.{hash_is}
use Rattle.mode.proofs.hash.hash.Goals as goal

pub returns : goal.returns
returns g c =
    let l = g.M.Multiplier.element c.args.multiplier.now in
    c.times.ensures
    ∙ ap (product l) (c.bitxor.ensures ∙ ap₂ bit_xor c.header_square.ensures (c.times-of_message.ensures ∙ ap (product l) c.square.ensures))
    ∙ hash_is l (option_copied c.args.header) c.args.message.now
