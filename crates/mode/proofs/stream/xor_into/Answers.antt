use Rattle.std.proofs.Common.{rules}
use Rattle.mode.proofs.Streams.{done_none, byte_turn}
use Rattle.mode.proofs.stream.xor_into.Goals as goal

pub loop-i-init : goal.loop-i-init
loop-i-init c = done_none c.args.part.now c.args.key

pub loop-i-preserved : goal.loop-i-preserved
loop-i-preserved c =
    byte_turn c.args.part.now c.args.key c.loop-i.part c.loop-i.i c.loop-i-test.true (search rules) c.loop-i.invariant
