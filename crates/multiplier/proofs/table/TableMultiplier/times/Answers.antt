use Rattle.std.proofs.Common.{rules}
use Rattle.block.specs.Num.{num}
use Rattle.multiplier.specs.Products.{held}
use Rattle.multiplier.proofs.Halves.{bytes_none, bytes_more, bytes_all}
use Rattle.multiplier.proofs.table.TableMultiplier.times.Goals as goal

pub loop-byte-init : goal.loop-byte-init
loop-byte-init c = bytes_none (held c.args.self.now.products 1) c.to_bytes-byte-items.result

pub loop-byte-preserved : goal.loop-byte-preserved
loop-byte-preserved c =
    bytes_more (held c.args.self.now.products 1) (num c.args.block) c.loop-byte.byte-index (num c.loop-byte.sum)
    c.to_bytes-byte-items.result c.to_bytes-byte-items.ensures c.loop-byte.invariant
    (num c.step.result) (num c.step-sum.result) c.loop-byte-test.true
    c.step.ensures c.step-sum.ensures

pub returns : goal.returns
returns c =
    bytes_all (held c.args.self.now.products 1) (num c.args.block) c.loop-byte.byte-index (num c.loop-byte.sum)
    c.to_bytes-byte-items.result c.to_bytes-byte-items.ensures c.loop-byte.invariant (search rules) c.loop-byte-test.false
