use Rattle.std.proofs.Common.{arith}
use Rattle.fips197.specs.Bytes.{entry}
use Rattle.fips197.specs.Field.{xtime, times, mul, squares, inverse}
use Rattle.fips197.specs.Sbox.{rotate, unaffine, inv_sub_byte}
use Rattle.fips197.proofs.InvSubBytesSubstitution.of.Goals as goal

pub returns : goal.returns
unfolding xtime times mul squares inverse rotate unaffine inv_sub_byte
returns c = entry inv_sub_byte c.args.a (omega arith)
