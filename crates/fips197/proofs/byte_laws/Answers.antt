use Rattle.fips197.specs.Bytes.{inverts, sbox_laws}
use Rattle.fips197.proofs.byte_laws.Goals as goal

pub returns : goal.returns
returns c = (inverts, sbox_laws)
