use Rattle.fips197.proofs.Inverse.{cipher_laws_lem}
use Rattle.fips197.proofs.cipher_laws.Goals as goal

pub returns : goal.returns
returns c = cipher_laws_lem
