use Rattle.fips197.specs.Cipher.{encrypt}
use Rattle.aes.proofs.aes128.Aes128Cipher.encipher.Goals as goal

pub returns : goal.returns
unfolding encrypt
returns c = let e = c.args.self.now.expanded in cc
