use Rattle.fips197.specs.Cipher.{decrypt}
use Rattle.aes.proofs.aes128.Aes128Cipher.decipher.Goals as goal

pub returns : goal.returns
unfolding decrypt
returns c = let e = c.args.self.now.expanded in cc
