-- AES-128 as a cipher on blocks: a block is the number that its sixteen bytes spell.
use Rattle.block.specs.Bytes.{spelled, bytes}
use Rattle.cipher.specs.Scheme.{Scheme}
use Rattle.fips197.specs.Cipher.{encrypt, decrypt}

abbrev pub aes128 : Scheme
aes128 = record { key_len = 16; enc = λ k x. spelled (encrypt k (bytes 16 x)); dec = λ k y. spelled (decrypt k (bytes 16 y)) }
