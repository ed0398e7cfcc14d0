-- The schemes of the ciphers that have names.
use Rattle.aes.specs.Scheme.{aes128}
use Rattle.cipher.specs.Bench.{bench}
use Rattle.cipher.specs.Scheme.{Scheme}
use Rattle.half_cipher.specs.Speck.{speck}
use Rattle.half_cipher.specs.Xtea.{xtea}
use Rattle.wide.specs.Wide.{wide}
use Rattle.named.specs.declared.cipher_name.CipherName.{CipherName}
use Rattle.named.specs.declared.cipher_name.CipherName.TheVariants.{Aes128, Bench, WideXtea, WideSpeck64128}

abbrev pub scheme_named : CipherName → Scheme
scheme_named Aes128 = aes128
scheme_named Bench = bench
scheme_named WideXtea = wide xtea.forward
scheme_named WideSpeck64128 = wide speck.forward
