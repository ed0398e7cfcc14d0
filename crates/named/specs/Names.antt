-- The names of ciphers and multipliers.
use Rattle.std.specs.Prelude.{◌≡◌, ℕ, List, Some, None, codes, Option, ◌≢◌}
use Rattle.named.specs.declared.cipher_name.CipherName.{CipherName}
use Rattle.named.specs.declared.cipher_name.CipherName.TheVariants.{Aes128, Bench, WideXtea, WideSpeck64128}
use Rattle.named.specs.declared.multiplier_name.MultiplierName.{MultiplierName}
use Rattle.named.specs.declared.multiplier_name.MultiplierName.TheVariants.{Doubling, Table}

abbrev pub cipher_text : CipherName → List ℕ
cipher_text Aes128 = codes "aes128"
cipher_text Bench = codes "bench"
cipher_text WideXtea = codes "wide-xtea"
cipher_text WideSpeck64128 = codes "wide-speck64128"

abbrev pub multiplier_text : MultiplierName → List ℕ
multiplier_text Doubling = codes "doubling"
multiplier_text Table = codes "table"

-- what has the name t, where names are given by `text`; nothing, where no name is t
abbrev pub Named : {X : Type 0} → (X → List ℕ) → List ℕ → Option X → Type 0
Named text t (Some x) = t ≡ text x
Named text t None = (x : _) → t ≢ text x
