-- The key that a cipher holds, and the hash key that a multiplier holds with it.
use Rattle.std.specs.Prelude.{◌≡◌, Bool, true, false, List, ℕ}
use Rattle.cipher.specs.declared.Cipher as Cipher
use Rattle.multiplier.specs.declared.Multiplier as Multiplier
use Rattle.mode.specs.declared.hbs.Hbs.{Hbs}
use Rattle.mode.specs.Sealing.{Keys}

-- what a cipher and a multiplier hold
abbrev pub held : {C M : Type 0} → Cipher.Ghosts C → Multiplier.Ghosts M → C → M → Keys
held cipher multiplier c m = record { scheme = cipher.scheme c; key = cipher.loaded c; hash_key = multiplier.element m }

-- .. and the two as an Hbs
abbrev pub keys : {C M : Type 0} → Cipher.Ghosts C → Multiplier.Ghosts M → Hbs C M → Keys
keys cipher multiplier h = held cipher multiplier h.cipher h.multiplier

-- h becomes h': where it is `taken`, the key k and its hash key, which is what the zero block is enciphered to, are
-- loaded and stay; else nothing is altered
pub record Keyed {C M : Type 0} (cipher : Cipher.Ghosts C) (multiplier : Multiplier.Ghosts M) (taken : Bool) (k : List ℕ) (h h' : Hbs C M) : Type 0 where
  pub scheme : cipher.scheme h'.cipher ≡ cipher.scheme h.cipher
  pub key : taken ≡ true → cipher.loaded h'.cipher ≡ k
  pub hash_key : taken ≡ true → multiplier.element h'.multiplier ≡ (cipher.scheme h.cipher).enc k 0
  pub same : taken ≡ false → h' ≡ h

-- .. the same of a cipher c and a multiplier m, which become c' and m'
pub record KeyedParts {C M : Type 0} (cipher : Cipher.Ghosts C) (multiplier : Multiplier.Ghosts M) (taken : Bool) (k : List ℕ) (c : C) (m : M) (c' : C) (m' : M) : Type 0 where
  pub scheme : cipher.scheme c' ≡ cipher.scheme c
  pub key : taken ≡ true → cipher.loaded c' ≡ k
  pub hash_key : taken ≡ true → multiplier.element m' ≡ (cipher.scheme c).enc k 0
  pub same_cipher : taken ≡ false → c' ≡ c
  pub same_multiplier : taken ≡ false → m' ≡ m
