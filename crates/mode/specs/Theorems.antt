-- What is proved of sealing and opening, under every key of every lawful scheme.
use Rattle.std.specs.Prelude.{◌≡◌, ℕ, ◌^◌, ◌<◌, List, Some, None, Option, ◌≢◌}
use Rattle.cipher.specs.Scheme.{Scheme, IsKey, Lawful}
use Rattle.mode.specs.Sealing.{Sealed, sealed, opened}

pub record Inverse (s : Scheme) (k : List ℕ) (h : Option (List ℕ)) : Type 0 where
  -- what is sealed opens to itself
  pub opens : (m : List ℕ) → opened s k h (sealed s k h m) ≡ Some m
  -- what opens seals back to the same tag and ciphertext
  pub reseals : (c : Sealed) (m : List ℕ) → c.tag < 2 ^ 128 → opened s k h c ≡ Some m → sealed s k h m ≡ c
  -- no two messages seal alike
  pub one : (m n : List ℕ) → sealed s k h m ≡ sealed s k h n → m ≡ n
  -- nothing opens exactly where no message seals to it
  pub refused : (c : Sealed) → opened s k h c ≡ None → (m : List ℕ) → sealed s k h m ≢ c
  pub refuses : (c : Sealed) → c.tag < 2 ^ 128 → ((m : List ℕ) → sealed s k h m ≢ c) → opened s k h c ≡ None

abbrev pub Inverses : Type 0
Inverses = (s : Scheme) (k : List ℕ) (h : Option (List ℕ)) → Lawful s → IsKey s k → Inverse s k h
