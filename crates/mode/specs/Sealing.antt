-- Sealing and opening: the hash is enciphered as the tag, and starts the counter stream.
use Rattle.std.specs.Prelude.{ℕ, cond, List, Some, None, Option, ◌==◌}
use Rattle.cipher.specs.Scheme.{Scheme}
use Rattle.mode.specs.Hash.{hash}
use Rattle.mode.specs.Stream.{streamed}

pub record Sealed : Type 0 where
  pub tag : ℕ
  pub text : List ℕ

abbrev pub pair : ℕ → List ℕ → Sealed
pair t x = record { tag = t; text = x }

-- under the hash key l and the maps e and d
unfoldable pub sealed_by : ℕ → (ℕ → ℕ) → Option (List ℕ) → List ℕ → Sealed
sealed_by l e h m = let s = hash l h m in pair (e s) (streamed e s m)

unfoldable pub opened_by : ℕ → (ℕ → ℕ) → (ℕ → ℕ) → Option (List ℕ) → Sealed → Option (List ℕ)
opened_by l e d h c = let s = d c.tag in let m = streamed e s c.text in cond (hash l h m == s) (Some m) None

-- under the key k of a cipher's scheme: the hash key is what the zero block is enciphered to
abbrev pub sealed : Scheme → List ℕ → Option (List ℕ) → List ℕ → Sealed
sealed s k h m = sealed_by (s.enc k 0) (s.enc k) h m

abbrev pub opened : Scheme → List ℕ → Option (List ℕ) → Sealed → Option (List ℕ)
opened s k h c = opened_by (s.enc k 0) (s.enc k) (s.dec k) h c

-- a cipher's scheme, a key of it, and a hash key, whether or not it is the key's
pub record Keys : Type 0 where
  pub scheme : Scheme
  pub key : List ℕ
  pub hash_key : ℕ

-- under such keys
abbrev pub sealed_with : Keys → Option (List ℕ) → List ℕ → Sealed
sealed_with k h m = sealed_by k.hash_key (k.scheme.enc k.key) h m

abbrev pub opened_with : Keys → Option (List ℕ) → Sealed → Option (List ℕ)
opened_with k h c = opened_by k.hash_key (k.scheme.enc k.key) (k.scheme.dec k.key) h c

-- .. what is left of a text once the stream that the tag t stands for is taken off
abbrev pub streamed_with : Keys → ℕ → List ℕ → List ℕ
streamed_with k t x = streamed (k.scheme.enc k.key) (k.scheme.dec k.key t) x
