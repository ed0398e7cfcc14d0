-- What wrap and unwrap do, under the key k of a scheme s, with a header h, a tag buffer t and a text x.
use Rattle.std.specs.Prelude.{◌≡◌, ℕ, true, cond, ◌&&◌, List, ◌++◌, length, take, drop, replicate, Some, None, Option, ◌≢◌, nat_le}
use Rattle.std.specs.Option.{option_map}
use Rattle.std.specs.List.{between}
use Rattle.block.specs.Bytes.{spelled, bytes}
use Rattle.cipher.specs.Scheme.{Scheme}
use Rattle.mode.specs.Sealing.{Sealed, pair, sealed, opened}
use Rattle.seal.specs.declared.fault.SealFault.TheVariants.{Size, Mismatch}
use Rattle.seal.specs.Answers.{refusal}
use Rattle.seal.specs.Sizes.{sized}

-- as many zeros as the list has elements
abbrev pub cleared : List ℕ → List ℕ
cleared x = replicate (length x) 0

-- the bytes x with f of their part from i up to j in its place, where that is a part of them
abbrev pub part_mapped : ℕ → ℕ → (List ℕ → List ℕ) → List ℕ → List ℕ
part_mapped i j f x = cond (nat_le i j && nat_le j (length x)) (take i x ++ (f (between i j x) ++ drop j x)) x

-- the bytes x once their part from i up to j is opened to m, where that is a part of them
abbrev pub part_opened : ℕ → ℕ → Option (List ℕ) → List ℕ → Option (List ℕ)
part_opened i j m x = cond (nat_le i j && nat_le j (length x)) (option_map (λ m. take i x ++ (m ++ drop j x)) m) None

-- what a tag buffer and a text stand for
abbrev pub given : List ℕ → List ℕ → Sealed
given t x = pair (spelled t) x

-- the message that unwrap accepts
abbrev pub accepted : Scheme → List ℕ → Option (List ℕ) → List ℕ → List ℕ → Option (List ℕ)
accepted s k h t x = cond (sized s k h t x) (opened s k h (given t x)) None

-- what unwrap leaves of a text: the message accepted, or zeros
abbrev pub left : Option (List ℕ) → List ℕ → List ℕ
left (Some m) x = m
left None x = cleared x

-- the number that opening comes to
abbrev pub verdict : Option (List ℕ) → ℕ
verdict (Some m) = 0
verdict None = refusal Mismatch

-- wrap answers r, and leaves t' in the tag buffer and x' in the text
pub record Wrapped (s : Scheme) (k : List ℕ) (h : Option (List ℕ)) (t x : List ℕ) (r : ℕ) (t' x' : List ℕ) : Type 0 where
  pub answers : r ≡ cond (sized s k h t x) 0 (refusal Size)
  pub tag : t' ≡ cond (sized s k h t x) (bytes 16 (sealed s k h x).tag) t
  pub text : x' ≡ cond (sized s k h t x) (sealed s k h x).text x
  -- what it leaves opens to the message
  pub opens : r ≡ 0 → opened s k h (given t' x') ≡ Some x

-- unwrap answers r, and leaves y in the text
pub record Unwrapped (s : Scheme) (k : List ℕ) (h : Option (List ℕ)) (t x : List ℕ) (r : ℕ) (y : List ℕ) : Type 0 where
  pub answers : r ≡ cond (sized s k h t x) (verdict (opened s k h (given t x))) (refusal Size)
  pub leaves : y ≡ left (accepted s k h t x) x
  -- an accepted message seals to what was handed in, and is the only one that does
  pub reseals : r ≡ 0 → sealed s k h y ≡ given t x
  pub only : r ≡ 0 → (m : List ℕ) → sealed s k h m ≡ given t x → m ≡ y
  -- a mismatch is answered exactly where no message seals to it
  pub refused : r ≡ refusal Mismatch → (m : List ℕ) → sealed s k h m ≢ given t x
  pub refuses : sized s k h t x ≡ true → ((m : List ℕ) → sealed s k h m ≢ given t x) → r ≡ refusal Mismatch
