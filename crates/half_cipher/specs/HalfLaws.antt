-- A half cipher by rounds on two words is lawful where each round is undone.
use Rattle.std.specs.Prelude.{List, ℕ}
use Rattle.half_cipher.specs.Maps.{HalfMaps, IsHalfKey, LawfulHalf}
use Rattle.half_cipher.specs.Pairs.{parted, joined}
use Rattle.half_cipher.specs.Rounds.{rounds, unrounds}
use Rattle.half_cipher.specs.Iterated.{Keep, Undo}
use Rattle.half_cipher.specs.PairsLemmas.{Parts, forward_lt, backward_lt, backward_forward, forward_backward}

-- two words
abbrev pub AreWords : ℕ × ℕ → Type 0
AreWords v = Parts 32 v

-- f k are the n rounds under the key k, and g k undoes them
module _ (n : ℕ) (f g : List ℕ → ℕ → ℕ × ℕ → ℕ × ℕ) where
  abbrev pub maps : HalfMaps
  maps = record { forward = λ k x. joined 32 (rounds (f k) n (parted 32 x)); backward = λ k y. joined 32 (unrounds (g k) n (parted 32 y)) }

  pub lawful_rounds : ((k : List ℕ) → IsHalfKey k → Keep AreWords n (f k)) → ((k : List ℕ) → IsHalfKey k → Keep AreWords n (g k))
      → ((k : List ℕ) → IsHalfKey k → Undo AreWords n (f k) (g k)) → ((k : List ℕ) → IsHalfKey k → Undo AreWords n (g k) (f k))
      → LawfulHalf maps
  lawful_rounds f-words g-words undone redone =
      record {
        forward_half = λ k x key. forward_lt 32 n (f k) (g k) (f-words k key) x;
        backward_half = λ k y key. backward_lt 32 n (f k) (g k) (g-words k key) y;
        backward_forward = λ k x key. backward_forward 32 n (f k) (g k) (f-words k key) (undone k key) x;
        forward_backward = λ k y key. forward_backward 32 n (f k) (g k) (g-words k key) (redone k key) y;
      }
