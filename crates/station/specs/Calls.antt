-- What a call is answered, and what an order says.
use Rattle.std.specs.Prelude.{ℕ}
use Rattle.telegram.specs.declared.parts.Place.{Place}

-- the three numbers of a change order
pub record Order : Type 0 where
  pub own : ℕ
  pub sender : ℕ
  pub serial : ℕ

-- places are those of the buffer; a refusal goes by its number
pub data Answer : Type 0 where
  Done : Answer
  Sealed : (length : ℕ) → Answer
  Opened : (gauge serial : ℕ) (header message : Place) → Answer
  Ordered : (order : Order) → Answer
  Reported : (count q h m : ℕ) → Answer
  Refused : (number : ℕ) → Answer
