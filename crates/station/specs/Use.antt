-- The use of a key, which wears it: q counted calls, the largest count of header blocks among them, h, and of message
-- blocks, m, neither below 1; and the wear that is allowed.
use Rattle.std.specs.Prelude.{ℕ, ◌+◌, ◌*◌, ◌/◌, max, Bool, nat_lt}
use Rattle.station.specs.declared.wear.Wear.{Wear}

pub record Use : Type 0 where
  pub q : ℕ
  pub h : ℕ
  pub m : ℕ
  pub allowance : ℕ

abbrev pub use_of : Wear → Use
use_of w = record { q = w.calls; h = w.header_blocks; m = w.message_blocks; allowance = w.allowance }

-- no call counted
abbrev pub unused : ℕ → Use
unused allowance = record { q = 0; h = 1; m = 1; allowance = allowance }

abbrev pub wear : ℕ → ℕ → ℕ → ℕ
wear q h m = q * (1 + h + 2 * m)

-- the blocks of a string of n bytes: a part block counts as one, and none as one too
abbrev pub blocks : ℕ → ℕ
blocks n = max 1 ((n + 15) / 16)

-- one more call is counted, with a header and a message of these lengths
abbrev pub counted : ℕ → ℕ → Use → Use
counted header message u = record { q = u.q + 1; h = max u.h (blocks header); m = max u.m (blocks message); allowance = u.allowance }

-- that call would take the wear past the allowance
abbrev pub passes : ℕ → ℕ → Use → Bool
passes header message u = nat_lt u.allowance (wear (u.q + 1) (max u.h (blocks header)) (max u.m (blocks message)))
