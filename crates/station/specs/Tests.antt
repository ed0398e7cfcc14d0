-- The tests that each call runs, by their numbers and in their order; a test refuses where its row holds.
use Rattle.std.specs.Prelude.{ℕ, ◌+◌, ◌-◌, ◌^◌, Bool, true, false, if◌then◌else◌, not, ◌&&◌, ◌||◌, List, [], ◌∷◌, ◌++◌, length, is_some, Some, None, Option, ◌==◌, nat_le, nat_lt}
use Rattle.block.specs.Bytes.{spelled}
use Rattle.mode.specs.Sealing.{opened_by, pair}
use Rattle.telegram.specs.Format.{lengths_fit, other_version, parts}
use Rattle.telegram.specs.Header.{Heading, headed}
use Rattle.telegram.specs.declared.kind.Kind.{Kind}
use Rattle.telegram.specs.declared.kind.Kind.TheVariants.{Measurement, Key, Other}
use Rattle.station.specs.Calls.{Order}
use Rattle.station.specs.State.{State, Waiting, last_of}
use Rattle.station.specs.Use.{passes}

-- a test's number, and whether its row holds
abbrev pub Test : Type 0
Test = ℕ × Bool

-- what comes of tests: what the first that refuses gives, or else what is accepted
abbrev pub past : {X : Type 0} → List Test → (ℕ → X) → X → X
past [] refused accepted = accepted
past (t ∷ ts) refused accepted = if t.1 then refused t.0 else past ts refused accepted

-- a gauge that is none of the sixteen, or the own one
abbrev pub unknown : ℕ → ℕ → Bool
unknown own gauge = nat_lt 15 gauge || gauge == own

-- a telegram of another kind than is wanted, or a key that is not as long as a key is
abbrev pub unwanted : ℕ → Kind → List ℕ → Bool
unwanted key_len Measurement b = not ((headed (parts b).header).kind == 0)
unwanted key_len Key b = not ((headed (parts b).header).kind == 1) || not (length (parts b).ciphertext == key_len)
unwanted key_len (Other other) b = not ((headed (parts b).header).kind == other.byte)

-- a key is wanted
abbrev pub is_key : Kind → Bool
is_key Measurement = false
is_key Key = true
is_key (Other other) = false

-- an order for the change that waits, of a station with this own gauge
abbrev pub matches : ℕ → Order → Option Waiting → Bool
matches own o None = false
matches own o (Some w) = o.own == own && (o.sender == w.sender && o.serial == w.serial)

module _ (s : State) where
  -- ---- start

  abbrev pub start_tests : ℕ → ℕ → List ℕ → List Test
  start_tests own allowance key =
      (2, s.started)
      ∷ (3, nat_lt 15 own || (nat_lt allowance 4 || (nat_lt (2 ^ 48) allowance || not (length key == s.scheme.key_len))))
      ∷ []

  -- ---- sealing, of a note and a message whose sizes are taken or not

  abbrev pub seal_tests : Bool → List ℕ → List ℕ → List ℕ → List Test
  seal_tests out_of_size note message out =
      (1, not s.started) ∷ (4, out_of_size) ∷ (5, nat_lt (length out) (27 + length note + length message))
      ∷ (11, (s.given == 2 ^ 32 - 1)) ∷ (13, passes (6 + length note) (length message) s.used)
      ∷ []

  -- ---- opening, of a buffer

  abbrev pub heading : List ℕ → Heading
  heading b = headed (parts b).header

  -- what the telegram opens to under the key held
  abbrev pub message : List ℕ → Option (List ℕ)
  message b =
      opened_by s.hash_key (s.scheme.enc s.key) (s.scheme.dec s.key) (Some (parts b).header) (pair (spelled (parts b).tag) (parts b).ciphertext)

  abbrev pub stale : List ℕ → Bool
  stale b = nat_le (heading b).serial (last_of (heading b).gauge s.gauges)

  abbrev pub worn : List ℕ → Bool
  worn b = passes (length (parts b).header) (length (parts b).ciphertext) s.used

  -- the tests before the last, where a kind is wanted
  abbrev pub admission : Kind → List ℕ → List Test
  admission wanted b =
      (1, not s.started) ∷ (6, other_version b) ∷ (7, not (lengths_fit b)) ∷ (8, unwanted s.scheme.key_len wanted b)
      ∷ (9, unknown s.own (heading b).gauge) ∷ (10, is_key wanted && is_some s.pending) ∷ (12, stale b) ∷ (13, worn b)
      ∷ []

  -- .. and all of them
  abbrev pub opening_tests : Kind → List ℕ → List Test
  opening_tests wanted b = admission wanted b ++ (14, not (is_some (message b))) ∷ []

  abbrev pub open_tests : List ℕ → List Test
  open_tests b =
      (1, not s.started) ∷ (6, other_version b) ∷ (7, not (lengths_fit b)) ∷ (8, unwanted s.scheme.key_len Measurement b)
      ∷ (9, unknown s.own (heading b).gauge) ∷ (12, stale b) ∷ (13, worn b) ∷ (14, not (is_some (message b)))
      ∷ []

  abbrev pub open_key_tests : List ℕ → List Test
  open_key_tests b =
      (1, not s.started) ∷ (6, other_version b) ∷ (7, not (lengths_fit b)) ∷ (8, unwanted s.scheme.key_len Key b)
      ∷ (9, unknown s.own (heading b).gauge) ∷ (10, is_some s.pending) ∷ (12, stale b) ∷ (13, worn b)
      ∷ (14, not (is_some (message b)))
      ∷ []

  -- ---- an order

  abbrev pub order_tests : Order → List Test
  order_tests o = (1, not s.started) ∷ (15, not (matches s.own o s.pending)) ∷ []
