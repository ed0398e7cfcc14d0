-- What each call answers, what it leaves in its buffer, and what the station holds then.
use Rattle.std.specs.Prelude.{◌≡◌, ℕ, ◌+◌, Bool, true, if◌then◌else◌, not, ◌||◌, List, [], ◌++◌, length, take, drop, Some, None, Ok, Err, Option, Result, ◌==◌, nat_lt, slice_set}
use Rattle.std.specs.Option.{unwrap_or}
use Rattle.block.specs.Bytes.{bytes}
use Rattle.mode.specs.Sealing.{Keys, sealed_with}
use Rattle.seal.specs.Wrapping.{cleared}
use Rattle.telegram.specs.Format.{parts, written}
use Rattle.telegram.specs.Places.{layout}
use Rattle.telegram.specs.Header.{Heading, header_bytes}
use Rattle.telegram.specs.Kind.{kind_byte}
use Rattle.station.specs.declared.fault.StationFault.{StationFault}
use Rattle.station.specs.declared.outgoing.Outgoing.{Outgoing}
use Rattle.station.specs.Answers.{refusal}
use Rattle.station.specs.Calls.{Answer, Done, Opened, Order, Ordered, Sealed as SealedAt, Refused}
use Rattle.station.specs.State.{State, Waiting, none_heard}
use Rattle.station.specs.Tests.{heading, message, open_key_tests, open_tests, order_tests, past, seal_tests, start_tests}
use Rattle.station.specs.Use.{counted, unused}

-- a call's result as an answer, by what an accepted one yields
abbrev pub answered : {X : Type 0} → (X → Answer) → Result X StationFault → Answer
answered f (Ok x) = f x
answered f (Err fault) = Refused (refusal fault)

-- ---- start

-- the key k comes into force: nothing is counted, no gauge has been heard, and own serials begin at 1
abbrev pub in_force : State → ℕ → ℕ → List ℕ → State
in_force s own allowance k =
    record {
      scheme = s.scheme;
      key = k;
      hash_key = s.scheme.enc k 0;
      started = true;
      own = own;
      given = 0;
      gauges = none_heard;
      used = unused allowance;
      pending = None;
    }

pub record Starting (s : State) (own allowance : ℕ) (k : List ℕ) (a : Answer) (t : State) : Type 0 where
  pub answers : a ≡ past (start_tests s own allowance k) Refused Done
  pub moves : t ≡ past (start_tests s own allowance k) (λ _. s) (in_force s own allowance k)

-- ---- sealing

-- the header of the next telegram
abbrev pub next_header : State → ℕ → List ℕ → Heading
next_header s kind note = record { gauge = s.own; serial = s.given + 1; kind = kind; note = note }

-- the header of a message to be sealed, with a serial of a gauge
abbrev pub heading_of : ℕ → ℕ → Outgoing → Heading
heading_of gauge serial o = record { gauge = gauge; serial = serial; kind = kind_byte o.kind; note = o.note.now }

-- the telegram that a message is sealed to under keys and a header
abbrev pub telegram_under : Keys → Heading → List ℕ → List ℕ
telegram_under k h message =
    let sealed = sealed_with k (Some (header_bytes h)) message in
    written (record { header = header_bytes h; tag = bytes 16 sealed.tag; ciphertext = sealed.text })

abbrev pub telegram_of : State → Heading → List ℕ → List ℕ
telegram_of s = telegram_under (record { scheme = s.scheme; key = s.key; hash_key = s.hash_key })

-- a note or a message that is too long
abbrev pub out_of_size : List ℕ → List ℕ → Bool
out_of_size note message = nat_lt 1018 (length note) || nat_lt 4096 (length message)

-- a key that is not as long as a key is
abbrev pub not_a_key : State → List ℕ → Bool
not_a_key s key = not (length key == s.scheme.key_len)

-- one more serial is given, and one more call counted
abbrev pub given : State → ℕ → ℕ → State
given s header message = record s { given = s.given + 1; used = counted header message s.used }

pub record Sealing (s : State) (kind : ℕ) (out_of_size : Bool) (note message out : List ℕ) (a : Answer) (b : List ℕ) (t : State) : Type 0 where
  pub answers : a ≡ past (seal_tests s out_of_size note message out) Refused (SealedAt (27 + length note + length message))
  pub leaves : b ≡ past (seal_tests s out_of_size note message out) (λ _. out) (telegram_of s (next_header s kind note) message ++ drop (27 + length note + length message) out)
  pub moves : t ≡ past (seal_tests s out_of_size note message out) (λ _. s) (given s (6 + length note) (length message))

-- ---- opening

-- the bytes of a buffer once the ciphertext in it is the message m; all else stays
abbrev pub with_message : List ℕ → List ℕ → List ℕ
with_message m b =
    let p = (layout (length (parts b).header) (length (parts b).ciphertext)).ciphertext in
    take p.start b ++ (m ++ drop p.end b)

-- one more opening is counted
abbrev pub opening : State → List ℕ → State
opening s b = record s { used = counted (length (parts b).header) (length (parts b).ciphertext) s.used }

-- .. and was accepted: its serial is the gauge's last, and p is the change that is pending
abbrev pub accepting : Option Waiting → State → List ℕ → State
accepting p s b =
    record s {
      gauges = slice_set s.gauges (heading s b).gauge (record { last = (heading s b).serial });
      used = counted (length (parts b).header) (length (parts b).ciphertext) s.used;
      pending = p;
    }

-- no refusal alters the station, except that 14 is counted
abbrev pub refusing : State → List ℕ → ℕ → State
refusing s b n = if n == 14 then opening s b else s

-- what an accepted opening of a measurement answers
abbrev pub opened_at : State → List ℕ → Answer
opened_at s b =
    let p = layout (length (parts b).header) (length (parts b).ciphertext) in
    Opened (heading s b).gauge (heading s b).serial p.header p.ciphertext

pub record Opening (s : State) (b : List ℕ) (a : Answer) (b' : List ℕ) (t : State) : Type 0 where
  pub answers : a ≡ past (open_tests s b) Refused (opened_at s b)
  pub leaves : b' ≡ past (open_tests s b) (λ _. cleared b) (with_message (unwrap_or (message s b) []) b)
  pub moves : t ≡ past (open_tests s b) (refusing s b) (accepting s.pending s b)

-- ---- opening a key, which leaves nothing in the buffer

-- the order for the change that a key telegram brings
abbrev pub order_of : State → List ℕ → Order
order_of s b = record { own = s.own; sender = (heading s b).gauge; serial = (heading s b).serial }

-- .. and what waits then
abbrev pub waiting_of : State → List ℕ → Waiting
waiting_of s b = record { sender = (heading s b).gauge; serial = (heading s b).serial; key = unwrap_or (message s b) [] }

pub record KeyOpening (s : State) (b : List ℕ) (a : Answer) (b' : List ℕ) (t : State) : Type 0 where
  pub answers : a ≡ past (open_key_tests s b) Refused (Ordered (order_of s b))
  pub leaves : b' ≡ cleared b
  pub moves : t ≡ past (open_key_tests s b) (refusing s b) (accepting (Some (waiting_of s b)) s b)

-- ---- declining

abbrev pub dropped : State → State
dropped s = record s { pending = None }

pub record Declining (s : State) (o : Order) (a : Answer) (t : State) : Type 0 where
  pub answers : a ≡ past (order_tests s o) Refused Done
  pub moves : t ≡ past (order_tests s o) (λ _. s) (dropped s)
