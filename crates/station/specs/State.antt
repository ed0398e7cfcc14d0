-- What a station holds.
use Rattle.std.specs.Prelude.{ℕ, Bool, true, false, List, replicate, Option, Some, None, slice_index_or}
use Rattle.std.specs.Option.{option_map}
use Rattle.cipher.specs.Scheme.{Scheme}
use Rattle.cipher.specs.declared.Cipher as Cipher
use Rattle.multiplier.specs.declared.Multiplier as Multiplier
use Rattle.station.specs.declared.parts.Change.{Change}
use Rattle.mode.specs.declared.hbs.Hbs.{Hbs}
use Rattle.mode.specs.Keys.{keys}
use Rattle.mode.specs.Sealing.{Keys}
use Rattle.station.specs.declared.parts.Gauge.{Gauge}
use Rattle.station.specs.declared.parts.Ledger.{Ledger}
use Rattle.station.specs.declared.parts.Station.{Station}
use Rattle.station.specs.Held.{held}
use Rattle.station.specs.Use.{Use, unused, use_of}

-- a key that waits, and the telegram that brought it
pub record Waiting : Type 0 where
  pub sender : ℕ
  pub serial : ℕ
  pub key : List ℕ

abbrev pub wait : ℕ → ℕ → List ℕ → Waiting
wait sender serial key = record { sender = sender; serial = serial; key = key }

abbrev pub waiting : Change → Waiting
waiting c = record { sender = c.sender; serial = c.serial; key = held c.key }

pub record State : Type 0 where
  pub scheme : Scheme
  -- the key held, and the hash key held with it
  pub key : List ℕ
  pub hash_key : ℕ
  pub started : Bool
  pub own : ℕ
  -- the last own serial given
  pub given : ℕ
  pub gauges : List Gauge
  pub used : Use
  pub pending : Option Waiting

-- a gauge that has not been heard
abbrev pub unheard : Gauge
unheard = record { last = 0 }

abbrev pub none_heard : List Gauge
none_heard = replicate 16 unheard

-- the last serial accepted from a gauge
abbrev pub last_of : ℕ → List Gauge → ℕ
last_of g gauges = (slice_index_or gauges g unheard).last

-- a station that is not started, from a cipher and a multiplier as they are
abbrev pub unstarted : Scheme → List ℕ → ℕ → State
unstarted scheme k l =
    record {
      scheme = scheme;
      key = k;
      hash_key = l;
      started = false;
      own = 0;
      given = 0;
      gauges = none_heard;
      used = unused 4;
      pending = None;
    }

-- .. one that is started, with a ledger
abbrev pub started_with : Keys → Ledger → State
started_with k l =
    record {
      scheme = k.scheme;
      key = k.key;
      hash_key = k.hash_key;
      started = true;
      own = l.own;
      given = l.given;
      gauges = l.gauges;
      used = use_of l.wear;
      pending = option_map waiting l.pending;
    }

-- .. with what a cipher and a multiplier hold
abbrev pub running : {C M : Type 0} → Cipher.Ghosts C → Multiplier.Ghosts M → Hbs C M → Ledger → State
running c m h l = started_with (keys c m h) l

-- what is held with these keys: without a ledger the station is not started
abbrev pub holding : Keys → Option Ledger → State
holding k None = unstarted k.scheme k.key k.hash_key
holding k (Some l) = started_with k l

-- what a station holds, read through the meaning of its cipher and its multiplier
abbrev pub view : {C M : Type 0} → Cipher.Ghosts C → Multiplier.Ghosts M → Station C M → State
view c m s = holding (keys c m s.hbs) s.ledger
