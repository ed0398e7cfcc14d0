-- What the tests before the last come to, from what each of them found of the telegram that was told.
use Rattle.std.proofs.Common.{◌≡◌, ℕ, Bool, true, false, ◌&&◌, leb, List, is_some, Some, None, sym, ap, ◌∙◌, ap₂}
use Rattle.telegram.specs.declared.kind.Kind.{Kind}
use Rattle.station.specs.declared.incoming.Incoming.{Incoming}
use Rattle.station.specs.Incoming.{Told}
use Rattle.station.specs.State.{State, last_of}
use Rattle.station.specs.Tests.{admission, heading, is_key, past, stale, unknown, unwanted, worn}
use Rattle.station.specs.Use.{passes}

module _ (s : State) (wanted : Kind) (b : List ℕ) (i : Incoming) (told : Told b i) (started : s.started ≡ true) where
  unknown_row : (row : Bool) → unknown s.own i.gauge ≡ row → unknown s.own (heading s b).gauge ≡ row
  unknown_row row is = ap (unknown s.own) (sym told.gauge) ∙ is

  stale_row : (row : Bool) → row ≡ leb i.serial (last_of i.gauge s.gauges) → stale s b ≡ row
  stale_row row is = sym (is ∙ ap₂ (λ n g. leb n (last_of g s.gauges)) told.serial told.gauge)

  worn_row : (row : Bool) → passes i.sizes.header i.sizes.message s.used ≡ row → worn s b ≡ row
  worn_row row is = ap₂ (λ h m. passes h m s.used) (sym told.header_len) (sym told.message_len) ∙ is

  pub stops_8 : true ≡ unwanted s.scheme.key_len wanted b → past (admission s wanted b) Some None ≡ Some 8
  stops_8 other = simp (started, told.version, told.lengths, ← other)

  module _ (of_kind : false ≡ unwanted s.scheme.key_len wanted b) where
    pub stops_9 : unknown s.own i.gauge ≡ true → past (admission s wanted b) Some None ≡ Some 9
    stops_9 strange = simp (started, told.version, told.lengths, ← of_kind, unknown_row true strange)

    module _ (known : unknown s.own i.gauge ≡ false) where
      pub stops_10 : true ≡ (is_key wanted && is_some s.pending) → past (admission s wanted b) Some None ≡ Some 10
      stops_10 waiting = simp (started, told.version, told.lengths, ← of_kind, unknown_row false known, ← waiting)

      module _ (free : false ≡ (is_key wanted && is_some s.pending)) where
        pub stops_12 : true ≡ leb i.serial (last_of i.gauge s.gauges) → past (admission s wanted b) Some None ≡ Some 12
        stops_12 old = simp (started, told.version, told.lengths, ← of_kind, unknown_row false known, ← free, stale_row true old)

        module _ (fresh : false ≡ leb i.serial (last_of i.gauge s.gauges)) where
          pub stops_13 : passes i.sizes.header i.sizes.message s.used ≡ true → past (admission s wanted b) Some None ≡ Some 13
          stops_13 spent = simp (started, told.version, told.lengths, ← of_kind, unknown_row false known, ← free, stale_row false fresh, worn_row true spent)

          pub passes_all : passes i.sizes.header i.sizes.message s.used ≡ false → past (admission s wanted b) Some None ≡ None
          passes_all within = simp (started, told.version, told.lengths, ← of_kind, unknown_row false known, ← free, stale_row false fresh, worn_row false within)
