use Rattle.std.proofs.Common.{◌≡◌, ◌≤◌, length, map}
use Rattle.station.specs.Held.{held}
use Rattle.station.specs.Reports.{entry, heard_of}
use Rattle.station.proofs.parts.Ledger.entries.Given as goal

abbrev pub invariant-loop-number : goal.invariant-loop-number
invariant-loop-number l =
    (length (held l.entries) ≤ l.number) × (held l.entries ≡ map (entry l.self.gauges) (heard_of l.self.gauges l.number))
