use Rattle.multiplier.proofs.Entries.{all_zero}
use Rattle.multiplier.proofs.table.TableMultiplier.new.Goals as goal

pub invariant_of-result : goal.invariant_of-result
invariant_of-result c = record { filled = all_zero }
