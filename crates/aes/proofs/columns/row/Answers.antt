use Rattle.std.proofs.Common.{ℕ, ◌%◌, List, get_or, ap, ◌∙◌, arith}
use Rattle.aes.proofs.Rows.{byte_of}
use Rattle.aes.proofs.columns.row.Goals as goal

pub returns : goal.returns
returns g c = ap (λ (b : List ℕ). get_or b (g.row.ROW % 4) 0) c.to_be_bytes.ensures ∙ byte_of c.args.x (g.row.ROW % 4) (omega arith)
