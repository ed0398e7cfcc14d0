-- The table is what the rule gives at 0, 1, .., 255: both are computed and compared.
use Rattle.std.proofs.Common.{ℕ, ◌%◌, ◌∙◌, ap₂, arith}
use Rattle.std.specs.Int.{rotate_right, w32}
use Rattle.fips197.specs.Bytes.{entry}
use Rattle.fips197.specs.Field.{xtime, times, mul}
use Rattle.aes_tables.specs.Words.{word, spread}
use Rattle.aes_tables.proofs.Tables.{turned, round}
use Rattle.aes_tables.proofs.inv_mix.Goals as goal

pub returns : goal.returns
unfolding xtime times mul word spread
returns g c =
    let a = c.args.a in
    let r : ℕ = g.row.ROW % 4 in
    c.rotate_right.ensures ∙ ap₂ (rotate_right w32) (entry (spread 14 9 13 11) a (omega arith)) (omega arith) ∙ turned a (omega arith) r (omega arith)
    ∙ round g.row.ROW 14 9 13 11 a
