-- The tables are what the rule gives at 0, 1, .., 255: both are computed and compared.
use Rattle.std.proofs.Common.{◌%◌, [], arith}
use Rattle.fips197.specs.Field.{xtime, times, mul, squares, inverse}
use Rattle.fips197.specs.Sbox.{rotate, affine, sub_byte}
use Rattle.aes_tables.specs.Words.{word, spread, spread_from}
use Rattle.aes_tables.proofs.Tables.{entry_in_row, round}
use Rattle.aes_tables.proofs.sub_mix.Goals as goal

pub returns : goal.returns
unfolding xtime times mul squares inverse rotate affine sub_byte word spread
returns g c =
    let a = c.args.a in
    search (arith, entry_in_row (λ r a. spread_from r 2 1 1 3 (sub_byte a)) [] a (omega arith) (g.row.ROW % 4) (omega arith) _ (round g.row.ROW 2 1 1 3 (sub_byte a)))
