use Rattle.fips197.specs.State.{shift_rows, sub_bytes}
use Rattle.aes.specs.Columns.{unpack}
use Rattle.aes.proofs.Unpacked.{words_are, forth_state}
use Rattle.aes.proofs.encrypt.last_round.Goals as goal

pub returns : goal.returns
unfolding unpack sub_bytes shift_rows
returns c = words_are c.shift_rows.result.0 (shift_rows (sub_bytes (unpack c.args.s.0))) (forth_state c.args.s.0) c.shift_rows.ensures
