use Rattle.std.proofs.Common.{string_bytes, rules}
use Rattle.lines.proofs.Encoding.{bytes_below, made_reads_back}
use Rattle.lines.proofs.hex.encode.Goals as goal

pub returns-else-is_empty-clause-undone : goal.returns-else-is_empty-clause-undone
returns-else-is_empty-clause-undone c =
    let bytes = c.args.bytes.now in
    made_reads_back string_bytes c.digits_of.result bytes (bytes_below bytes c.type_inv.bytes) (search rules)
