use Rattle.std.proofs.Common.{div-one}
use Rattle.aes.specs.Columns.{byte_at, unpack}
use Rattle.aes.proofs.columns.ArrayU816FromColumns.from.Goals as goal

pub returns : goal.returns
unfolding unpack byte_at
returns c = simp (c.to_be_bytes.ensures, c.to_be_bytes-2.ensures, c.to_be_bytes-3.ensures, c.to_be_bytes-4.ensures, div-one)
