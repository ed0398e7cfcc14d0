use Rattle.std.proofs.Common.{div-one}
use Rattle.aes.specs.Columns.{byte_at}
use Rattle.aes_tables.specs.Words.{word}
use Rattle.aes.proofs.expand.turned.Goals as goal

pub returns : goal.returns
unfolding byte_at word
returns c = simp (c.from_be_bytes.ensures, c.of.ensures, c.of-2.ensures, c.of-3.ensures, c.of-4.ensures, c.to_be_bytes.ensures, div-one)
