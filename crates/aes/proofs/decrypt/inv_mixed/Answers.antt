use Rattle.std.proofs.Common.{div-one}
use Rattle.aes.specs.Columns.{byte_at}
use Rattle.aes.proofs.decrypt.inv_mixed.Goals as goal

pub returns : goal.returns
unfolding byte_at
returns c = simp (c.inv_mix.ensures, c.inv_mix-2.ensures, c.inv_mix-3.ensures, c.inv_mix-4.ensures, c.to_be_bytes.ensures, div-one)
