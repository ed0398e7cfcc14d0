use Rattle.std.proofs.Common.{[], ◌∷◌}
use Rattle.fips197.specs.State.{inv_mix_columns}
use Rattle.aes.specs.Columns.{unpack}
use Rattle.aes.proofs.Unpacked.{mixes_are, unpack_state}
use Rattle.aes.proofs.decrypt.inv_mix_columns.Goals as goal

pub returns : goal.returns
unfolding unpack inv_mix_columns
returns c =
    let s = c.args.s.0 in
    mixes_are 14 11 13 9 (c.inv_mixed.result ∷ c.inv_mixed-2.result ∷ c.inv_mixed-3.result ∷ c.inv_mixed-4.result ∷ []) (unpack s) (unpack_state s)
    (c.inv_mixed.ensures, c.inv_mixed-2.ensures, c.inv_mixed-3.ensures, c.inv_mixed-4.ensures)
