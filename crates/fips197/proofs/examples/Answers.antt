-- The worked examples, computed.
use Rattle.std.proofs.Common.{refl}
use Rattle.block.specs.Bytes.{bytes}
use Rattle.fips197.specs.Field.{xtime, times, mul, squares, inverse}
use Rattle.fips197.specs.Sbox.{rotate, affine, unaffine, sub_byte, inv_sub_byte}
use Rattle.fips197.specs.State.{sub_bytes, inv_sub_bytes, shift_rows, inv_shift_rows, mix, mix_columns, inv_mix_columns, add_round_key}
use Rattle.fips197.specs.KeyExpansion.{turned, next_byte, next_key_of, expand, round_keys_of}
use Rattle.fips197.specs.Cipher.{rounds, inv_rounds, cipher, inv_cipher, encrypt, decrypt}
use Rattle.fips197.proofs.examples.Goals as goal

pub returns : goal.returns
unfolding bytes xtime times mul squares inverse rotate affine unaffine sub_byte inv_sub_byte sub_bytes inv_sub_bytes shift_rows inv_shift_rows mix mix_columns inv_mix_columns add_round_key turned next_byte next_key_of expand round_keys_of rounds inv_rounds cipher inv_cipher encrypt decrypt
returns c = record { b = record { there = refl; back = refl }; c1 = record { there = refl; back = refl } }
