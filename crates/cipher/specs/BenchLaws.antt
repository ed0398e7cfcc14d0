-- The laws of the bench cipher.
use Rattle.std.specs.Prelude.{List, ℕ, ◌^◌, ◌<◌}
use Rattle.std.proofs.lemmas.Nat.{xor_lt}
use Rattle.std.proofs.Common.{lit≤}
use Rattle.block.specs.Bytes.{spelled}
use Rattle.block.proofs.Laws.{xor_twice}
use Rattle.block.proofs.Spelling.{spelled_block}
use Rattle.cipher.specs.Bench.{xored, bench}
use Rattle.cipher.specs.Scheme.{IsKey, Lawful}

xored_block : (k : List ℕ) (x : ℕ) → IsKey bench k → x < 2 ^ 128 → xored k x < 2 ^ 128
xored_block k x key h = xor_lt 128 x (spelled k) h (spelled_block k key.long key.all)

pub bench_lawful : Lawful bench
bench_lawful =
    record {
      some = lit≤ tt;
      few = lit≤ tt;
      enc_block = xored_block;
      dec_block = xored_block;
      dec_enc = λ k x _ _. xor_twice x (spelled k);
      enc_dec = λ k y _ _. xor_twice y (spelled k);
    }
