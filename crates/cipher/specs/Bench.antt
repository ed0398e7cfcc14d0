-- The bench cipher: both maps XOR the key, which is a block. It hides nothing, and is for worked cases.
use Rattle.std.specs.Prelude.{List, ℕ}
use Rattle.std.specs.Int.Bits.{bit_xor}
use Rattle.block.specs.Bytes.{spelled}
use Rattle.cipher.specs.Scheme.{Scheme}

abbrev pub xored : List ℕ → ℕ → ℕ
xored k x = bit_xor x (spelled k)

abbrev pub bench : Scheme
bench = record { key_len = 16; enc = xored; dec = xored }
