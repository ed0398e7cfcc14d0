-- The counter stream that starts from a block s, under the map e.
use Rattle.std.specs.Prelude.{ℕ, zero, suc, ◌+◌, ◌/◌, List, [], ◌∷◌, ◌++◌, length, bit_xor}
use Rattle.block.specs.Bytes.{bytes}

-- the XOR of two strings, as long as the shorter
unfoldable pub xors : List ℕ → List ℕ → List ℕ
xors [] ks = []
xors (x ∷ xs) [] = []
xors (x ∷ xs) (k ∷ ks) = bit_xor x k ∷ xors xs ks

-- n blocks of key stream after the first i: each is e of s XORed with a counter that begins at 1
unfoldable pub stream : (ℕ → ℕ) → ℕ → ℕ → ℕ → List ℕ
stream e s i zero = []
stream e s i (suc n) = bytes 16 (e (bit_xor s (i + 1))) ++ stream e s (i + 1) n

-- how many blocks a string takes up, a part block as one
unfoldable pub count : List ℕ → ℕ
count x = (length x + 15) / 16

-- a string under the key stream
unfoldable pub streamed : (ℕ → ℕ) → ℕ → List ℕ → List ℕ
streamed e s x = xors x (stream e s 0 (count x))
