-- Bytes and the numbers that they spell, most significant first.
use Rattle.std.specs.Prelude.{ℕ, zero, suc, ◌+◌, ◌*◌, ◌/◌, ◌%◌, ◌^◌, ◌<◌, List, [], ◌∷◌, length, slice_index}

-- every element is a byte
abbrev pub AllBytes : List ℕ → Type 0
AllBytes bs = (k : ℕ) → k < length bs → slice_index bs k < 256

-- the number that the bytes spell after x
unfoldable pub after : ℕ → List ℕ → ℕ
after x [] = x
after x (b ∷ bs) = after (x * 256 + b) bs

unfoldable pub spelled : List ℕ → ℕ
spelled bs = after 0 bs

-- the n lowest bytes of x
unfoldable pub bytes : ℕ → ℕ → List ℕ
bytes zero x = []
bytes (suc n) x = x / 256 ^ n % 256 ∷ bytes n x

-- the word of four bytes from place i on
abbrev pub word_at : List ℕ → ℕ → ℕ
word_at k i = slice_index k i * 2 ^ 24 + slice_index k (i + 1) * 2 ^ 16 + slice_index k (i + 2) * 2 ^ 8 + slice_index k (i + 3)

-- the four words of sixteen bytes
abbrev pub words_of : List ℕ → List ℕ
words_of k = word_at k 0 ∷ word_at k 4 ∷ word_at k 8 ∷ word_at k 12 ∷ []
