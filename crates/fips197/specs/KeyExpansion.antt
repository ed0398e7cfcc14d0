-- The key expansion: a round key is four words, and a word is a column of four bytes.
use Rattle.std.specs.Prelude.{ℕ, zero, suc, ◌+◌, ◌%◌, List, [], ◌∷◌, bit_xor, slice_index}
use Rattle.fips197.specs.Field.{xtime}
use Rattle.fips197.specs.Sbox.{sub_byte}
use Rattle.fips197.specs.State.{cell, state}

-- row r of SubWord (RotWord (the last word)), and the round's constant in its first row
unfoldable pub turned : ℕ → List ℕ → ℕ → ℕ
turned rcon w r = bit_xor (sub_byte (cell w ((r + 1) % 4) 3)) (slice_index (rcon ∷ 0 ∷ 0 ∷ 0 ∷ []) r)

-- row r of word c of the next round key: the sum of the word four places before it and of the word just before it, turned where c is 0
unfoldable pub next_byte : ℕ → List ℕ → ℕ → ℕ → ℕ
next_byte rcon w r zero = bit_xor (cell w r 0) (turned rcon w r)
next_byte rcon w r (suc c) = bit_xor (cell w r (suc c)) (next_byte rcon w r c)

unfoldable pub next_key_of : ℕ → List ℕ → List ℕ
next_key_of rcon w = state (next_byte rcon w)

-- w and the n round keys after it; the round's constant is x^(i - 1) in round i
unfoldable pub expand : ℕ → ℕ → List ℕ → List (List ℕ)
expand zero rcon w = w ∷ []
expand (suc n) rcon w = w ∷ expand n (xtime rcon) (next_key_of rcon w)

-- the eleven round keys of a key of 16 bytes
unfoldable pub round_keys_of : List ℕ → List (List ℕ)
round_keys_of key = expand 10 1 key
