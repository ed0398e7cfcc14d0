-- A column as a word, its first row in the highest byte.
use Rattle.std.specs.Prelude.{◌≡◌, ℕ, zero, suc, ◌+◌, ◌*◌, refl}
use Rattle.fips197.specs.Field.{mul}

unfoldable pub word : ℕ → ℕ → ℕ → ℕ → ℕ
word a b c d = a * 16777216 + b * 65536 + c * 256 + d

-- a byte times each of four numbers
unfoldable pub spread : ℕ → ℕ → ℕ → ℕ → ℕ → ℕ
spread p q u v a = word (mul p a) (mul q a) (mul u a) (mul v a)

-- .. which go down the column from the byte's row on, and round
abbrev pub spread_from : ℕ → ℕ → ℕ → ℕ → ℕ → ℕ → ℕ
spread_from zero p q u v a = spread p q u v a
spread_from (suc row) p q u v a = spread_from row v p q u a

-- in each row, written out
pub spread_from-rows : (p q u v a : ℕ)
    → (spread_from 0 p q u v a ≡ spread p q u v a) × (spread_from 1 p q u v a ≡ spread v p q u a)
    × (spread_from 2 p q u v a ≡ spread u v p q a) × (spread_from 3 p q u v a ≡ spread q u v p a)
spread_from-rows p q u v a = (refl, refl, refl, refl)
