-- What the tables give in each row.
use Rattle.std.proofs.Common.{◌≡◌, ℕ, zero, suc, ◌*◌, ◌%◌, ◌<◌, List, [], ◌∷◌, map, get_or, refl, ap, ◌∙◌, arith}
use Rattle.std.specs.Int.{rotate_right, w32}
use Rattle.std.specs.List.{range_with_len}
use Rattle.fips197.specs.Bytes.{entry, same}
use Rattle.fips197.specs.Field.{xtime, times, mul}
use Rattle.aes_tables.specs.Words.{word, spread, spread_from}

-- what holds of each of four rows
pub by_row : (P : ℕ → Type 0) → P 0 → P 1 → P 2 → P 3 → (r : ℕ) → r < 4 → P r
by_row P a b c d zero h = a
by_row P a b c d (suc zero) h = b
by_row P a b c d (suc (suc zero)) h = c
by_row P a b c d (suc (suc (suc zero))) h = d
by_row P a b c d (suc (suc (suc (suc r)))) h = absurd (omega arith)

-- four turns are none
pub round : (r p q u v a : ℕ) → spread_from (r % 4) p q u v a ≡ spread_from r p q u v a
round zero p q u v a = refl
round (suc zero) p q u v a = refl
round (suc (suc zero)) p q u v a = refl
round (suc (suc (suc zero))) p q u v a = refl
round (suc (suc (suc (suc r)))) p q u v a =
    let e : suc (suc (suc (suc r))) % 4 ≡ r % 4 = omega arith in ap (λ (n : ℕ). spread_from n p q u v a) e ∙ round r p q u v a

abbrev pub table : (ℕ → ℕ) → List ℕ
table f = map f (range_with_len 0 256)

-- the entry of a byte in the table of its row, at any index that is the row's
pub entry_in_row : (f : ℕ → ℕ → ℕ) (none : List ℕ) (a : ℕ) → a < 256 → (r : ℕ) → r < 4 → (x : ℕ) → f r a ≡ x → (i : ℕ) → i ≡ r
    → get_or (get_or (table (f 0) ∷ table (f 1) ∷ table (f 2) ∷ table (f 3) ∷ []) i none) a 0 ≡ x
entry_in_row f none a h r hr x ex i e =
    ap (λ (i : ℕ). get_or (get_or (table (f 0) ∷ table (f 1) ∷ table (f 2) ∷ table (f 3) ∷ []) i none) a 0) e
    ∙ by_row (λ r. get_or (get_or (table (f 0) ∷ table (f 1) ∷ table (f 2) ∷ table (f 3) ∷ []) r none) a 0 ≡ f r a)
    (entry (f 0) a h) (entry (f 1) a h) (entry (f 2) a h) (entry (f 3) a h) r hr
    ∙ ex

-- a word of the inverse table, turned to its row; tested at each byte
pub turned : (a : ℕ) → a < 256 → (r : ℕ) → r < 4 → rotate_right w32 (spread 14 9 13 11 a) (8 * r) ≡ spread_from r 14 9 13 11 a
unfolding xtime times mul word spread
turned a h =
    by_row (λ r. rotate_right w32 (spread 14 9 13 11 a) (8 * r) ≡ spread_from r 14 9 13 11 a)
    (same (λ a. rotate_right w32 (spread 14 9 13 11 a) 0) (spread 14 9 13 11) tt a h)
    (same (λ a. rotate_right w32 (spread 14 9 13 11 a) 8) (spread 11 14 9 13) tt a h)
    (same (λ a. rotate_right w32 (spread 14 9 13 11 a) 16) (spread 13 11 14 9) tt a h)
    (same (λ a. rotate_right w32 (spread 14 9 13 11 a) 24) (spread 9 13 11 14) tt a h)
