-- What the code does to four columns is what the steps do to the state that they hold.
use Rattle.std.proofs.Common.{◌≡◌, ℕ, ◌<◌, List, [], ◌∷◌, get_or, sym, ap, ◌∙◌, ap₂, zero-add, lit<}
use lib.Bits.{bit_xor}
use Rattle.std.proofs.lemmas.List.FromFn.{get_or-map-range_with_len}
use Rattle.fips197.specs.Sbox.{sub_byte, inv_sub_byte}
use Rattle.fips197.specs.State.{IsState, cell, mix, mix_columns, add_round_key, shift_rows, inv_shift_rows, sub_bytes, inv_sub_bytes}
use Rattle.fips197.proofs.Steps.{cell_state, is_state, same_state, made, cell_small, sub_state, inv_sub_state, shift_state, inv_shift_state}
use Rattle.aes_tables.specs.Words.{word}
use Rattle.aes_tables.proofs.Tables.{by_row}
use Rattle.aes.specs.Columns.{byte_at, unpack, mix_word, Shifted}
use Rattle.aes.proofs.Rows.{byte_small, byte_word, byte_xor, byte_mix}

-- four columns by their index
abbrev pub fours : (ℕ → ℕ) → List ℕ
fours f = f 0 ∷ f 1 ∷ f 2 ∷ f 3 ∷ []

pub get_or-fours : (f : ℕ → ℕ) (c : ℕ) → c < 4 → get_or (fours f) c 0 ≡ f c
get_or-fours f c h = get_or-map-range_with_len f 0 4 c c 0 h (zero-add c)

pub unpack_state : (xs : List ℕ) → IsState (unpack xs)
unfolding unpack
unpack_state xs = made (λ r c. byte_at r (get_or xs c 0)) (λ r c hr hc. byte_small r (get_or xs c 0))

pub cell-unpack : (xs : List ℕ) (r c : ℕ) → r < 4 → c < 4 → cell (unpack xs) r c ≡ byte_at r (get_or xs c 0)
unfolding unpack
cell-unpack xs r c hr hc = cell_state (λ r c. byte_at r (get_or xs c 0)) r c hr hc

-- what holds of each of four columns
abbrev pub Each : (ℕ → Type 0) → Type 0
Each P = P 0 × P 1 × P 2 × P 3

-- four columns, each from the rows of a state
pub words_are : (xs s : List ℕ) → IsState s → Each (λ c. get_or xs c 0 ≡ word (cell s 0 c) (cell s 1 c) (cell s 2 c) (cell s 3 c)) → unpack xs ≡ s
unfolding unpack
words_are xs s b e =
    is_state (λ r c. byte_at r (get_or xs c 0)) s b.long
    (λ r c hr hc.
    ap (byte_at r) (by_row (λ c. get_or xs c 0 ≡ word (cell s 0 c) (cell s 1 c) (cell s 2 c) (cell s 3 c)) e.0 e.1 e.2 e.3 c hc)
    ∙ byte_word (cell s 0 c) (cell s 1 c) (cell s 2 c) (cell s 3 c) (small 0 c (lit< tt) hc) (small 1 c (lit< tt) hc) (small 2 c (lit< tt) hc) (small 3 c (lit< tt) hc) r hr
    ∙ get_or-fours (λ r. cell s r c) r hr)
  where
    small : (r c : ℕ) → r < 4 → c < 4 → cell s r c < 256
    small = cell_small s b

-- .. and mixed
pub mixes_are : (p q u v : ℕ) (xs s : List ℕ) → IsState s → Each (λ c. get_or xs c 0 ≡ mix_word p q u v (cell s 0 c) (cell s 1 c) (cell s 2 c) (cell s 3 c))
    → unpack xs ≡ mix p q u v s
unfolding unpack mix
mixes_are p q u v xs s b e =
    same_state (λ r c. byte_at r (get_or xs c 0)) _
    (λ r c hr hc.
    ap (byte_at r) (by_row (λ c. get_or xs c 0 ≡ mix_word p q u v (cell s 0 c) (cell s 1 c) (cell s 2 c) (cell s 3 c)) e.0 e.1 e.2 e.3 c hc)
    ∙ byte_mix p q u v (λ r. cell s r c) (λ r h. cell_small s b r c h hc) r hr)

-- columns with a round key added
pub added : (w xs : List ℕ) → unpack (fours (λ c. bit_xor (get_or xs c 0) (get_or w c 0))) ≡ add_round_key (unpack w) (unpack xs)
unfolding unpack add_round_key
added w xs =
    same_state (λ r c. byte_at r (get_or (fours (λ c. bit_xor (get_or xs c 0) (get_or w c 0))) c 0)) _
    (λ r c hr hc.
    ap (byte_at r) (get_or-fours (λ c. bit_xor (get_or xs c 0) (get_or w c 0)) c hc)
    ∙ byte_xor r hr (get_or xs c 0) (get_or w c 0)
    ∙ sym (ap₂ bit_xor (cell-unpack xs r c hr hc) (cell-unpack w r c hr hc)))

-- ---- the steps before a mix or a key

pub forth_state : (xs : List ℕ) → IsState (shift_rows (sub_bytes (unpack xs)))
forth_state xs = shift_state (sub_bytes (unpack xs)) (sub_state (unpack xs) (unpack_state xs))

pub back_state : (xs : List ℕ) → IsState (inv_sub_bytes (inv_shift_rows (unpack xs)))
back_state xs = inv_sub_state (inv_shift_rows (unpack xs)) (inv_shift_state (unpack xs) (unpack_state xs))

-- ---- a round's steps, column by column

pub forth_mixed : (w xs : List ℕ)
    → Shifted (λ x y z v r. r ≡ mix_word 2 3 1 1 (sub_byte (byte_at 0 x)) (sub_byte (byte_at 1 y)) (sub_byte (byte_at 2 z)) (sub_byte (byte_at 3 v))) w xs
    → unpack xs ≡ mix_columns (shift_rows (sub_bytes (unpack w)))
unfolding unpack sub_bytes shift_rows mix_columns
forth_mixed w xs = mixes_are 2 3 1 1 xs (shift_rows (sub_bytes (unpack w))) (forth_state w)

pub back_substituted : (w xs : List ℕ)
    → Shifted (λ x y z v r. r ≡ word (inv_sub_byte (byte_at 0 x)) (inv_sub_byte (byte_at 1 v)) (inv_sub_byte (byte_at 2 z)) (inv_sub_byte (byte_at 3 y))) w xs
    → unpack xs ≡ inv_sub_bytes (inv_shift_rows (unpack w))
unfolding unpack inv_sub_bytes inv_shift_rows
back_substituted w xs = words_are xs (inv_sub_bytes (inv_shift_rows (unpack w))) (back_state w)
