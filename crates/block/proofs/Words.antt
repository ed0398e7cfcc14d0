-- A block as two words: what the code computes is the number that the specification names.
use Rattle.std.proofs.Common.{◌≡◌, ℕ, ◌+◌, ◌-◌, ◌*◌, ◌/◌, ◌%◌, ◌^◌, ◌<◌, Bool, true, false, ◌&&◌, eqb, List, [], ◌∷◌, ◌++◌, map, length, get_or, sym, refl, ap, ◌∙◌, ap₂, arith, ne_eqb, eqb-true}
use borrow.Author.Tests.{eqb-false, eq-true}
use lib.Bits.{bit_xor, bit_or, bit_and, xor_block, xor_zero_r, or_shifted}
use lib.Pow.{low}
use Rattle.std.specs.List.{range_with_len}
use Rattle.std.proofs.lemmas.List.FromFn.{fill_by_all}
use Rattle.block.specs.Field.{double}
use Rattle.block.specs.Bytes.{spelled, bytes}
use Rattle.block.proofs.Laws.{bit_cases}

-- the words of a block, apart
pub words-xor : (h l h' l' : ℕ) → l < 2 ^ 64 → l' < 2 ^ 64
    → bit_xor h h' * 2 ^ 64 + bit_xor l l' ≡ bit_xor (h * 2 ^ 64 + l) (h' * 2 ^ 64 + l')
words-xor h l h' l' hl hl' = sym (xor_block 64 h h' l l' hl hl')

-- all ones where x is 1, and none where it is 0
pub masked : (x m : ℕ) → x < 2 → m < 2 ^ 64 → (m + x) % 2 ^ 64 ≡ 0 → bit_and m 135 ≡ x * 135
masked x m hx hm =
    bit_cases (λ x. (m + x) % 2 ^ 64 ≡ 0 → bit_and m 135 ≡ x * 135)
    (λ e. let z : m ≡ 0 = omega arith in ap (λ (m : ℕ). bit_and m 135) z)
    (λ e. let z : m ≡ 2 ^ 64 - 1 = omega arith in ap (λ (m : ℕ). bit_and m 135) z)
    x hx

pub words-double : (h l m : ℕ) → h < 2 ^ 64 → l < 2 ^ 64 → m < 2 ^ 64 → (m + h / 2 ^ 63) % 2 ^ 64 ≡ 0
    → bit_or (h * 2 % 2 ^ 64) (l / 2 ^ 63) * 2 ^ 64 + bit_xor (l * 2 % 2 ^ 64) (bit_and m 135) ≡ double (h * 2 ^ 64 + l)
unfolding double
words-double h l m hh hl hm e =
    ap₂ (λ (x y : ℕ). x * 2 ^ 64 + bit_xor (l * 2 % 2 ^ 64) y) top (masked (h / 2 ^ 63) m (omega arith) hm e)
    ∙ ap (λ (x : ℕ). x * 2 ^ 64 + bit_xor (l * 2 % 2 ^ 64) (h / 2 ^ 63 * 135)) (sym (xor_zero_r (h % 2 ^ 63 * 2 + l / 2 ^ 63)))
    ∙ words-xor (h % 2 ^ 63 * 2 + l / 2 ^ 63) (l * 2 % 2 ^ 64) 0 (h / 2 ^ 63 * 135) (omega arith) (omega arith)
    ∙ ap₂ bit_xor shifted fallen
  where
    low128 : (h % 2 ^ 63 * 2 + l / 2 ^ 63) * 2 ^ 64 + l * 2 % 2 ^ 64 < 2 ^ 128
    low128 = omega arith

    whole : (h * 2 ^ 64 + l) * 2 ≡ h / 2 ^ 63 * 2 ^ 128 + ((h % 2 ^ 63 * 2 + l / 2 ^ 63) * 2 ^ 64 + l * 2 % 2 ^ 64)
    whole = omega arith

    shifted : (h % 2 ^ 63 * 2 + l / 2 ^ 63) * 2 ^ 64 + l * 2 % 2 ^ 64 ≡ (h * 2 ^ 64 + l) * 2 % 2 ^ 128
    shifted = sym (ap (λ (x : ℕ). x % 2 ^ 128) whole ∙ low (h / 2 ^ 63) 128 low128)

    fallen : 0 * 2 ^ 64 + h / 2 ^ 63 * 135 ≡ (h * 2 ^ 64 + l) / 2 ^ 127 % 2 * 135
    fallen = omega arith

    top : bit_or (h * 2 % 2 ^ 64) (l / 2 ^ 63) ≡ h % 2 ^ 63 * 2 + l / 2 ^ 63
    top = ap (λ (x : ℕ). bit_or x (l / 2 ^ 63)) (omega arith) ∙ or_shifted (h % 2 ^ 63) 1 (l / 2 ^ 63) (omega arith)

pub words_half : (h l : ℕ) → h < 2 ^ 64 → l < 2 ^ 64
    → h / 2 * 2 ^ 64 + bit_or (h * 2 ^ 63 % 2 ^ 64) (l / 2) ≡ (h * 2 ^ 64 + l) / 2
words_half h l hh hl =
    ap (λ (x : ℕ). h / 2 * 2 ^ 64 + x)
    (ap (λ (x : ℕ). bit_or x (l / 2)) (omega arith) ∙ or_shifted (h % 2) 63 (l / 2) (omega arith))
    ∙ omega arith

-- sixteen bytes, one by one
pub spelled_16 : (bs : List ℕ) → length bs ≡ 16 → spelled bs ≡ spelled (map (λ i. get_or bs i 0) (range_with_len 0 16))
spelled_16 bs h = ap spelled (fill_by_all (λ i. get_or bs i 0) bs 16 0 h (λ k l. refl))

-- the eight bytes of a word, as `to_be_bytes` writes them
abbrev word : ℕ → List ℕ
word x =
    x / 256 ^ 7 % 256 ∷ x / 256 ^ 6 % 256 ∷ x / 256 ^ 5 % 256 ∷ x / 256 ^ 4 % 256
    ∷ x / 256 ^ 3 % 256 ∷ x / 256 ^ 2 % 256 ∷ x / 256 % 256 ∷ x % 256 ∷ []

pub bytes_16 : (h l : ℕ) → h < 2 ^ 64 → l < 2 ^ 64 → word h ++ word l ≡ bytes 16 (h * 2 ^ 64 + l)
unfolding bytes
bytes_16 h l hh hl =
    ap₂ ◌∷◌ (omega arith) (ap₂ ◌∷◌ (omega arith) (ap₂ ◌∷◌ (omega arith) (ap₂ ◌∷◌ (omega arith)
    (ap₂ ◌∷◌ (omega arith) (ap₂ ◌∷◌ (omega arith) (ap₂ ◌∷◌ (omega arith) (ap₂ ◌∷◌ (omega arith)
    (ap₂ ◌∷◌ (omega arith) (ap₂ ◌∷◌ (omega arith) (ap₂ ◌∷◌ (omega arith) (ap₂ ◌∷◌ (omega arith)
    (ap₂ ◌∷◌ (omega arith) (ap₂ ◌∷◌ (omega arith) (ap₂ ◌∷◌ (omega arith) (ap₂ ◌∷◌ (omega arith) refl)))))))))))))))

-- ---- two blocks are the same number where their words are the same

pub words_eqb : (h h' l l' : ℕ) → l < 2 ^ 64 → l' < 2 ^ 64 → (eqb h h' && eqb l l') ≡ eqb (h * 2 ^ 64 + l) (h' * 2 ^ 64 + l')
words_eqb h h' l l' hl hl' = by_cases (eqb h h') (eqb l l') refl refl
  where
    apart : (h * 2 ^ 64 + l ≡ h' * 2 ^ 64 + l' → ⊥) → false ≡ eqb (h * 2 ^ 64 + l) (h' * 2 ^ 64 + l')
    apart ne = sym (ne_eqb (h * 2 ^ 64 + l) (h' * 2 ^ 64 + l') ne)

    by_cases : (x y : Bool) → eqb h h' ≡ x → eqb l l' ≡ y → (x && y) ≡ eqb (h * 2 ^ 64 + l) (h' * 2 ^ 64 + l')
    by_cases true true p q = eq-true (h * 2 ^ 64 + l) (h' * 2 ^ 64 + l') (omega (arith, eqb-true h h' p, eqb-true l l' q))
    by_cases true false p q = apart (λ e. eqb-false l l' q (omega arith))
    by_cases false y p q = apart (λ e. eqb-false h h' p (omega arith))
