-- The blocks of a padded string, by the string's own bytes.
use Rattle.std.proofs.Common.{◌≡◌, ℕ, zero, suc, map, ◌+◌, ◌-◌, ◌*◌, ◌/◌, ◌%◌, ◌<◌, ◌≤◌, true, false, cond, List, [], ◌∷◌, ◌++◌, length, get_or, take, drop, set, replicate, sym, refl, ap, ◌∙◌, ap₂, le_of_suc-le-suc, not-suc-le-zero, arith, length-append, length-drop, drop-drop}
use native.Mathlib.Nat.{sub-zero, suc-sub-suc}
use lib.ListN.{length-replicate}
use lib.Seq.{take-append-le, drop-append-le}
use Rattle.std.specs.Simd.{first_chunks}
use Rattle.std.proofs.lemmas.List.{take_all, take_more, map-append}
use Rattle.block.specs.Bytes.{spelled}
use Rattle.mode.specs.Padding.{whole, pad, blocks, padded}

-- what is put behind a string that is not whole
abbrev filling : List ℕ → List ℕ
filling x = 0x80 ∷ replicate (15 - length x % 16) 0

pad-whole : (x : List ℕ) → whole x ≡ true → pad x ≡ x
unfolding pad
pad-whole x w = ap (λ b. cond b x (x ++ filling x)) w

pad_part : (x : List ℕ) → whole x ≡ false → pad x ≡ x ++ filling x
unfolding pad
pad_part x w = ap (λ b. cond b x (x ++ filling x)) w

-- ---- the blocks of a string

-- a string's whole blocks, as the code cuts them
pub blocks_cut : (x : List ℕ) (cs : List (List ℕ)) (i : ℕ) → cs ≡ first_chunks 16 (length x / 16) x → length cs ≤ i
    → map spelled (take i cs) ≡ blocks (length x / 16) x
unfolding blocks
blocks_cut x cs i cut all = ap (map spelled) (take_all i cs all ∙ cut) ∙ each (length x / 16) x
  where
    each : (n : ℕ) (x : List ℕ) → map spelled (first_chunks 16 n x) ≡ blocks n x
    each zero x = refl
    each (suc n) x = ap (λ bs. spelled (take 16 x) ∷ bs) (each n (drop 16 x))

pub blocks_more : (cs : List (List ℕ)) (i : ℕ) → i < length cs → map spelled (take (i + 1) cs) ≡ map spelled (take i cs) ++ (spelled (get_or cs i []) ∷ [])
blocks_more cs i inside = ap (map spelled) (take_more cs i [] inside) ∙ map-append spelled (take i cs) (get_or cs i [] ∷ [])

-- ---- .. after padding

pub padded-whole : (x : List ℕ) → whole x ≡ true → padded x ≡ blocks (length x / 16) x
unfolding padded
padded-whole x w = ap (λ y. blocks (length y / 16) y) (pad-whole x w)

-- one block more than n, which z fills up
blocks_filled : (n : ℕ) (x z : List ℕ) → n * 16 ≤ length x → length (drop (n * 16) x) + length z ≡ 16
    → blocks (suc n) (x ++ z) ≡ blocks n x ++ (spelled (drop (n * 16) x ++ z) ∷ [])
unfolding blocks
blocks_filled zero x z within full = ap (λ y. spelled y ∷ []) (take_all 16 (x ++ z) (omega (arith, length-append x z)))
blocks_filled (suc n) x z within full =
    let further : drop (n * 16) (drop 16 x) ≡ drop (suc n * 16) x = drop-drop (n * 16) 16 x ∙ ap (λ (k : ℕ). drop k x) (omega arith) in
    ap₂ (λ y ys. spelled y ∷ blocks (suc n) ys) (take-append-le 16 x z (omega arith)) (drop-append-le 16 x z (omega arith))
    ∙ ap (λ bs. spelled (take 16 x) ∷ bs)
    (blocks_filled n (drop 16 x) z (simp length-drop (omega arith)) (ap (λ y. length y + length z) further ∙ full)
    ∙ ap (λ y. blocks n (drop 16 x) ++ (spelled (y ++ z) ∷ [])) further)

-- the last block of what is not whole has the bytes that are left, 0x80 and zeros
pub padded_part : (x rest : List ℕ) → rest ≡ drop (length x / 16 * 16) x → whole x ≡ false
    → padded x ≡ blocks (length x / 16) x ++ (spelled (rest ++ (0x80 ∷ replicate (15 - length rest) 0)) ∷ [])
unfolding padded
padded_part x rest is w =
    let n : length rest ≡ length x % 16 = ap length is ∙ length-drop (length x / 16 * 16) x ∙ omega arith in
    let z : length (filling x) ≡ 16 - length x % 16 = ap suc (length-replicate {A = ℕ} (15 - length x % 16) 0) ∙ omega arith in
    let long : length (x ++ filling x) / 16 ≡ suc (length x / 16) = ap (λ (k : ℕ). k / 16) (length-append x (filling x)) ∙ omega (arith, z) in
    ap (λ y. blocks (length y / 16) y) (pad_part x w)
    ∙ ap (λ (k : ℕ). blocks k (x ++ filling x)) long
    ∙ blocks_filled (length x / 16) x (filling x) (omega arith) (ap (λ y. length y + length (filling x)) (sym is) ∙ omega (arith, n, z))
    ∙ ap₂ (λ y (k : ℕ). blocks (length x / 16) x ++ (spelled (y ++ (0x80 ∷ replicate (15 - k) 0)) ∷ [])) (sym is) (sym n)

-- a string written over the front of zeros, and a byte behind it
pub written_over : (n : ℕ) (xs : List ℕ) (v : ℕ) → length xs ≤ n
    → set (xs ++ drop (length xs) (replicate (suc n) 0)) (length xs) v ≡ xs ++ (v ∷ replicate (n - length xs) 0)
written_over n [] v h = ap (λ (k : ℕ). v ∷ replicate k 0) (sym (sub-zero n))
written_over zero (x ∷ xs) v h = absurd (not-suc-le-zero h)
written_over (suc n) (x ∷ xs) v h =
    ap (λ r. x ∷ r) (written_over n xs v (le_of_suc-le-suc h) ∙ ap (λ (k : ℕ). xs ++ (v ∷ replicate k 0)) (sym (suc-sub-suc n (length xs))))
