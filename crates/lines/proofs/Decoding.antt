-- What `decode` reads of pairs of digits, and what it says of a digit too few.
use Rattle.std.proofs.Common.{◌≡◌, ℕ, zero, suc, ◌*◌, ◌%◌, false, eqb, List, [], ◌∷◌, length, get_or, Some, None, Err, codes, Option, refl, ap, ◌∙◌, arith}
use Rattle.std.specs.Str.{bytes_eq}
use Rattle.std.specs.Simd.{first_chunks}
use Rattle.std.proofs.lemmas.Bool.{ne_eqb}
use Rattle.lines.specs.declared.fault.Field.{Field}
use Rattle.lines.specs.declared.fault.LineFault.TheVariants.{OddDigits}
use Rattle.lines.specs.Hex.{byte_of, before, pairs, reading}

before_none : (o : Option ℕ) → before o None ≡ None
before_none None = refl
before_none (Some b) = refl

-- An odd number of digits makes no bytes.
pairs_odd : (text : List ℕ) → length text % 2 ≡ 1 → pairs text ≡ None
pairs_odd [] h = absurd (omega arith)
pairs_odd (x ∷ []) h = refl
pairs_odd (x ∷ y ∷ cs) h = ap (before (byte_of x y)) (pairs_odd cs (omega arith)) ∙ before_none (byte_of x y)

pub reading_odd : (field : Field) (text : List ℕ) → bytes_eq text (codes ".") ≡ false → (length text % 2 ≡ 0 → ⊥) → reading field text ≡ Err (OddDigits field)
reading_odd field text dot odd =
    let none : pairs text ≡ None = pairs_odd text (omega arith) in
    let test : eqb (length text % 2) 0 ≡ false = ne_eqb (length text % 2) 0 odd in
    simp (dot, none, test)

-- The bytes of a text that is cut into pairs of digits.
abbrev pub paired : List (List ℕ) → Option (List ℕ)
paired [] = Some []
paired (p ∷ ps) = before (byte_of (get_or p 0 0) (get_or p 1 0)) (paired ps)

pub paired_chunks : (n : ℕ) (text : List ℕ) → length text ≡ n * 2 → paired (first_chunks 2 n text) ≡ pairs text
paired_chunks zero [] h = refl
paired_chunks zero (x ∷ xs) h = absurd (omega arith)
paired_chunks (suc n) [] h = absurd (omega arith)
paired_chunks (suc n) (x ∷ []) h = absurd (omega arith)
paired_chunks (suc n) (x ∷ y ∷ cs) h = ap (before (byte_of x y)) (paired_chunks n cs (omega arith))
