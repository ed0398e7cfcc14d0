-- A part of some bytes, opened.
use Rattle.std.proofs.Common.{◌≡◌, ℕ, ◌+◌, ◌-◌, ◌≤◌, Bool, true, false, cond, ◌&&◌, leb, List, ◌++◌, length, take, drop, Some, None, Option, sym, refl, ap, ◌∙◌, arith}
use borrow.Rule.Slice.PartMut.{put_mid}
use Rattle.std.specs.Option.{option_map}
use Rattle.std.specs.List.{between}
use Rattle.std.proofs.lemmas.List.{drop-drop}
use Rattle.std.proofs.lemmas.Bool.{cond-true}
use Rattle.std.proofs.lemmas.Bool.Decides.{nat_tests}
use Rattle.seal.specs.Wrapping.{part_mapped, part_opened}

put_part : (i j : ℕ) (x y : List ℕ) → i ≤ j → put_mid i (j - i) x y ≡ take i x ++ (y ++ drop j x)
put_part i j x y h =
    ap (λ rest. take i x ++ (y ++ rest)) (drop-drop (j - i) i x ∙ ap (λ (k : ℕ). drop k x) (let e : i + (j - i) ≡ j = omega arith in e))

pub part_opened_lem : (i j : ℕ) (x y : List ℕ) (r : Bool) (o : Option (List ℕ)) → i ≤ j → j ≤ length x → cond r (Some y) None ≡ o
    → cond r (Some (put_mid i (j - i) x y)) None ≡ part_opened i j o x
part_opened_lem i j x y r o h l is =
    let fits : (leb i j && leb j (length x)) ≡ true = grind (arith, nat_tests) in
    by r ∙ ap (option_map (λ m. take i x ++ (m ++ drop j x))) is ∙ sym (cond-true _ _ _ fits)
  where
    by : (r : Bool) → cond r (Some (put_mid i (j - i) x y)) None ≡ option_map (λ m. take i x ++ (m ++ drop j x)) (cond r (Some y) None)
    by true = ap Some (put_part i j x y h)
    by false = refl

pub part_mapped_lem : (i j : ℕ) (x y : List ℕ) (f : List ℕ → List ℕ) → i ≤ j → j ≤ length x → y ≡ f (between i j x) → put_mid i (j - i) x y ≡ part_mapped i j f x
part_mapped_lem i j x y f h l is =
    let fits : (leb i j && leb j (length x)) ≡ true = grind (arith, nat_tests) in
    put_part i j x y h ∙ ap (λ z. take i x ++ (z ++ drop j x)) is ∙ sym (cond-true _ _ _ fits)
