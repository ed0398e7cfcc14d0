-- Rounds undone, where each round is.
use Rattle.std.specs.Prelude.{◌≡◌, ℕ, zero, suc, ◌+◌, ◌-◌, ◌<◌, ◌≤◌, List, [], ◌∷◌, ◌++◌, map, reverse, fold}
use Rattle.std.specs.Borrow.{Bor}
use Rattle.std.proofs.Common.{refl, sym, ap, ◌∙◌, add-one, zero-add, arith}
use Rattle.std.proofs.lemmas.List.{reverse-append}
use Rattle.std.proofs.lemmas.List.FromFn.{map-range_with_len_more}
use Rattle.std.proofs.lemmas.List.Folds.{fold-map}
use Rattle.std.proofs.lemmas.List.Sums.{fold-append}
use Rattle.half_cipher.specs.Rounds.{rounds, unrounds, keys_of}

-- one round more
pub rounds_more : {A : Type 0} (f : ℕ → A → A) (i : ℕ) (x : A) → rounds f (i + 1) x ≡ f i (rounds f i x)
unfolding rounds
rounds_more f i x = ap (λ n. rounds f n x) (add-one i)

-- the last of the rounds undone, and the others left to undo
pub unrounds_last : {A : Type 0} (g : ℕ → A → A) (i : ℕ) (x : A) → 0 < i → unrounds g i x ≡ unrounds g (i - 1) (g (i - 1) x)
unfolding unrounds
unrounds_last g zero x h = elim h [ ]
unrounds_last g (suc i) x h = ap (λ n. unrounds g n (g n x)) (let e : i ≡ suc i - 1 = omega arith in e)

pub unrounds_none : {A : Type 0} (g : ℕ → A → A) (i : ℕ) (x : A) → i ≤ 0 → unrounds g i x ≡ x
unfolding unrounds
unrounds_none g zero x h = refl
unrounds_none g (suc i) x h = absurd (omega arith)

-- ---- over a list of the rounds' keys

module _ {K A : Type 0} (key : ℕ → K) (f : K → A → A) where
  keys_more : (n : ℕ) → keys_of key (suc n) ≡ keys_of key n ++ (key n ∷ [])
  unfolding keys_of
  keys_more n = ap (keys_of key) (sym (add-one n)) ∙ map-range_with_len_more key 0 n n (zero-add n)

  pub rounds_fold : (n : ℕ) (x : A) → fold (λ x k. f k x) x (keys_of key n) ≡ rounds (λ i. f (key i)) n x
  unfolding rounds keys_of
  rounds_fold zero x = refl
  rounds_fold (suc n) x =
      ap (fold (λ x k. f k x) x) (keys_more n) ∙ fold-append (λ x k. f k x) x (keys_of key n) (key n ∷ []) ∙ ap (f (key n)) (rounds_fold n x)

  pub unrounds_fold : (n : ℕ) (x : A) → fold (λ x k. f k x) x (reverse (keys_of key n)) ≡ unrounds (λ i. f (key i)) n x
  unfolding unrounds keys_of
  unrounds_fold zero x = refl
  unrounds_fold (suc n) x =
      ap (λ ks. fold (λ x k. f k x) x (reverse ks)) (keys_more n) ∙ ap (fold (λ x k. f k x) x) (reverse-append (keys_of key n) (key n ∷ [])) ∙ unrounds_fold n (f (key n) x)

  -- the same, where the keys are read through references
  pub rounds_read : (n : ℕ) (x : A) (items : List (Bor K)) → map (λ y. y.now) items ≡ keys_of key n
      → fold (λ x y. f y.now x) x items ≡ rounds (λ i. f (key i)) n x
  rounds_read n x items e =
      sym (fold-map (λ x k. f k x) (λ y. y.now) x items) ∙ ap (fold (λ x k. f k x) x) e ∙ rounds_fold n x

  pub unrounds_read : (n : ℕ) (x : A) (items : List (Bor K)) → map (λ y. y.now) items ≡ reverse (keys_of key n)
      → fold (λ x y. f y.now x) x items ≡ unrounds (λ i. f (key i)) n x
  unrounds_read n x items e =
      sym (fold-map (λ x k. f k x) (λ y. y.now) x items) ∙ ap (fold (λ x k. f k x) x) e ∙ unrounds_fold n x

-- ---- of values of which P holds, for the rounds f, and g which undoes them

module _ {A : Type 0} (P : A → Type 0) where
  -- each of the n first rounds keeps P
  abbrev pub Keep : ℕ → (ℕ → A → A) → Type 0
  Keep n f = (i : ℕ) → i < n → (x : A) → P x → P (f i x)

  -- each of the n first rounds f is undone by g
  abbrev pub Undo : ℕ → (ℕ → A → A) → (ℕ → A → A) → Type 0
  Undo n f g = (i : ℕ) → i < n → (x : A) → P x → g i (f i x) ≡ x

  pub rounds_keep : (n : ℕ) (f : ℕ → A → A) → Keep n f → (x : A) → P x → P (rounds f n x)
  unfolding rounds
  rounds_keep zero f keeps x p = p
  rounds_keep (suc n) f keeps x p = keeps n (omega arith) (rounds f n x) (rounds_keep n f (λ i h. keeps i (omega arith)) x p)

  pub unrounds_keep : (n : ℕ) (g : ℕ → A → A) → Keep n g → (x : A) → P x → P (unrounds g n x)
  unfolding unrounds
  unrounds_keep zero g keeps x p = p
  unrounds_keep (suc n) g keeps x p = unrounds_keep n g (λ i h. keeps i (omega arith)) (g n x) (keeps n (omega arith) x p)

  pub rounds_undone : (n : ℕ) (f g : ℕ → A → A) → Keep n f → Undo n f g → (x : A) → P x → unrounds g n (rounds f n x) ≡ x
  unfolding rounds unrounds
  rounds_undone zero f g keeps undoes x p = refl
  rounds_undone (suc n) f g keeps undoes x p =
      ap (unrounds g n) (undoes n (omega arith) (rounds f n x) (rounds_keep n f (λ i h. keeps i (omega arith)) x p))
      ∙ rounds_undone n f g (λ i h. keeps i (omega arith)) (λ i h. undoes i (omega arith)) x p

  pub unrounds_redone : (n : ℕ) (f g : ℕ → A → A) → Keep n g → Undo n g f → (x : A) → P x → rounds f n (unrounds g n x) ≡ x
  unfolding rounds unrounds
  unrounds_redone zero f g keeps redoes x p = refl
  unrounds_redone (suc n) f g keeps redoes x p =
      ap (f n) (unrounds_redone n f g (λ i h. keeps i (omega arith)) (λ i h. redoes i (omega arith)) (g n x) (keeps n (omega arith) x p))
      ∙ redoes n (omega arith) x p
