-- Rounds on the two parts of a number: where each round is undone, so is the map of the number that they make.
use Rattle.std.specs.Prelude.{◌≡◌, ℕ, ◌+◌, ◌^◌, ◌<◌}
use Rattle.std.proofs.Common.{sym, ap, ap₂, subst, ◌∙◌, mod-lt, pow-add, pow_pos, shr_lt}
use Rattle.std.proofs.Math.Arith.{digits_lt}
use Rattle.std.proofs.Math.Pow.{split, high, low}
use Rattle.half_cipher.specs.Pairs.{parted, joined}
use Rattle.half_cipher.specs.Rounds.{rounds, unrounds}
use Rattle.half_cipher.specs.Iterated.{Keep, Undo, rounds_keep, unrounds_keep, rounds_undone, unrounds_redone}

module _ (w : ℕ) where
  -- two numbers of w bits
  abbrev pub Parts : ℕ × ℕ → Type 0
  Parts p = (p.0 < 2 ^ w) × (p.1 < 2 ^ w)

  parted-parts : (x : ℕ) → x < 2 ^ (w + w) → Parts (parted w x)
  parted-parts x h = (shr_lt w w h, mod-lt x (pow_pos w))

  joined_lt : (p : ℕ × ℕ) → Parts p → joined w p < 2 ^ (w + w)
  joined_lt p h = subst (λ (n : ℕ). joined w p < n) (sym (pow-add 2 w w)) (digits_lt h.0 h.1)

  parted-joined : (p : ℕ × ℕ) → Parts p → parted w (joined w p) ≡ p
  parted-joined p h = ap₂ (λ (a b : ℕ). (a, b)) (high p.0 w h.1) (low p.0 w h.1)

  module _ (n : ℕ) (f g : ℕ → ℕ × ℕ → ℕ × ℕ) where
    pub forward_lt : Keep Parts n f → (x : ℕ) → x < 2 ^ (w + w) → joined w (rounds f n (parted w x)) < 2 ^ (w + w)
    forward_lt keeps x h = joined_lt (rounds f n (parted w x)) (rounds_keep Parts n f keeps (parted w x) (parted-parts x h))

    pub backward_lt : Keep Parts n g → (y : ℕ) → y < 2 ^ (w + w) → joined w (unrounds g n (parted w y)) < 2 ^ (w + w)
    backward_lt keeps y h = joined_lt (unrounds g n (parted w y)) (unrounds_keep Parts n g keeps (parted w y) (parted-parts y h))

    pub backward_forward : Keep Parts n f → Undo Parts n f g → (x : ℕ) → x < 2 ^ (w + w)
        → joined w (unrounds g n (parted w (joined w (rounds f n (parted w x))))) ≡ x
    backward_forward keeps undoes x h =
        ap (λ (p : ℕ × ℕ). joined w (unrounds g n p)) (parted-joined (rounds f n (parted w x)) (rounds_keep Parts n f keeps (parted w x) (parted-parts x h)))
        ∙ ap (joined w) (rounds_undone Parts n f g keeps undoes (parted w x) (parted-parts x h)) ∙ split x w

    pub forward_backward : Keep Parts n g → Undo Parts n g f → (y : ℕ) → y < 2 ^ (w + w)
        → joined w (rounds f n (parted w (joined w (unrounds g n (parted w y))))) ≡ y
    forward_backward keeps redoes y h =
        ap (λ (p : ℕ × ℕ). joined w (rounds f n p)) (parted-joined (unrounds g n (parted w y)) (unrounds_keep Parts n g keeps (parted w y) (parted-parts y h)))
        ∙ ap (joined w) (unrounds_redone Parts n f g keeps redoes (parted w y) (parted-parts y h)) ∙ split y w
