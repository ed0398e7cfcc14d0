-- Words of 32 bits: a sum undone by a difference, a rotation by the other one.
use Rattle.std.specs.Prelude.{◌≡◌, ℕ, ◌+◌, ◌-◌, ◌*◌, ◌/◌, ◌%◌, ◌^◌, ◌<◌}
use Rattle.std.proofs.Common.{sym, ap, ap₂, subst, ◌∙◌, mod-lt, add-mul, mul_assoc, arith, pow_pos, pow-add, shl_lt, shr_lt}
use Rattle.std.proofs.Math.Arith.{digits_lt}
use Rattle.std.specs.Int.Bits.{bit_or, or_shifted_r}
use Rattle.std.proofs.lemmas.Nat.{or_shifted}
use Rattle.std.proofs.Math.Pow.{split, high, low}
use Rattle.half_cipher.specs.Words.{add, sub}

pub add_lt : (a b : ℕ) → add a b < 2 ^ 32
add_lt a b = mod-lt (a + b) (pow_pos 32)

pub sub_lt : (a b : ℕ) → sub a b < 2 ^ 32
sub_lt a b = mod-lt (a + (2 ^ 32 - b)) (pow_pos 32)

pub sub-add : (a b : ℕ) → a < 2 ^ 32 → b < 2 ^ 32 → sub (add a b) b ≡ a
sub-add a b ha hb = omega arith

pub add-sub : (a b : ℕ) → a < 2 ^ 32 → b < 2 ^ 32 → add (sub a b) b ≡ a
add-sub a b ha hb = omega arith

-- ---- rotations by j bits, of words of j + k bits

abbrev left : ℕ → ℕ → ℕ → ℕ
left j k a = bit_or (a * 2 ^ j % 2 ^ (k + j)) (a / 2 ^ k)

abbrev right : ℕ → ℕ → ℕ → ℕ
right j k a = bit_or (a / 2 ^ j) (a * 2 ^ k % 2 ^ (j + k))

-- the k lowest bits before the others
turned : ℕ → ℕ → ℕ → ℕ
turned j k a = a % 2 ^ k * 2 ^ j + a / 2 ^ k

shifted : (j k a : ℕ) → a * 2 ^ j % 2 ^ (k + j) ≡ a % 2 ^ k * 2 ^ j
shifted j k a =
    ap (λ (x : ℕ). x * 2 ^ j % 2 ^ (k + j)) (sym (split a k))
    ∙ ap (λ (x : ℕ). x % 2 ^ (k + j)) (add-mul (a / 2 ^ k * 2 ^ k) (a % 2 ^ k) (2 ^ j) ∙ ap (λ (x : ℕ). x + a % 2 ^ k * 2 ^ j) (mul_assoc (a / 2 ^ k) (2 ^ k) (2 ^ j) ∙ ap (λ (x : ℕ). a / 2 ^ k * x) (sym (pow-add 2 k j))))
    ∙ low (a / 2 ^ k) (k + j) (shl_lt k j (mod-lt a (pow_pos k)))

left_is : (j k a : ℕ) → a / 2 ^ k < 2 ^ j → left j k a ≡ turned j k a
unfolding turned
left_is j k a h = ap (λ (x : ℕ). bit_or x (a / 2 ^ k)) (shifted j k a) ∙ or_shifted (a % 2 ^ k) j (a / 2 ^ k) h

right_is : (j k a : ℕ) → a / 2 ^ j < 2 ^ k → right j k a ≡ turned k j a
unfolding turned
right_is j k a h = ap (bit_or (a / 2 ^ j)) (shifted k j a) ∙ or_shifted_r (a % 2 ^ j) k (a / 2 ^ j) h

turned_high : (j k a : ℕ) → a / 2 ^ k < 2 ^ j → turned j k a / 2 ^ j < 2 ^ k
unfolding turned
turned_high j k a h = subst (λ (x : ℕ). x < 2 ^ k) (sym (high (a % 2 ^ k) j h)) (mod-lt a (pow_pos k))

turned_lt : (j k a : ℕ) → a / 2 ^ k < 2 ^ j → turned j k a < 2 ^ (k + j)
unfolding turned
turned_lt j k a h = subst (λ (x : ℕ). a % 2 ^ k * 2 ^ j + a / 2 ^ k < x) (sym (pow-add 2 k j)) (digits_lt (mod-lt a (pow_pos k)) h)

turned_back : (j k a : ℕ) → a / 2 ^ j < 2 ^ k → turned j k (turned k j a) ≡ a
unfolding turned
turned_back j k a h = ap₂ (λ (x y : ℕ). x * 2 ^ j + y) (low (a % 2 ^ j) k h) (high (a % 2 ^ j) k h) ∙ split a j

pub left_lt : (j k a : ℕ) → a < 2 ^ (j + k) → left j k a < 2 ^ (k + j)
left_lt j k a h = let top = shr_lt j k h in subst (λ (x : ℕ). x < 2 ^ (k + j)) (sym (left_is j k a top)) (turned_lt j k a top)

pub right_lt : (j k a : ℕ) → a < 2 ^ (k + j) → right j k a < 2 ^ (j + k)
right_lt j k a h = let top = shr_lt k j h in subst (λ (x : ℕ). x < 2 ^ (j + k)) (sym (right_is j k a top)) (turned_lt k j a top)

pub right-left : (j k a : ℕ) → a < 2 ^ (j + k) → right j k (left j k a) ≡ a
right-left j k a h =
    let top = shr_lt j k h in
    ap (right j k) (left_is j k a top) ∙ right_is j k (turned j k a) (turned_high j k a top) ∙ turned_back k j a top

pub left-right : (j k a : ℕ) → a < 2 ^ (k + j) → left j k (right j k a) ≡ a
left-right j k a h =
    let top = shr_lt k j h in
    ap (left j k) (right_is j k a top) ∙ left_is j k (turned k j a) (turned_high k j a top) ∙ turned_back j k a top
