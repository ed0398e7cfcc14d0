-- The laws of the field.
use Rattle.std.proofs.Common.{◌≡◌, ℕ, zero, suc, ◌+◌, ◌*◌, ◌/◌, ◌%◌, ◌^◌, ◌<◌, ◌≤◌, sym, refl, ap, ◌∙◌, ap₂, le_of_suc-le-suc, not-suc-le-zero, add-zero, add-suc, mod-lt, mod-eq_of_lt, zero-lt-suc, mul_assoc, mul_comm, one-mul, pow-suc, zero-mul, mul-one, arith, lit<, lit≤, pow_pos}
use native.Mathlib.Nat.{mod-one, mod-mod, div-eq_of_lt}
use lib.Bits.{bit_xor, xor_assoc, xor_comm, xor_self, xor_zero_r, xor_shr, xor_mod, xor_block, xor_lt, xor_shifted}
use lib.Pow.{pow-lt, field, mod-pow-add}
use Rattle.block.specs.Field.{double, sum, product, power}

-- ---- exclusive or, regrouped

pub xor-left_comm : (a b c : ℕ) → bit_xor a (bit_xor b c) ≡ bit_xor b (bit_xor a c)
xor-left_comm a b c = sym (xor_assoc a b c) ∙ ap (λ (x : ℕ). bit_xor x c) (xor_comm a b) ∙ xor_assoc b a c

pub xor_swap : (a b c d : ℕ) → bit_xor (bit_xor a b) (bit_xor c d) ≡ bit_xor (bit_xor a c) (bit_xor b d)
xor_swap a b c d = xor_assoc a b (bit_xor c d) ∙ ap (bit_xor a) (xor-left_comm b c d) ∙ sym (xor_assoc a c (bit_xor b d))

-- what is XORed twice is as it was
pub xor_twice : (a b : ℕ) → bit_xor (bit_xor a b) b ≡ a
xor_twice a b = xor_assoc a b b ∙ ap (bit_xor a) (xor_self b) ∙ xor_zero_r a

-- ---- a bit times a block

pub bit_cases : (P : ℕ → Type 0) → P 0 → P 1 → (x : ℕ) → x < 2 → P x
bit_cases P p q zero h = p
bit_cases P p q (suc zero) h = q
bit_cases P p q (suc (suc x)) h = absurd (not-suc-le-zero (le_of_suc-le-suc (le_of_suc-le-suc h)))

bit : (n : ℕ) → n % 2 < 2
bit n = mod-lt n (zero-lt-suc 1)

pub bits_xor : (x y a : ℕ) → x < 2 → y < 2 → bit_xor x y * a ≡ bit_xor (x * a) (y * a)
bits_xor x y a hx hy =
    bit_cases (λ x. bit_xor x y * a ≡ bit_xor (x * a) (y * a)) (simp zero-mul)
    (bit_cases (λ y. bit_xor 1 y * a ≡ bit_xor (1 * a) (y * a)) (simp (one-mul, zero-mul, xor_zero_r)) (simp (one-mul, zero-mul, xor_self)) y hy) x hx

pub times_bit_xor : (x a b : ℕ) → x < 2 → x * bit_xor a b ≡ bit_xor (x * a) (x * b)
times_bit_xor x a b = bit_cases (λ x. x * bit_xor a b ≡ bit_xor (x * a) (x * b)) (simp zero-mul) (simp one-mul) x

-- ---- doubling

pub shl_xor : (a b : ℕ) → bit_xor a b * 2 ≡ bit_xor (a * 2) (b * 2)
shl_xor a b =
    sym (add-zero (bit_xor a b * 2)) ∙ sym (xor_block 1 a b 0 0 (lit< tt) (lit< tt)) ∙ ap₂ bit_xor (add-zero (a * 2)) (add-zero (b * 2))

pub double_xor : (a b : ℕ) → double (bit_xor a b) ≡ bit_xor (double a) (double b)
unfolding double
double_xor a b =
    ap₂ bit_xor
    (ap (λ (x : ℕ). x % 2 ^ 128) (shl_xor a b) ∙ xor_mod (a * 2) (b * 2) 128)
    (ap (λ (x : ℕ). x * 135) (ap (λ (x : ℕ). x % 2) (xor_shr a b 127) ∙ xor_mod (a / 2 ^ 127) (b / 2 ^ 127) 1)
    ∙ bits_xor (a / 2 ^ 127 % 2) (b / 2 ^ 127 % 2) 135 (bit (a / 2 ^ 127)) (bit (b / 2 ^ 127)))
    ∙ xor_swap (a * 2 % 2 ^ 128) (b * 2 % 2 ^ 128) (a / 2 ^ 127 % 2 * 135) (b / 2 ^ 127 % 2 * 135)

pub double_lt : (a : ℕ) → double a < 2 ^ 128
unfolding double
double_lt a = xor_lt 128 (a * 2 % 2 ^ 128) (a / 2 ^ 127 % 2 * 135) (mod-lt (a * 2) (pow_pos 128)) (let h = bit (a / 2 ^ 127) in omega arith)

-- no one falls out
pub double_small : (a : ℕ) → a < 2 ^ 127 → double a ≡ a * 2
unfolding double
double_small a h =
    ap₂ bit_xor (mod-eq_of_lt (omega arith)) (ap (λ (x : ℕ). x % 2 * 135) (div-eq_of_lt h)) ∙ xor_zero_r (a * 2)

-- ---- what is additive and commutes with doubling goes through a sum

module _ (F : ℕ → ℕ) (F-xor : (a b : ℕ) → F (bit_xor a b) ≡ bit_xor (F a) (F b)) (F-double : (a : ℕ) → F (double a) ≡ double (F a)) where
  F_zero : F 0 ≡ 0
  F_zero = F-xor 0 0 ∙ xor_self (F 0)

  F_bit : (x a : ℕ) → x < 2 → F (x * a) ≡ x * F a
  F_bit x a = bit_cases (λ x. F (x * a) ≡ x * F a) (simp zero-mul F_zero) (simp one-mul) x

  pub through : (n a b : ℕ) → F (sum n a b) ≡ sum n (F a) b
  unfolding sum
  through zero a b = F_zero
  through (suc n) a b =
      F-xor (b % 2 * a) (sum n (double a) (b / 2))
      ∙ ap₂ bit_xor (F_bit (b % 2) a (bit b)) (through n (double a) (b / 2) ∙ ap (λ (x : ℕ). sum n x (b / 2)) (F-double a))

-- ---- sums are additive on both sides

pub sum-xor-right : (n a b c : ℕ) → sum n a (bit_xor b c) ≡ bit_xor (sum n a b) (sum n a c)
unfolding sum
sum-xor-right zero a b c = refl
sum-xor-right (suc n) a b c =
    ap₂ bit_xor
    (ap (λ (x : ℕ). x * a) (xor_mod b c 1) ∙ bits_xor (b % 2) (c % 2) a (bit b) (bit c))
    (ap (sum n (double a)) (xor_shr b c 1) ∙ sum-xor-right n (double a) (b / 2) (c / 2))
    ∙ xor_swap (b % 2 * a) (c % 2 * a) (sum n (double a) (b / 2)) (sum n (double a) (c / 2))

pub sum-xor-left : (n a b c : ℕ) → sum n (bit_xor a b) c ≡ bit_xor (sum n a c) (sum n b c)
unfolding sum
sum-xor-left zero a b c = refl
sum-xor-left (suc n) a b c =
    ap₂ bit_xor
    (times_bit_xor (c % 2) a b (bit c))
    (ap (λ (x : ℕ). sum n x (c / 2)) (double_xor a b) ∙ sum-xor-left n (double a) (double b) (c / 2))
    ∙ xor_swap (c % 2 * a) (c % 2 * b) (sum n (double a) (c / 2)) (sum n (double b) (c / 2))

pub sum-double : (n a b : ℕ) → sum n (double a) b ≡ double (sum n a b)
sum-double n a b = sym (through double double_xor (λ a. refl) n a b)

pub sum_lt : (n a b : ℕ) → a < 2 ^ 128 → sum n a b < 2 ^ 128
unfolding sum
sum_lt zero a b h = pow_pos 128
sum_lt (suc n) a b h =
    xor_lt 128 (b % 2 * a) (sum n (double a) (b / 2))
    (bit_cases (λ x. x * a < 2 ^ 128) (simp zero-mul (pow_pos 128)) (simp one-mul h) (b % 2) (bit b))
    (sum_lt n (double a) (b / 2) (double_lt a))

-- a bit, and a number shifted left past it
joined : (k q r : ℕ) → r < 2 → bit_xor (r * 2 ^ k) (q * 2 ^ suc k) ≡ (q * 2 + r) * 2 ^ k
joined k q r h =
    ap₂ bit_xor (sym (add-zero (r * 2 ^ k))) (ap (λ (x : ℕ). q * x) (pow-suc 2 k ∙ mul_comm (2 ^ k) 2) ∙ sym (mul_assoc q 2 (2 ^ k)) ∙ sym (add-zero (q * 2 * 2 ^ k)))
    ∙ xor_block k r (q * 2) 0 0 (pow_pos k) (pow_pos k)
    ∙ add-zero (bit_xor r (q * 2) * 2 ^ k)
    ∙ ap (λ (x : ℕ). x * 2 ^ k) (xor_comm r (q * 2) ∙ xor_shifted q 1 r h)

-- the n lowest bits of b, shifted left by k
pub sum-power : (n k b : ℕ) → n + k ≤ 128 → sum n (2 ^ k) b ≡ b % 2 ^ n * 2 ^ k
unfolding sum
sum-power zero k b h = sym (ap (λ (x : ℕ). x * 2 ^ k) (mod-one b) ∙ zero-mul (2 ^ k))
sum-power (suc zero) k b h = xor_zero_r (b % 2 * 2 ^ k)
sum-power (suc (suc n)) k b h =
    ap (λ (x : ℕ). bit_xor (b % 2 * 2 ^ k) (sum (suc n) x (b / 2))) (double_small (2 ^ k) (pow-lt {j = 127} (omega arith)) ∙ sym (pow-suc 2 k))
    ∙ ap (bit_xor (b % 2 * 2 ^ k)) (sum-power (suc n) (suc k) (b / 2) (omega arith))
    ∙ joined k (b / 2 % 2 ^ suc n) (b % 2) (bit b)
    ∙ ap (λ (x : ℕ). x * 2 ^ k) (sym (mod-pow-add b (suc n) 1) ∙ ap (λ (x : ℕ). b % 2 ^ x) (omega arith))

-- ---- only the 128 lowest bits count

pub double_mod : (a : ℕ) → double (a % 2 ^ 128) ≡ double a
unfolding double
double_mod a =
    ap₂ bit_xor
    (let e : a % 2 ^ 128 * 2 % 2 ^ 128 ≡ a * 2 % 2 ^ 128 = omega arith in e)
    (ap (λ (x : ℕ). x % 2 * 0x87) (field a 1 127) ∙ ap (λ (x : ℕ). x * 0x87) (mod-mod (a / 2 ^ 127) 2))

pub product_mod : (a b : ℕ) → product (a % 2 ^ 128) b ≡ product a b
unfolding product
product_mod a b = ap (λ (x : ℕ). sum 128 x b) (mod-mod a (2 ^ 128))

-- of a block, nothing is lost
pub product-sum : (a b : ℕ) → a < 2 ^ 128 → sum 128 a b ≡ product a b
unfolding product
product-sum a b h = ap (λ (x : ℕ). sum 128 x b) (sym (mod-eq_of_lt h))

-- ---- the laws

pub product_lt : (a b : ℕ) → product a b < 2 ^ 128
unfolding product
product_lt a b = sum_lt 128 (a % 2 ^ 128) b (mod-lt a (pow_pos 128))

pub product-xor-right : (a b c : ℕ) → product a (bit_xor b c) ≡ bit_xor (product a b) (product a c)
unfolding product
product-xor-right a b c = sum-xor-right 128 (a % 2 ^ 128) b c

pub product-xor-left : (a b c : ℕ) → product (bit_xor a b) c ≡ bit_xor (product a c) (product b c)
unfolding product
product-xor-left a b c = ap (λ (x : ℕ). sum 128 x c) (xor_mod a b 128) ∙ sum-xor-left 128 (a % 2 ^ 128) (b % 2 ^ 128) c

pub product-double-left : (a b : ℕ) → product (double a) b ≡ double (product a b)
unfolding product
product-double-left a b =
    ap (λ (x : ℕ). sum 128 x b) (mod-eq_of_lt (double_lt a) ∙ sym (double_mod a)) ∙ sum-double 128 (a % 2 ^ 128) b

-- the factors on the right may be taken in either order, since multiplying by c goes through the sum
pub product_swap : (a b c : ℕ) → product (product a b) c ≡ product (product a c) b
unfolding product
product_swap a b c =
    through (λ x. product x c) (λ x y. product-xor-left x y c) (λ x. product-double-left x c) 128 (a % 2 ^ 128) b
    ∙ ap (λ (x : ℕ). sum 128 x b) (product_mod a c) ∙ product-sum (product a c) b (product_lt a c)

pub one_product : (b : ℕ) → product 1 b ≡ b % 2 ^ 128
unfolding product
one_product b = sum-power 128 0 b (lit≤ tt) ∙ mul-one (b % 2 ^ 128)

pub product_comm : (a b : ℕ) → product a b ≡ product b a
product_comm a b =
    sym (product_mod a b) ∙ ap (λ (x : ℕ). product x b) (sym (one_product a)) ∙ product_swap 1 a b
    ∙ ap (λ (x : ℕ). product x a) (one_product b) ∙ product_mod b a

pub product_assoc : (a b c : ℕ) → product (product a b) c ≡ product a (product b c)
product_assoc a b c = ap (λ (x : ℕ). product x c) (product_comm a b) ∙ product_swap b a c ∙ product_comm (product b c) a

pub product_one : (a : ℕ) → a < 2 ^ 128 → product a 1 ≡ a
product_one a h = product_comm a 1 ∙ one_product a ∙ mod-eq_of_lt h

pub zero_product : (b : ℕ) → product 0 b ≡ 0
zero_product b = product-xor-left 0 0 b ∙ xor_self (product 0 b)

pub product_zero : (a : ℕ) → product a 0 ≡ 0
product_zero a = product-xor-right a 0 0 ∙ xor_self (product a 0)

pub product-double : (a b : ℕ) → product a (double b) ≡ double (product a b)
product-double a b = product_comm a (double b) ∙ product-double-left b a ∙ ap double (product_comm b a)

pub double_is : (a : ℕ) → double a ≡ product a 2
double_is a =
    sym (double_mod a) ∙ ap double (sym (product_comm a 1 ∙ one_product a)) ∙ sym (product-double a 1)
    ∙ ap (product a) (double_small 1 (lit< tt))

pub square_xor : (a b : ℕ) → product (bit_xor a b) (bit_xor a b) ≡ bit_xor (product a a) (product b b)
square_xor a b =
    product-xor-left a b (bit_xor a b)
    ∙ ap₂ bit_xor (product-xor-right a a b) (product-xor-right b a b ∙ ap (λ (x : ℕ). bit_xor x (product b b)) (product_comm b a))
    ∙ xor_assoc (product a a) (product a b) (bit_xor (product a b) (product b b))
    ∙ ap (bit_xor (product a a)) (sym (xor_assoc (product a b) (product a b) (product b b)) ∙ ap (λ (x : ℕ). bit_xor x (product b b)) (xor_self (product a b)))

pub power_lt : (a n : ℕ) → power a n < 2 ^ 128
unfolding power
power_lt a zero = lit< tt
power_lt a (suc n) = product_lt (power a n) a

pub power-add : (a m n : ℕ) → power a (m + n) ≡ product (power a m) (power a n)
unfolding power
power-add a m zero = ap (power a) (add-zero m) ∙ sym (product_one (power a m) (power_lt a m))
power-add a m (suc n) =
    ap (power a) (add-suc m n) ∙ ap (λ (x : ℕ). product x a) (power-add a m n) ∙ product_assoc (power a m) (power a n) a
