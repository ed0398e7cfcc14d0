-- The product of bytes is linear, so the mix of a column is undone at each byte of it apart.
use Rattle.std.proofs.Common.{◌≡◌, ℕ, zero, suc, ◌*◌, ◌/◌, ◌%◌, ◌<◌, refl, ap, ◌∙◌, ap₂, one-mul, zero-mul, arith, lit<}
use lib.Bits.{bit_xor, xor_lt, xor_comm, xor_mod, xor_shr}
use Rattle.block.proofs.Laws.{bit_cases, bits_xor, shl_xor, times_bit_xor, xor_swap}
use Rattle.fips197.specs.Field.{xtime, times, mul}
use Rattle.fips197.specs.State.{quad}

pub xtime-xor : (a b : ℕ) → a < 256 → b < 256 → xtime (bit_xor a b) ≡ bit_xor (xtime a) (xtime b)
unfolding xtime
xtime-xor a b h k =
    ap₂ bit_xor
    (ap (λ (x : ℕ). x % 256) (shl_xor a b) ∙ xor_mod (a * 2) (b * 2) 8)
    (ap (λ (x : ℕ). x * 27) (xor_shr a b 7) ∙ bits_xor (a / 128) (b / 128) 27 (omega arith) (omega arith))
    ∙ xor_swap (a * 2 % 256) (b * 2 % 256) (a / 128 * 27) (b / 128 * 27)

pub xtime_small : (a : ℕ) → a < 256 → xtime a < 256
unfolding xtime
xtime_small a h = xor_lt 8 (a * 2 % 256) (a / 128 * 27) (omega arith) (omega arith)

pub times-xor : (n p a b : ℕ) → a < 256 → b < 256 → times n p (bit_xor a b) ≡ bit_xor (times n p a) (times n p b)
unfolding times
times-xor zero p a b h k = refl
times-xor (suc n) p a b h k =
    ap₂ bit_xor (times_bit_xor (p % 2) a b (omega arith))
    (ap (times n (p / 2)) (xtime-xor a b h k) ∙ times-xor n (p / 2) (xtime a) (xtime b) (xtime_small a h) (xtime_small b k))
    ∙ xor_swap (p % 2 * a) (p % 2 * b) (times n (p / 2) (xtime a)) (times n (p / 2) (xtime b))

bit_small : (c a : ℕ) → c < 2 → a < 256 → c * a < 256
bit_small c a h k = bit_cases (λ c. c * a < 256) (simp zero-mul (lit< tt)) (simp one-mul k) c h

pub times_small : (n p a : ℕ) → a < 256 → times n p a < 256
unfolding times
times_small zero p a h = omega arith
times_small (suc n) p a h =
    xor_lt 8 (p % 2 * a) (times n (p / 2) (xtime a)) (bit_small (p % 2) a (omega arith) h) (times_small n (p / 2) (xtime a) (xtime_small a h))

pub mul-xor : (p a b : ℕ) → a < 256 → b < 256 → mul p (bit_xor a b) ≡ bit_xor (mul p a) (mul p b)
unfolding mul
mul-xor p = times-xor 8 p

pub mul_small : (p a : ℕ) → a < 256 → mul p a < 256
unfolding mul
mul_small p = times_small 8 p

pub quad_small : (a b c d : ℕ) → a < 256 → b < 256 → c < 256 → d < 256 → quad a b c d < 256
quad_small a b c d ha hb hc hd = xor_lt 8 (bit_xor a b) (bit_xor c d) (xor_lt 8 a b ha hb) (xor_lt 8 c d hc hd)

pub mul-quad : (p a b c d : ℕ) → a < 256 → b < 256 → c < 256 → d < 256 → mul p (quad a b c d) ≡ quad (mul p a) (mul p b) (mul p c) (mul p d)
mul-quad p a b c d ha hb hc hd =
    mul-xor p (bit_xor a b) (bit_xor c d) (xor_lt 8 a b ha hb) (xor_lt 8 c d hc hd)
    ∙ ap₂ bit_xor (mul-xor p a b ha hb) (mul-xor p c d hc hd)

pub quad-xor : (a b c d a' b' c' d' : ℕ) → bit_xor (quad a b c d) (quad a' b' c' d') ≡ quad (bit_xor a a') (bit_xor b b') (bit_xor c c') (bit_xor d d')
quad-xor a b c d a' b' c' d' =
    xor_swap (bit_xor a b) (bit_xor c d) (bit_xor a' b') (bit_xor c' d') ∙ ap₂ bit_xor (xor_swap a b a' b') (xor_swap c d c' d')

-- a sum by rows is the sum by columns
pub across : (a b c d e f g h i j k l m n o p : ℕ)
    → quad (quad a b c d) (quad e f g h) (quad i j k l) (quad m n o p) ≡ quad (quad a e i m) (quad b f j n) (quad c g k o) (quad d h l p)
across a b c d e f g h i j k l m n o p =
    ap₂ bit_xor (quad-xor a b c d e f g h) (quad-xor i j k l m n o p)
    ∙ quad-xor (bit_xor a e) (bit_xor b f) (bit_xor c g) (bit_xor d h) (bit_xor i m) (bit_xor j n) (bit_xor k o) (bit_xor l p)

-- the terms of a sum go round
pub turn : (a b c d : ℕ) → quad b c d a ≡ quad a b c d
turn a b c d =
    xor_comm (bit_xor b c) (bit_xor d a) ∙ ap (λ (x : ℕ). bit_xor x (bit_xor b c)) (xor_comm d a) ∙ xor_swap a d b c ∙ ap (bit_xor (bit_xor a b)) (xor_comm d c)

pub turn² : (a b c d : ℕ) → quad c d a b ≡ quad a b c d
turn² a b c d = xor_comm (bit_xor c d) (bit_xor a b)
