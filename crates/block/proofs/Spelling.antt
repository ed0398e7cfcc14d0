-- Sixteen bytes and the number that they spell determine each other.
use Rattle.std.proofs.Common.{◌≡◌, ℕ, zero, suc, ◌+◌, ◌*◌, ◌/◌, ◌%◌, ◌^◌, ◌<◌, ◌≤◌, List, [], ◌∷◌, ◌++◌, length, take, sym, refl, ap, ◌∙◌, subst, ap₂, suc-le-suc, add_assoc, mod-lt, mod-eq_of_lt, zero-lt-suc, mul_assoc, mul_comm, add-mul, pow-suc, zero-add, arith, lit<, length-take-le}
use native.Mathlib.Nat.{one-le-pow}
use lib.Arith.{mod-mul, digits_lt, digits_div, digits_mod}
use Rattle.std.proofs.lemmas.List.{get_or-take}
use Rattle.block.specs.Bytes.{AllBytes, after, spelled, bytes}

-- ---- a number's bytes spell the number

regroup : (y d c r : ℕ) → (y * 256 + d) * c + r ≡ y * (256 * c) + (d * c + r)
regroup y d c r =
    ap (λ (z : ℕ). z + r) (add-mul (y * 256) d c ∙ ap (λ (z : ℕ). z + d * c) (mul_assoc y 256 c)) ∙ add_assoc (y * (256 * c)) (d * c) r

pow_256 : (n : ℕ) → 256 * 256 ^ n ≡ 256 ^ suc n
pow_256 n = mul_comm 256 (256 ^ n) ∙ sym (pow-suc 256 n)

after-bytes : (n y x : ℕ) → after y (bytes n x) ≡ y * 256 ^ n + x % 256 ^ n
unfolding after bytes
after-bytes zero y x = omega arith
after-bytes (suc n) y x =
    after-bytes n (y * 256 + x / 256 ^ n % 256) x
    ∙ regroup y (x / 256 ^ n % 256) (256 ^ n) (x % 256 ^ n)
    ∙ ap (λ (z : ℕ). y * (256 * 256 ^ n) + z) (sym (mod-mul x (lit< tt) (one-le-pow n 256 (lit< tt))))
    ∙ ap (λ (z : ℕ). y * z + x % z) (pow_256 n)

pub spelled-bytes : (x : ℕ) → x < 2 ^ 128 → spelled (bytes 16 x) ≡ x
unfolding spelled
spelled-bytes x h = after-bytes 16 0 x ∙ zero-add (x % 2 ^ 128) ∙ mod-eq_of_lt h

-- ---- bytes are the bytes of the number that they spell

rest_bytes : (b : ℕ) (bs : List ℕ) → AllBytes (b ∷ bs) → AllBytes bs
rest_bytes b bs all k h = all (suc k) (suc-le-suc h)

spelled_first : (b : ℕ) (bs : List ℕ) → spelled (b ∷ bs) ≡ after b bs
unfolding spelled after
spelled_first b bs = ap (λ (x : ℕ). after x bs) (zero-add b)

pub after_is : (y : ℕ) (bs : List ℕ) → after y bs ≡ y * 256 ^ length bs + spelled bs
unfolding after spelled
after_is y [] = omega arith
after_is y (b ∷ bs) =
    after_is (y * 256 + b) bs ∙ regroup y b (256 ^ length bs) (spelled bs)
    ∙ ap₂ (λ (p q : ℕ). y * p + q) (pow_256 (length bs)) (sym (after_is b bs) ∙ sym (spelled_first b bs))

pub spelled_lt : (bs : List ℕ) → AllBytes bs → spelled bs < 256 ^ length bs
unfolding spelled after
spelled_lt [] all = lit< tt
spelled_lt (b ∷ bs) all =
    subst (λ (z : ℕ). z < 256 ^ suc (length bs)) (sym (spelled_first b bs ∙ after_is b bs))
    (subst (λ (z : ℕ). b * 256 ^ length bs + spelled bs < z) (pow_256 (length bs)) (digits_lt (all 0 (zero-lt-suc (length bs))) (spelled_lt bs (rest_bytes b bs all))))

-- the first i bytes spell less than the i-th power of 256
pub spelled-take : (i : ℕ) (bs : List ℕ) → AllBytes bs → i ≤ length bs → spelled (take i bs) < 256 ^ i
spelled-take i bs all h =
    let long : length (take i bs) ≡ i = length-take-le i bs h in
    subst (λ (n : ℕ). spelled (take i bs) < 256 ^ n) long
    (spelled_lt (take i bs) (λ k lt. rw (get_or-take i bs k 0 (omega arith)) (all k (omega arith))))

-- one byte more
after_push : (y : ℕ) (bs : List ℕ) (b : ℕ) → after y (bs ++ (b ∷ [])) ≡ after y bs * 256 + b
unfolding after
after_push y [] b = refl
after_push y (c ∷ bs) b = after_push (y * 256 + c) bs b

pub spelled_push : (bs : List ℕ) (b : ℕ) → spelled (bs ++ (b ∷ [])) ≡ spelled bs * 256 + b
unfolding spelled
spelled_push bs b = after_push 0 bs b

-- the highest byte of b and then bs, whatever stood before them
top_byte : (y b : ℕ) (bs : List ℕ) → AllBytes (b ∷ bs) → after (y * 256 + b) bs / 256 ^ length bs % 256 ≡ b
unfolding after
top_byte y b bs all =
    ap (λ (z : ℕ). z / 256 ^ length bs % 256) (after_is (y * 256 + b) bs)
    ∙ ap (λ (z : ℕ). z % 256) (digits_div (y * 256 + b) (spelled_lt bs (rest_bytes b bs all)))
    ∙ digits_mod y (all 0 (zero-lt-suc (length bs)))

bytes_after : (y : ℕ) (bs : List ℕ) → AllBytes bs → bytes (length bs) (after y bs) ≡ bs
unfolding bytes after
bytes_after y [] all = refl
bytes_after y (b ∷ bs) all = ap₂ ◌∷◌ (top_byte y b bs all) (bytes_after (y * 256 + b) bs (rest_bytes b bs all))

pub bytes-spelled : (bs : List ℕ) → length bs ≡ 16 → AllBytes bs → bytes 16 (spelled bs) ≡ bs
unfolding spelled
bytes-spelled bs h all = ap (λ (n : ℕ). bytes n (spelled bs)) (sym h) ∙ bytes_after 0 bs all

-- sixteen bytes spell a block
pub spelled_block : (bs : List ℕ) → length bs ≡ 16 → AllBytes bs → spelled bs < 2 ^ 128
spelled_block bs h all = subst (λ (n : ℕ). spelled bs < 256 ^ n) h (spelled_lt bs all)

-- ---- what is written is as many bytes

pub length-bytes : (n x : ℕ) → length (bytes n x) ≡ n
unfolding bytes
length-bytes zero x = refl
length-bytes (suc n) x = ap suc (length-bytes n x)

pub all_bytes : (n x : ℕ) → AllBytes (bytes n x)
unfolding bytes
all_bytes (suc n) x zero h = mod-lt (x / 256 ^ n) (lit< tt)
all_bytes (suc n) x (suc k) h = all_bytes n x k (omega arith)
all_bytes zero x k h = absurd (omega arith)
