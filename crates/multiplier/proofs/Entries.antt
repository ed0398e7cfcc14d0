-- A table of products, filled from the front.
use Rattle.std.proofs.Common.{◌≡◌, ℕ, zero, suc, ◌+◌, ◌*◌, ◌^◌, ◌<◌, ◌≤◌, ◌≢◌, List, length, set, replicate, sym, ap, ◌∙◌, subst, ap₂, le_of_suc-le-suc, not-suc-le-zero, arith, lit<, length-set, get_or-set_other, get_or-set_same, below_more}
use lib.Bits.{bit_xor, xor_zero_r}
use lib.ListN.{get_or-replicate}
use Rattle.block.proofs.Horner.{horner}
use Rattle.block.proofs.Laws.{double_is, product_zero, zero_product, product_one}
use Rattle.block.specs.Field.{double, product}
use Rattle.block.specs.Num.{num}
use Rattle.block.specs.declared.Block.{Block}
use Rattle.multiplier.specs.Products.{held, Products}

abbrev nought : Block
nought = record { hi = 0; lo = 0 }

pub all_zero : Products 0 16 (replicate 16 nought)
all_zero k h = ap num (get_or-replicate 16 k nought nought h) ∙ sym (zero_product k)

pub first_two : (b : Block) → num b < 2 ^ 128 → Products (num b) 2 (set (replicate 16 nought) 1 b)
first_two b hb zero h = sym (product_zero (num b))
first_two b hb (suc zero) h = sym (product_one (num b) hb)
first_two b hb (suc (suc k)) h = absurd (not-suc-le-zero (le_of_suc-le-suc (le_of_suc-le-suc h)))

-- the products with 2k and 2k + 1, from the one with k
product-pair : (a k r : ℕ) → k < 8 → r < 2 → product a (k * 2 + r) ≡ bit_xor (double (product a k)) (product a r)
product-pair a k r hk hr =
    horner 1 a k r (lit< tt) (omega arith) hr ∙ ap (λ (x : ℕ). bit_xor x (product a r)) (sym (double_is (product a k)))

one_more : (a n : ℕ) (table : List Block) (x : Block) → n < length table → Products a n table → num x ≡ product a n
    → Products a (n + 1) (set table n x)
one_more a n table x lt all e =
    below_more (λ k. held (set table n x) k ≡ product a k) n
    (λ k h. let ne : k ≢ n = omega arith in ap num (get_or-set_other table n k x nought ne) ∙ all k h)
    (ap num (get_or-set_same table n x nought lt) ∙ e)

pub two_more : (a k : ℕ) (table : List Block) (x y : Block) → a < 2 ^ 128 → length table ≡ 16 → 1 ≤ k → k < 8
    → Products a (2 * k) table → num x ≡ double (held table k) → num y ≡ bit_xor (num x) a
    → Products a (2 * (k + 1)) (set (set table (2 * k) x) (2 * k + 1) y)
two_more a k table x y ha long low top all ex ey =
    subst (λ (n : ℕ). Products a n (set (set table (2 * k) x) (2 * k + 1) y)) (omega arith)
    (one_more a (2 * k + 1) (set table (2 * k) x) y (simp length-set (omega arith)) (one_more a (2 * k) table x (omega arith) all even) odd)
  where
    doubled : num x ≡ double (product a k)
    doubled = ex ∙ ap double (all k (omega arith))

    place : (r : ℕ) → k * 2 + r ≡ 2 * k + r
    place r = omega arith

    even : num x ≡ product a (2 * k)
    even =
        doubled ∙ sym (product-pair a k 0 top (lit< tt) ∙ ap (bit_xor (double (product a k))) (product_zero a) ∙ xor_zero_r (double (product a k)))
        ∙ ap (product a) (omega arith)

    odd : num y ≡ product a (2 * k + 1)
    odd =
        ey ∙ ap₂ bit_xor doubled (sym (product_one a ha)) ∙ sym (product-pair a k 1 top (lit< tt)) ∙ ap (product a) (place 1)

-- a whole table holds the products of its entry 1
pub of_its_own : (a : ℕ) (table : List Block) → a < 2 ^ 128 → Products a 16 table → Products (held table 1) 16 table
of_its_own a table ha all k h = all k h ∙ ap (λ (x : ℕ). product x k) (sym (all 1 (lit< tt) ∙ product_one a ha))
