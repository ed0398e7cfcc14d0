-- The hash, as the code computes it.
use Rattle.std.proofs.Common.{◌≡◌, ℕ, suc, ◌^◌, ◌<◌, true, false, cond, List, [], ◌∷◌, ◌++◌, length, Some, None, Option, sym, refl, ap, ◌∙◌, ap₂, mod-eq_of_lt, add-one}
use lib.Bits.{bit_xor, xor_assoc, xor_zero_r, xor_lt}
use Rattle.std.proofs.lemmas.List.{length_push}
use Rattle.block.specs.Field.{double, product, power}
use Rattle.block.proofs.Laws.{one_product, double_is, product_lt, product_mod, product_zero, product_one, product_comm, product_assoc, product-xor-right}
use Rattle.mode.specs.Hash.{weighted, poly, squared, header_squared, term, hash}
use Rattle.mode.specs.Padding.{whole, factor, padded}

-- ---- the hash is a block

term_lt : (l place : ℕ) (x : List ℕ) → term l place x < 2 ^ 128
unfolding term
term_lt l place x = product_lt (power l place) (squared l x)

pub hash_lt : (l : ℕ) (h : Option (List ℕ)) (m : List ℕ) → hash l h m < 2 ^ 128
unfolding hash
hash_lt l None m = term_lt l 2 m
hash_lt l (Some h) m = xor_lt 128 (term l 1 h) (term l 2 m) (term_lt l 1 h) (term_lt l 2 m)

-- ---- Horner's rule: one block more multiplies what came before by l

power_more : (l n : ℕ) → power l (suc n) ≡ product l (power l n)
unfolding power
power_more l n = product_comm (power l n) l

length_more : (xs : List ℕ) (b : ℕ) → length (xs ++ (b ∷ [])) ≡ suc (length xs)
length_more xs b = length_push xs b ∙ add-one (length xs)

weighted_more : (l : ℕ) (xs : List ℕ) (b : ℕ) → b < 2 ^ 128 → weighted l (xs ++ (b ∷ [])) ≡ bit_xor (product l (weighted l xs)) b
unfolding weighted power
weighted_more l [] b h =
    xor_zero_r (product 1 b) ∙ one_product b ∙ mod-eq_of_lt h ∙ ap (λ (x : ℕ). bit_xor x b) (sym (product_zero l))
weighted_more l (x ∷ xs) b h =
    ap₂ bit_xor
    (ap (λ (n : ℕ). product (power l n) x) (length_more xs b) ∙ ap (λ (p : ℕ). product p x) (power_more l (length xs)) ∙ product_assoc l (power l (length xs)) x)
    (weighted_more l xs b h)
    ∙ sym (xor_assoc (product l (product (power l (length xs)) x)) (product l (weighted l xs)) b)
    ∙ ap (λ (y : ℕ). bit_xor y b) (sym (product-xor-right l (product (power l (length xs)) x) (weighted l xs)))

pub poly_more : (l : ℕ) (xs : List ℕ) (b : ℕ) → b < 2 ^ 128 → poly l (xs ++ (b ∷ [])) ≡ bit_xor (product l (poly l xs)) b
unfolding poly
poly_more l xs b h =
    ap₂ bit_xor (ap (power l) (length_more xs b) ∙ power_more l (length xs)) (weighted_more l xs b h)
    ∙ sym (xor_assoc (product l (power l (length xs))) (product l (weighted l xs)) b)
    ∙ ap (λ (y : ℕ). bit_xor y b) (sym (product-xor-right l (power l (length xs)) (weighted l xs)))

pub poly_none : (l : ℕ) → poly l [] ≡ 1
unfolding poly weighted power
poly_none l = refl

-- s is the polynomial of some blocks, and t that of one more, which is b
pub poly_turn : (l : ℕ) (xs : List ℕ) (s b t : ℕ) → b < 2 ^ 128 → s ≡ poly l xs → t ≡ bit_xor (product l s) b → t ≡ poly l (xs ++ (b ∷ []))
poly_turn l xs s b t block before turned = turned ∙ ap (λ (p : ℕ). bit_xor (product l p) b) before ∙ sym (poly_more l xs b block)

-- ---- a square, and its factor

pub square_is : (a : ℕ) → product a a ≡ power a 2
unfolding power
square_is a = sym (ap (λ (x : ℕ). product x a) (one_product a) ∙ product_mod a a)

module _ (l : ℕ) (x : List ℕ) (s : ℕ) (is : s ≡ power (poly l (padded x)) 2) where
  pub squared-whole : whole x ≡ true → double s ≡ squared l x
  unfolding squared factor
  squared-whole w =
      ap double is ∙ double_is (power (poly l (padded x)) 2) ∙ ap (λ b. product (power (poly l (padded x)) 2) (cond b 2 1)) (sym w)

  pub squared_part : whole x ≡ false → s ≡ squared l x
  unfolding squared factor power
  squared_part w =
      is ∙ sym (product_one (power (poly l (padded x)) 2) (product_lt (product 1 (poly l (padded x))) (poly l (padded x))))
      ∙ ap (λ b. product (power (poly l (padded x)) 2) (cond b 2 1)) (sym w)

-- ---- the terms, by one multiplier

times_power : (l n a : ℕ) → product (power l (suc n)) a ≡ product l (product (power l n) a)
times_power l n a = ap (λ (p : ℕ). product p a) (power_more l n) ∙ product_assoc l (power l n) a

times_one : (l a : ℕ) → product l (product (power l 0) a) ≡ product l a
unfolding power
times_one l a =
    product_comm l (product 1 a) ∙ ap (λ (y : ℕ). product y l) (one_product a) ∙ product_mod a l ∙ product_comm a l

term_first : (l : ℕ) (x : List ℕ) → term l 1 x ≡ product l (squared l x)
unfolding term
term_first l x = times_power l 0 (squared l x) ∙ times_one l (squared l x)

term_second : (l : ℕ) (x : List ℕ) → term l 2 x ≡ product l (product l (squared l x))
unfolding term
term_second l x = times_power l 1 (squared l x) ∙ ap (product l) (times_power l 0 (squared l x) ∙ times_one l (squared l x))

pub hash_is : (l : ℕ) (h : Option (List ℕ)) (m : List ℕ) → product l (bit_xor (header_squared l h) (product l (squared l m))) ≡ hash l h m
unfolding hash
hash_is l None m = sym (term_second l m)
hash_is l (Some h) m =
    product-xor-right l (squared l h) (product l (squared l m)) ∙ ap₂ bit_xor (sym (term_first l h)) (sym (term_second l m))
