-- The mix of a column is undone: at each byte of it apart, as the product is linear.
use Rattle.std.proofs.Common.{◌≡◌, ℕ, ◌+◌, ◌%◌, ◌<◌, List, sym, refl, ap, ◌∙◌, ap₂, arith}
use lib.Bits.{bit_xor, xor_zero_r}
use Rattle.fips197.specs.Field.{xtime, times, mul}
use Rattle.fips197.specs.State.{IsState, cell, quad, mix, mix_columns, inv_mix_columns}
use Rattle.fips197.specs.Bytes.{same}
use Rattle.fips197.proofs.Linear.{mul_small, mul-quad, quad_small, across, turn, turn²}
use Rattle.fips197.proofs.Steps.{cell_state, is_state, made, cell_small}

pub quad_ap : {a b c d a' b' c' d' : ℕ} → a ≡ a' → b ≡ b' → c ≡ c' → d ≡ d' → quad a b c d ≡ quad a' b' c' d'
quad_ap e f g h = ap₂ bit_xor (ap₂ bit_xor e f) (ap₂ bit_xor g h)

mixed : ℕ → ℕ → ℕ → ℕ → List ℕ → ℕ → ℕ → ℕ
mixed p q u v s r c =
    quad (mul p (cell s r c)) (mul q (cell s ((r + 1) % 4) c)) (mul u (cell s ((r + 2) % 4) c)) (mul v (cell s ((r + 3) % 4) c))

pub mix_state : (p q u v : ℕ) (s : List ℕ) → IsState s → IsState (mix p q u v s)
unfolding mix mixed
mix_state p q u v s b =
    made (mixed p q u v s)
    (λ r c hr hc.
    let row : (j : ℕ) → cell s ((r + j) % 4) c < 256 = λ j. cell_small s b ((r + j) % 4) c (omega arith) hc in
    quad_small (mul p (cell s r c)) (mul q (cell s ((r + 1) % 4) c)) (mul u (cell s ((r + 2) % 4) c)) (mul v (cell s ((r + 3) % 4) c))
    (mul_small p (cell s r c) (cell_small s b r c hr hc)) (mul_small q (cell s ((r + 1) % 4) c) (row 1))
    (mul_small u (cell s ((r + 2) % 4) c) (row 2)) (mul_small v (cell s ((r + 3) % 4) c) (row 3)))

-- row r + j of a mix, by the rows from r on
mix_down : (p q u v : ℕ) (s : List ℕ) (r c j j1 j2 j3 : ℕ) → c < 4 → (j + 1) % 4 ≡ j1 % 4 → (j + 2) % 4 ≡ j2 % 4 → (j + 3) % 4 ≡ j3 % 4
    → cell (mix p q u v s) ((r + j) % 4) c
    ≡ quad (mul p (cell s ((r + j) % 4) c)) (mul q (cell s ((r + j1) % 4) c)) (mul u (cell s ((r + j2) % 4) c)) (mul v (cell s ((r + j3) % 4) c))
unfolding mix mixed
mix_down p q u v s r c j j1 j2 j3 hc e1 e2 e3 =
    cell_state (mixed p q u v s) ((r + j) % 4) c (omega arith) hc
    ∙ quad_ap refl (ap (λ (n : ℕ). mul q (cell s n c)) (omega arith)) (ap (λ (n : ℕ). mul u (cell s n c)) (omega arith)) (ap (λ (n : ℕ). mul v (cell s n c)) (omega arith))

-- mix by a b c d, and then by p q u v, leaves a byte as it is where the sums of the products are 1 0 0 0
module _ (p q u v a b c d : ℕ)
    (one : (x : ℕ) → x < 256 → quad (mul p (mul a x)) (mul q (mul d x)) (mul u (mul c x)) (mul v (mul b x)) ≡ x)
    (two : (x : ℕ) → x < 256 → quad (mul p (mul b x)) (mul q (mul a x)) (mul u (mul d x)) (mul v (mul c x)) ≡ 0)
    (three : (x : ℕ) → x < 256 → quad (mul p (mul c x)) (mul q (mul b x)) (mul u (mul a x)) (mul v (mul d x)) ≡ 0)
    (four : (x : ℕ) → x < 256 → quad (mul p (mul d x)) (mul q (mul c x)) (mul u (mul b x)) (mul v (mul a x)) ≡ 0) where
  column : (x y z w : ℕ) → x < 256 → y < 256 → z < 256 → w < 256
      → quad (mul p (quad (mul a x) (mul b y) (mul c z) (mul d w))) (mul q (quad (mul a y) (mul b z) (mul c w) (mul d x)))
      (mul u (quad (mul a z) (mul b w) (mul c x) (mul d y))) (mul v (quad (mul a w) (mul b x) (mul c y) (mul d z))) ≡ x
  column x y z w hx hy hz hw =
      quad_ap
      (mul-quad p (mul a x) (mul b y) (mul c z) (mul d w) (mul_small a x hx) (mul_small b y hy) (mul_small c z hz) (mul_small d w hw))
      (mul-quad q (mul a y) (mul b z) (mul c w) (mul d x) (mul_small a y hy) (mul_small b z hz) (mul_small c w hw) (mul_small d x hx)
      ∙ turn (mul q (mul d x)) (mul q (mul a y)) (mul q (mul b z)) (mul q (mul c w)))
      (mul-quad u (mul a z) (mul b w) (mul c x) (mul d y) (mul_small a z hz) (mul_small b w hw) (mul_small c x hx) (mul_small d y hy)
      ∙ turn² (mul u (mul c x)) (mul u (mul d y)) (mul u (mul a z)) (mul u (mul b w)))
      (mul-quad v (mul a w) (mul b x) (mul c y) (mul d z) (mul_small a w hw) (mul_small b x hx) (mul_small c y hy) (mul_small d z hz)
      ∙ sym (turn (mul v (mul a w)) (mul v (mul b x)) (mul v (mul c y)) (mul v (mul d z))))
      ∙ across (mul p (mul a x)) (mul p (mul b y)) (mul p (mul c z)) (mul p (mul d w)) (mul q (mul d x)) (mul q (mul a y)) (mul q (mul b z)) (mul q (mul c w))
      (mul u (mul c x)) (mul u (mul d y)) (mul u (mul a z)) (mul u (mul b w)) (mul v (mul b x)) (mul v (mul c y)) (mul v (mul d z)) (mul v (mul a w))
      ∙ quad_ap (one x hx) (two y hy) (three z hz) (four w hw)
      ∙ xor_zero_r (bit_xor x 0) ∙ xor_zero_r x

  mix-mix : (s : List ℕ) → IsState s → mix p q u v (mix a b c d s) ≡ s
  unfolding mix mixed
  mix-mix s h =
      is_state (mixed p q u v (mix a b c d s)) s h.long
      (λ r k hr hk.
      let zeroth : r ≡ (r + 0) % 4 = omega arith in
      let small : (j : ℕ) → cell s ((r + j) % 4) k < 256 = λ j. cell_small s h ((r + j) % 4) k (omega arith) hk in
      quad_ap
      (ap (λ (n : ℕ). mul p (cell (mix a b c d s) n k)) zeroth ∙ ap (mul p) (mix_down a b c d s r k 0 1 2 3 hk refl refl refl))
      (ap (mul q) (mix_down a b c d s r k 1 2 3 0 hk refl refl refl))
      (ap (mul u) (mix_down a b c d s r k 2 3 0 1 hk refl refl refl))
      (ap (mul v) (mix_down a b c d s r k 3 0 1 2 hk refl refl refl))
      ∙ column (cell s ((r + 0) % 4) k) (cell s ((r + 1) % 4) k) (cell s ((r + 2) % 4) k) (cell s ((r + 3) % 4) k) (small 0) (small 1) (small 2) (small 3)
      ∙ ap (λ (n : ℕ). cell s n k) (sym zeroth))

pub inv_mix_mix : (s : List ℕ) → IsState s → inv_mix_columns (mix_columns s) ≡ s
unfolding mix_columns inv_mix_columns xtime times mul
inv_mix_mix =
    mix-mix 14 11 13 9 2 3 1 1
    (same (λ x. quad (mul 14 (mul 2 x)) (mul 11 (mul 1 x)) (mul 13 (mul 1 x)) (mul 9 (mul 3 x))) (λ x. x) tt)
    (same (λ x. quad (mul 14 (mul 3 x)) (mul 11 (mul 2 x)) (mul 13 (mul 1 x)) (mul 9 (mul 1 x))) (λ x. 0) tt)
    (same (λ x. quad (mul 14 (mul 1 x)) (mul 11 (mul 3 x)) (mul 13 (mul 2 x)) (mul 9 (mul 1 x))) (λ x. 0) tt)
    (same (λ x. quad (mul 14 (mul 1 x)) (mul 11 (mul 1 x)) (mul 13 (mul 3 x)) (mul 9 (mul 2 x))) (λ x. 0) tt)

pub mix_inv_mix : (s : List ℕ) → IsState s → mix_columns (inv_mix_columns s) ≡ s
unfolding mix_columns inv_mix_columns xtime times mul
mix_inv_mix =
    mix-mix 2 3 1 1 14 11 13 9
    (same (λ x. quad (mul 2 (mul 14 x)) (mul 3 (mul 9 x)) (mul 1 (mul 13 x)) (mul 1 (mul 11 x))) (λ x. x) tt)
    (same (λ x. quad (mul 2 (mul 11 x)) (mul 3 (mul 14 x)) (mul 1 (mul 9 x)) (mul 1 (mul 13 x))) (λ x. 0) tt)
    (same (λ x. quad (mul 2 (mul 13 x)) (mul 3 (mul 11 x)) (mul 1 (mul 14 x)) (mul 1 (mul 9 x))) (λ x. 0) tt)
    (same (λ x. quad (mul 2 (mul 9 x)) (mul 3 (mul 13 x)) (mul 1 (mul 11 x)) (mul 1 (mul 14 x))) (λ x. 0) tt)

pub mix_columns_state : (s : List ℕ) → IsState s → IsState (mix_columns s)
unfolding mix_columns
mix_columns_state = mix_state 2 3 1 1

pub inv_mix_columns_state : (s : List ℕ) → IsState s → IsState (inv_mix_columns s)
unfolding inv_mix_columns
inv_mix_columns_state = mix_state 14 11 13 9
