-- Each step takes states to states; the substitutions, the shifts and the keys are undone.
use Rattle.std.proofs.Common.{◌≡◌, ℕ, ◌+◌, ◌-◌, ◌*◌, ◌/◌, ◌%◌, ◌<◌, List, length, get_or, sym, refl, ap, ◌∙◌, subst, ap₂, zero-add, arith}
use lib.Bits.{bit_xor, xor_lt}
use Rattle.std.proofs.lemmas.List.FromFn.{get_or-map-range_with_len, fill_by_all}
use Rattle.fips197.specs.Sbox.{sub_byte, inv_sub_byte}
use Rattle.fips197.specs.State.{IsState, cell, state, sub_bytes, inv_sub_bytes, shift_rows, inv_shift_rows, add_round_key}
use Rattle.fips197.specs.Bytes.{sub_back, back_sub, sub_small, inv_sub_small}
use Rattle.block.proofs.Laws.{xor_twice}

-- ---- states by their cells

pub cell_state : (f : ℕ → ℕ → ℕ) (r c : ℕ) → r < 4 → c < 4 → cell (state f) r c ≡ f r c
cell_state f r c hr hc =
    let row : (r + 4 * c) % 4 ≡ r = omega arith in
    let column : (r + 4 * c) / 4 ≡ c = omega arith in
    get_or-map-range_with_len (λ k. f (k % 4) (k / 4)) 0 16 (r + 4 * c) (r + 4 * c) 0 (omega arith) (zero-add (r + 4 * c)) ∙ ap₂ f row column

-- a state is what a function of the row and the column makes if it is at each cell
pub is_state : (f : ℕ → ℕ → ℕ) (s : List ℕ) → length s ≡ 16 → ((r c : ℕ) → r < 4 → c < 4 → f r c ≡ cell s r c) → state f ≡ s
is_state f s long e =
    sym (fill_by_all (λ k. f (k % 4) (k / 4)) s 16 0 long
    (λ k h. let place : k ≡ k % 4 + 4 * (k / 4) = omega arith in
    ap (λ (n : ℕ). get_or s n 0) place ∙ sym (e (k % 4) (k / 4) (omega arith) (omega arith))))

pub same_state : (f g : ℕ → ℕ → ℕ) → ((r c : ℕ) → r < 4 → c < 4 → f r c ≡ g r c) → state f ≡ state g
same_state f g e = is_state f (state g) refl (λ r c hr hc. e r c hr hc ∙ sym (cell_state g r c hr hc))

pub made : (f : ℕ → ℕ → ℕ) → ((r c : ℕ) → r < 4 → c < 4 → f r c < 256) → IsState (state f)
made f small =
    record {
      long = refl;
      all = λ k h.
          subst (λ (n : ℕ). n < 256) (sym (get_or-map-range_with_len (λ k. f (k % 4) (k / 4)) 0 16 k k 0 h (zero-add k)))
          (small (k % 4) (k / 4) (omega arith) (omega arith));
    }

pub cell_small : (s : List ℕ) → IsState s → (r c : ℕ) → r < 4 → c < 4 → cell s r c < 256
cell_small s b r c hr hc = b.all (r + 4 * c) (omega (arith, b.long))

-- ---- bytes

pub sub_state : (s : List ℕ) → IsState s → IsState (sub_bytes s)
unfolding sub_bytes
sub_state s b = made (λ r c. sub_byte (cell s r c)) (λ r c hr hc. sub_small (cell s r c) (cell_small s b r c hr hc))

pub inv_sub_state : (s : List ℕ) → IsState s → IsState (inv_sub_bytes s)
unfolding inv_sub_bytes
inv_sub_state s b = made (λ r c. inv_sub_byte (cell s r c)) (λ r c hr hc. inv_sub_small (cell s r c) (cell_small s b r c hr hc))

pub inv_sub_sub : (s : List ℕ) → IsState s → inv_sub_bytes (sub_bytes s) ≡ s
unfolding sub_bytes inv_sub_bytes
inv_sub_sub s b =
    is_state (λ r c. inv_sub_byte (cell (sub_bytes s) r c)) s b.long
    (λ r c hr hc. ap inv_sub_byte (cell_state (λ r c. sub_byte (cell s r c)) r c hr hc) ∙ sub_back (cell s r c) (cell_small s b r c hr hc))

pub sub_inv_sub : (s : List ℕ) → IsState s → sub_bytes (inv_sub_bytes s) ≡ s
unfolding sub_bytes inv_sub_bytes
sub_inv_sub s b =
    is_state (λ r c. sub_byte (cell (inv_sub_bytes s) r c)) s b.long
    (λ r c hr hc. ap sub_byte (cell_state (λ r c. inv_sub_byte (cell s r c)) r c hr hc) ∙ back_sub (cell s r c) (cell_small s b r c hr hc))

-- ---- rows

pub shift_state : (s : List ℕ) → IsState s → IsState (shift_rows s)
unfolding shift_rows
shift_state s b = made (λ r c. cell s r ((c + r) % 4)) (λ r c hr hc. cell_small s b r ((c + r) % 4) hr (omega arith))

pub inv_shift_state : (s : List ℕ) → IsState s → IsState (inv_shift_rows s)
unfolding inv_shift_rows
inv_shift_state s b = made (λ r c. cell s r ((c + (4 - r)) % 4)) (λ r c hr hc. cell_small s b r ((c + (4 - r)) % 4) hr (omega arith))

pub inv_shift_shift : (s : List ℕ) → IsState s → inv_shift_rows (shift_rows s) ≡ s
unfolding shift_rows inv_shift_rows
inv_shift_shift s b =
    is_state (λ r c. cell (shift_rows s) r ((c + (4 - r)) % 4)) s b.long
    (λ r c hr hc.
    let round : ((c + (4 - r)) % 4 + r) % 4 ≡ c = omega arith in
    cell_state (λ r c. cell s r ((c + r) % 4)) r ((c + (4 - r)) % 4) hr (omega arith) ∙ ap (cell s r) round)

pub shift_inv_shift : (s : List ℕ) → IsState s → shift_rows (inv_shift_rows s) ≡ s
unfolding shift_rows inv_shift_rows
shift_inv_shift s b =
    is_state (λ r c. cell (inv_shift_rows s) r ((c + r) % 4)) s b.long
    (λ r c hr hc.
    let round : ((c + r) % 4 + (4 - r)) % 4 ≡ c = omega arith in
    cell_state (λ r c. cell s r ((c + (4 - r)) % 4)) r ((c + r) % 4) hr (omega arith) ∙ ap (cell s r) round)

-- ---- keys

pub add_state : (w s : List ℕ) → IsState w → IsState s → IsState (add_round_key w s)
unfolding add_round_key
add_state w s a b =
    made (λ r c. bit_xor (cell s r c) (cell w r c))
    (λ r c hr hc. xor_lt 8 (cell s r c) (cell w r c) (cell_small s b r c hr hc) (cell_small w a r c hr hc))

pub add-add : (w s : List ℕ) → IsState s → add_round_key w (add_round_key w s) ≡ s
unfolding add_round_key
add-add w s b =
    is_state (λ r c. bit_xor (cell (add_round_key w s) r c) (cell w r c)) s b.long
    (λ r c hr hc.
    ap (λ (x : ℕ). bit_xor x (cell w r c)) (cell_state (λ r c. bit_xor (cell s r c) (cell w r c)) r c hr hc) ∙ xor_twice (cell s r c) (cell w r c))
