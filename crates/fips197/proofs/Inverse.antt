-- Cipher and InvCipher undo each other, under every list of round keys, and so under every key.
use Rattle.std.proofs.Common.{◌≡◌, ℕ, List, [], ◌∷◌, ap, ◌∙◌, lit<}
use Rattle.std.specs.List.{AllByRecursion as All}
use Rattle.fips197.specs.State.{IsState, sub_bytes, inv_sub_bytes, shift_rows, inv_shift_rows, mix_columns, inv_mix_columns, add_round_key}
use Rattle.fips197.specs.KeyExpansion.{next_key_of, expand, round_keys_of}
use Rattle.fips197.specs.Cipher.{rounds, inv_rounds, cipher, inv_cipher, encrypt, decrypt}
use Rattle.fips197.specs.Theorems.{CipherLaws}
use Rattle.fips197.proofs.Steps.{sub_state, inv_sub_state, inv_sub_sub, sub_inv_sub, shift_state, inv_shift_state, inv_shift_shift, shift_inv_shift, add_state, add-add}
use Rattle.fips197.proofs.Mixes.{mix_columns_state, inv_mix_columns_state, inv_mix_mix, mix_inv_mix}
use Rattle.fips197.proofs.Keys.{expand_states}

-- ---- the two steps that both have in every round

abbrev forth : List ℕ → List ℕ
forth s = shift_rows (sub_bytes s)

abbrev back : List ℕ → List ℕ
back s = inv_sub_bytes (inv_shift_rows s)

forth_state : (s : List ℕ) → IsState s → IsState (forth s)
forth_state s b = shift_state (sub_bytes s) (sub_state s b)

back_state : (s : List ℕ) → IsState s → IsState (back s)
back_state s b = inv_sub_state (inv_shift_rows s) (inv_shift_state s b)

back_forth : (s : List ℕ) → IsState s → back (forth s) ≡ s
back_forth s b = ap inv_sub_bytes (inv_shift_shift (sub_bytes s) (sub_state s b)) ∙ inv_sub_sub s b

forth_back : (s : List ℕ) → IsState s → forth (back s) ≡ s
forth_back s b = ap shift_rows (sub_inv_sub (inv_shift_rows s) (inv_shift_state s b)) ∙ shift_inv_shift s b

-- ---- the rounds

mixed_state : (w s : List ℕ) → IsState w → IsState s → IsState (add_round_key w (mix_columns (forth s)))
mixed_state w s a b = add_state w (mix_columns (forth s)) a (mix_columns_state (forth s) (forth_state s b))

rounds_state : (ws : List (List ℕ)) → All IsState ws → (s : List ℕ) → IsState s → IsState (rounds ws s)
unfolding rounds
rounds_state [] a s b = b
rounds_state (w ∷ []) a s b = add_state w (forth s) a.0 (forth_state s b)
rounds_state (w ∷ v ∷ ws) a s b = rounds_state (v ∷ ws) a.1 (add_round_key w (mix_columns (forth s))) (mixed_state w s a.0 b)

inv_rounds_state : (ws : List (List ℕ)) → All IsState ws → (s : List ℕ) → IsState s → IsState (inv_rounds ws s)
unfolding inv_rounds
inv_rounds_state [] a s b = b
inv_rounds_state (w ∷ []) a s b = add_state w s a.0 b
inv_rounds_state (w ∷ v ∷ ws) a s b =
    let y : List ℕ = inv_rounds (v ∷ ws) s in
    inv_mix_columns_state (add_round_key w (back y)) (add_state w (back y) a.0 (back_state y (inv_rounds_state (v ∷ ws) a.1 s b)))

inv_rounds-rounds : (w : List ℕ) (ws : List (List ℕ)) → All IsState (w ∷ ws) → (s : List ℕ) → IsState s → back (inv_rounds (w ∷ ws) (rounds (w ∷ ws) s)) ≡ s
unfolding rounds inv_rounds
inv_rounds-rounds w [] a s b = ap back (add-add w (forth s) (forth_state s b)) ∙ back_forth s b
inv_rounds-rounds w (v ∷ ws) a s b =
    let m : List ℕ = mix_columns (forth s) in
    ap (λ (x : List ℕ). back (inv_mix_columns (add_round_key w x))) (inv_rounds-rounds v ws a.1 (add_round_key w m) (mixed_state w s a.0 b))
    ∙ ap (λ (x : List ℕ). back (inv_mix_columns x)) (add-add w m (mix_columns_state (forth s) (forth_state s b)))
    ∙ ap back (inv_mix_mix (forth s) (forth_state s b))
    ∙ back_forth s b

rounds-inv_rounds : (w : List ℕ) (ws : List (List ℕ)) → All IsState (w ∷ ws) → (s : List ℕ) → IsState s → rounds (w ∷ ws) (back (inv_rounds (w ∷ ws) s)) ≡ s
unfolding rounds inv_rounds
rounds-inv_rounds w [] a s b = ap (add_round_key w) (forth_back (add_round_key w s) (add_state w s a.0 b)) ∙ add-add w s b
rounds-inv_rounds w (v ∷ ws) a s b =
    let y : List ℕ = back (inv_rounds (v ∷ ws) s) in
    let hy : IsState y = back_state (inv_rounds (v ∷ ws) s) (inv_rounds_state (v ∷ ws) a.1 s b) in
    let x : List ℕ = add_round_key w y in
    let hx : IsState x = add_state w y a.0 hy in
    ap (rounds (v ∷ ws))
    (ap (λ (e : List ℕ). add_round_key w (mix_columns e)) (forth_back (inv_mix_columns x) (inv_mix_columns_state x hx))
    ∙ ap (add_round_key w) (mix_inv_mix x hx) ∙ add-add w y hy)
    ∙ rounds-inv_rounds v ws a.1 s b

-- ---- the ciphers, under two or more round keys

module _ (w v : List ℕ) (ws : List (List ℕ)) (a : All IsState (w ∷ v ∷ ws)) (s : List ℕ) (b : IsState s) where
  cipher_state : IsState (cipher (w ∷ v ∷ ws) s)
  unfolding cipher
  cipher_state = rounds_state (v ∷ ws) a.1 (add_round_key w s) (add_state w s a.0 b)

  inner_state : IsState (back (inv_rounds (v ∷ ws) s))
  inner_state = back_state (inv_rounds (v ∷ ws) s) (inv_rounds_state (v ∷ ws) a.1 s b)

  inv_cipher_state : IsState (inv_cipher (w ∷ v ∷ ws) s)
  unfolding inv_cipher
  inv_cipher_state = add_state w (back (inv_rounds (v ∷ ws) s)) a.0 inner_state

  inv_cipher-cipher : inv_cipher (w ∷ v ∷ ws) (cipher (w ∷ v ∷ ws) s) ≡ s
  unfolding cipher inv_cipher
  inv_cipher-cipher = ap (add_round_key w) (inv_rounds-rounds v ws a.1 (add_round_key w s) (add_state w s a.0 b)) ∙ add-add w s b

  cipher-inv_cipher : cipher (w ∷ v ∷ ws) (inv_cipher (w ∷ v ∷ ws) s) ≡ s
  unfolding cipher inv_cipher
  cipher-inv_cipher = ap (rounds (v ∷ ws)) (add-add w (back (inv_rounds (v ∷ ws) s)) inner_state) ∙ rounds-inv_rounds v ws a.1 s b

-- ---- under every key

-- what holds under two or more round keys that are states
under : (P : List (List ℕ) → Type 0) → ((w v : List ℕ) (ws : List (List ℕ)) → All IsState (w ∷ v ∷ ws) → P (w ∷ v ∷ ws))
    → (key : List ℕ) → IsState key → P (round_keys_of key)
unfolding round_keys_of expand
under P h key b = h key (next_key_of 1 key) _ (expand_states 10 1 key b (lit< tt))

pub cipher_laws_lem : CipherLaws
unfolding encrypt decrypt
cipher_laws_lem =
    record {
      encrypt_state = λ key s k b. under (λ ws. IsState (cipher ws s)) (λ w v ws a. cipher_state w v ws a s b) key k;
      decrypt_state = λ key s k b. under (λ ws. IsState (inv_cipher ws s)) (λ w v ws a. inv_cipher_state w v ws a s b) key k;
      decrypts = λ key s k b. under (λ ws. inv_cipher ws (cipher ws s) ≡ s) (λ w v ws a. inv_cipher-cipher w v ws a s b) key k;
      encrypts = λ key s k b. under (λ ws. cipher ws (inv_cipher ws s) ≡ s) (λ w v ws a. cipher-inv_cipher w v ws a s b) key k;
    }
