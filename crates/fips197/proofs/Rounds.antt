-- The rounds between the first round key and the last, one after another.
use Rattle.std.proofs.Common.{◌≡◌, ℕ, List, [], ◌∷◌, ◌++◌, refl, ap}
use Rattle.fips197.specs.State.{sub_bytes, inv_sub_bytes, shift_rows, inv_shift_rows, mix_columns, inv_mix_columns, add_round_key}
use Rattle.fips197.specs.Cipher.{rounds, inv_rounds, cipher, inv_cipher}

abbrev pub middle : List (List ℕ) → List ℕ → List ℕ
middle [] s = s
middle (w ∷ ws) s = middle ws (add_round_key w (mix_columns (shift_rows (sub_bytes s))))

rounds_are : (ws : List (List ℕ)) (last s : List ℕ) → rounds (ws ++ last ∷ []) s ≡ add_round_key last (shift_rows (sub_bytes (middle ws s)))
unfolding rounds
rounds_are [] last s = refl
rounds_are (w ∷ []) last s = refl
rounds_are (w ∷ v ∷ ws) last s = rounds_are (v ∷ ws) last (add_round_key w (mix_columns (shift_rows (sub_bytes s))))

pub cipher_is : (first last : List ℕ) (ws : List (List ℕ)) (s : List ℕ)
    → cipher (first ∷ ws ++ last ∷ []) s ≡ add_round_key last (shift_rows (sub_bytes (middle ws (add_round_key first s))))
unfolding cipher
cipher_is first last ws s = rounds_are ws last (add_round_key first s)

-- .. and backwards, the last round key first
abbrev pub inv_middle : List (List ℕ) → List ℕ → List ℕ
inv_middle [] s = s
inv_middle (w ∷ ws) s = inv_mix_columns (add_round_key w (inv_sub_bytes (inv_shift_rows (inv_middle ws s))))

pub inv_middle-push : (ws : List (List ℕ)) (w s : List ℕ)
    → inv_middle (ws ++ w ∷ []) s ≡ inv_middle ws (inv_mix_columns (add_round_key w (inv_sub_bytes (inv_shift_rows s))))
inv_middle-push [] w s = refl
inv_middle-push (v ∷ ws) w s = ap (λ (x : List ℕ). inv_mix_columns (add_round_key v (inv_sub_bytes (inv_shift_rows x)))) (inv_middle-push ws w s)

inv_rounds_are : (ws : List (List ℕ)) (last s : List ℕ) → inv_rounds (ws ++ last ∷ []) s ≡ inv_middle ws (add_round_key last s)
unfolding inv_rounds
inv_rounds_are [] last s = refl
inv_rounds_are (w ∷ []) last s = refl
inv_rounds_are (w ∷ v ∷ ws) last s =
    ap (λ (x : List ℕ). inv_mix_columns (add_round_key w (inv_sub_bytes (inv_shift_rows x)))) (inv_rounds_are (v ∷ ws) last s)

pub inv_cipher_is : (first last : List ℕ) (ws : List (List ℕ)) (s : List ℕ)
    → inv_cipher (first ∷ ws ++ last ∷ []) s ≡ add_round_key first (inv_sub_bytes (inv_shift_rows (inv_middle ws (add_round_key last s))))
unfolding inv_cipher
inv_cipher_is first last ws s = ap (λ (x : List ℕ). add_round_key first (inv_sub_bytes (inv_shift_rows x))) (inv_rounds_are ws last s)
