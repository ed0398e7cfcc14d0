-- AES-128: Cipher and InvCipher under the round keys of a key.
use Rattle.std.specs.Prelude.{ℕ, List, [], ◌∷◌}
use Rattle.fips197.specs.KeyExpansion.{round_keys_of}
use Rattle.fips197.specs.State.{sub_bytes, inv_sub_bytes, shift_rows, inv_shift_rows, mix_columns, inv_mix_columns, add_round_key}

-- the rounds after the first round key is added; the last has no mixColumns
unfoldable pub rounds : List (List ℕ) → List ℕ → List ℕ
rounds [] s = s
rounds (w ∷ []) s = add_round_key w (shift_rows (sub_bytes s))
rounds (w ∷ v ∷ ws) s = rounds (v ∷ ws) (add_round_key w (mix_columns (shift_rows (sub_bytes s))))

unfoldable pub cipher : List (List ℕ) → List ℕ → List ℕ
cipher [] s = s
cipher (w ∷ ws) s = rounds ws (add_round_key w s)

-- from the last round key back to the second
unfoldable pub inv_rounds : List (List ℕ) → List ℕ → List ℕ
inv_rounds [] s = s
inv_rounds (w ∷ []) s = add_round_key w s
inv_rounds (w ∷ v ∷ ws) s = inv_mix_columns (add_round_key w (inv_sub_bytes (inv_shift_rows (inv_rounds (v ∷ ws) s))))

unfoldable pub inv_cipher : List (List ℕ) → List ℕ → List ℕ
inv_cipher [] s = s
inv_cipher (w ∷ ws) s = add_round_key w (inv_sub_bytes (inv_shift_rows (inv_rounds ws s)))

unfoldable pub encrypt : List ℕ → List ℕ → List ℕ
encrypt key s = cipher (round_keys_of key) s

unfoldable pub decrypt : List ℕ → List ℕ → List ℕ
decrypt key s = inv_cipher (round_keys_of key) s
