-- The round keys as columns: the first, those of the middle rounds, and the last.
use Rattle.std.proofs.Common.{◌≡◌, ℕ, List, [], ◌∷◌, ◌++◌, map, length, get_or, take, drop, sym, ap, ◌∙◌, arith}
use Rattle.std.proofs.lemmas.List.{drop_more, drop_all, drop-drop, map-append, take-append-drop}
use Rattle.fips197.specs.Cipher.{cipher, inv_cipher}
use Rattle.fips197.specs.State.{sub_bytes, inv_sub_bytes, shift_rows, inv_shift_rows, add_round_key}
use Rattle.fips197.proofs.Rounds.{middle, inv_middle, cipher_is, inv_cipher_is}
use Rattle.aes.specs.declared.columns.Columns.{Columns}
use Rattle.aes.specs.Columns.{state_of}

module _ (w : List Columns) (long : length w ≡ 11) where
  abbrev key : ℕ → Columns
  key i = get_or w i (record { 0 = [] })

  abbrev between : List Columns
  between = take 9 (drop 1 w)

  from_first : w ≡ key 0 ∷ between ++ drop 10 w
  from_first =
      drop_more w 0 (record { 0 = [] }) (omega arith)
      ∙ ap (λ (v : List Columns). key 0 ∷ v) (sym (take-append-drop 9 (drop 1 w)) ∙ ap (λ (v : List Columns). between ++ v) (drop-drop 9 1 w))

  to_last : drop 10 w ≡ key 10 ∷ []
  to_last = drop_more w 10 (record { 0 = [] }) (omega arith) ∙ ap (λ (v : List Columns). key 10 ∷ v) (drop_all 11 w (omega arith))

  parts : map state_of w ≡ state_of (key 0) ∷ map state_of between ++ state_of (key 10) ∷ []
  parts =
      ap (map state_of) (from_first ∙ ap (λ (v : List Columns). key 0 ∷ between ++ v) to_last)
      ∙ ap (λ (v : List (List ℕ)). state_of (key 0) ∷ v) (map-append state_of between (key 10 ∷ []))

  pub cipher_of : (s t : List ℕ) → t ≡ middle (map state_of between) (add_round_key (state_of (key 0)) s)
      → add_round_key (state_of (key 10)) (shift_rows (sub_bytes t)) ≡ cipher (map state_of w) s
  cipher_of s t e =
      ap (λ (x : List ℕ). add_round_key (state_of (key 10)) (shift_rows (sub_bytes x))) e
      ∙ sym (ap (λ (v : List (List ℕ)). cipher v s) parts ∙ cipher_is (state_of (key 0)) (state_of (key 10)) (map state_of between) s)

  pub inv_cipher_of : (s t : List ℕ) → t ≡ inv_middle (map state_of between) (add_round_key (state_of (key 10)) s)
      → add_round_key (state_of (key 0)) (inv_sub_bytes (inv_shift_rows t)) ≡ inv_cipher (map state_of w) s
  inv_cipher_of s t e =
      ap (λ (x : List ℕ). add_round_key (state_of (key 0)) (inv_sub_bytes (inv_shift_rows x))) e
      ∙ sym (ap (λ (v : List (List ℕ)). inv_cipher v s) parts ∙ inv_cipher_is (state_of (key 0)) (state_of (key 10)) (map state_of between) s)
