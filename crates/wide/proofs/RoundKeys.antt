-- The keys of the rounds, as the chunks of the key.
use Rattle.std.proofs.Common.{◌≡◌, ℕ, zero, suc, ◌+◌, ◌*◌, ◌/◌, List, ◌∷◌, length, map, drop, refl, ap, ◌∙◌, arith}
use Rattle.std.specs.List.{range_with_len}
use Rattle.std.specs.Simd.{first_chunks}
use Rattle.std.proofs.lemmas.List.{drop-drop}
use Rattle.half_cipher.specs.Rounds.{keys_of}
use Rattle.wide.specs.Wide.{pair_of, subkey}

-- n subkeys, from the one at place i on
subkeys : (n i : ℕ) (k : List ℕ) → first_chunks 16 n (drop (16 * i) k) ≡ map (subkey k) (range_with_len i n)
subkeys zero i k = refl
subkeys (suc n) i k =
    let next : 16 * i + 16 ≡ 16 * (i + 1) = omega arith in
    ap (λ (rest : List ℕ). subkey k i ∷ first_chunks 16 n rest) (drop-drop 16 (16 * i) k ∙ ap (λ (j : ℕ). drop j k) next)
    ∙ ap (λ (rest : List (List ℕ)). subkey k i ∷ rest) (subkeys n (i + 1) k)

-- by sixteens, and then by twos
pub pairs : (k : List ℕ) (halves : List (List ℕ)) → length k ≡ 192 → halves ≡ first_chunks 16 (length k / 16) k → length halves ≡ length k / 16
    → first_chunks 2 (length halves / 2) halves ≡ keys_of (pair_of k) 6
unfolding keys_of
pairs k halves long e count =
    ap (λ (n : ℕ). first_chunks 2 (n / 2) halves) (count ∙ ap (λ (n : ℕ). n / 16) long)
    ∙ ap (first_chunks 2 6) (e ∙ ap (λ (n : ℕ). first_chunks 16 (n / 16) k) long ∙ subkeys 12 0 k)
