-- The laws of the wide cipher, from Feistel's shape alone: e has only to take halves to halves.
use Rattle.std.specs.Prelude.{◌≡◌, List, ℕ, ◌+◌, ◌*◌, ◌^◌, ◌<◌, length, drop}
use Rattle.std.proofs.Common.{sym, ap, subst, ◌∙◌, arith, lit≤, length-drop, length-take-le, get_or-take, get_or-drop}
use Rattle.std.proofs.lemmas.Nat.{xor_lt}
use Rattle.block.specs.Bytes.{AllBytes}
use Rattle.block.proofs.Laws.{xor_twice}
use Rattle.cipher.specs.Scheme.{IsKey, Lawful}
use Rattle.half_cipher.specs.Maps.{IsHalfKey}
use Rattle.half_cipher.specs.PairsLemmas.{Parts, forward_lt, backward_lt, backward_forward, forward_backward}
use Rattle.wide.specs.Wide.{subkey, mixed, round, unround, wide}

-- two halves
abbrev AreHalves : ℕ × ℕ → Type 0
AreHalves p = Parts 64 p

-- ---- the twelve keys

subkey_is : (e : List ℕ → ℕ → ℕ) (k : List ℕ) → IsKey (wide e) k → (i : ℕ) → i < 12 → IsHalfKey (subkey k i)
subkey_is e k key i h = record { long = long; all = all }
  where
    long : length (subkey k i) ≡ 16
    long = length-take-le 16 (drop (16 * i) k) (simp length-drop (omega (arith, key.long)))

    all : AllBytes (subkey k i)
    all j l =
        let within : j < 16 = omega (arith, long) in
        subst (λ (b : ℕ). b < 256) (sym (get_or-take 16 (drop (16 * i) k) j 0 within ∙ get_or-drop (16 * i) k j 0))
        (key.all (16 * i + j) (omega (arith, key.long)))

module _ (e : List ℕ → ℕ → ℕ) (e-half : (k : List ℕ) (x : ℕ) → IsHalfKey k → x < 2 ^ 64 → e k x < 2 ^ 64) where
  module _ (k : List ℕ) (key : IsKey (wide e) k) where
    mixed_lt : (i : ℕ) → i < 6 → (b : ℕ) → b < 2 ^ 64 → mixed e k i b < 2 ^ 64
    mixed_lt i h b hb =
        xor_lt 64 _ _ (e-half (subkey k (2 * i)) b (subkey_is e k key (2 * i) (omega arith)) hb)
        (e-half (subkey k (2 * i + 1)) b (subkey_is e k key (2 * i + 1) (omega arith)) hb)

    round_halves : (i : ℕ) → i < 6 → (p : ℕ × ℕ) → AreHalves p → AreHalves (round e k i p)
    round_halves i h p hp = (hp.1, xor_lt 64 p.0 (mixed e k i p.1) hp.0 (mixed_lt i h p.1 hp.1))

    unround_halves : (i : ℕ) → i < 6 → (p : ℕ × ℕ) → AreHalves p → AreHalves (unround e k i p)
    unround_halves i h p hp = (xor_lt 64 p.1 (mixed e k i p.0) hp.1 (mixed_lt i h p.0 hp.0), hp.0)

    round_undone : (i : ℕ) → i < 6 → (p : ℕ × ℕ) → AreHalves p → unround e k i (round e k i p) ≡ p
    round_undone i h p hp = ap (λ (a : ℕ). (a, p.1)) (xor_twice p.0 (mixed e k i p.1))

    round_redone : (i : ℕ) → i < 6 → (p : ℕ × ℕ) → AreHalves p → round e k i (unround e k i p) ≡ p
    round_redone i h p hp = ap (λ (b : ℕ). (p.0, b)) (xor_twice p.1 (mixed e k i p.0))

  pub wide_lawful : Lawful (wide e)
  wide_lawful =
      record {
        some = lit≤ tt;
        few = lit≤ tt;
        enc_block = λ k x key. forward_lt 64 6 (round e k) (unround e k) (round_halves k key) x;
        dec_block = λ k y key. backward_lt 64 6 (round e k) (unround e k) (unround_halves k key) y;
        dec_enc = λ k x key. backward_forward 64 6 (round e k) (unround e k) (round_halves k key) (round_undone k key) x;
        enc_dec = λ k y key. forward_backward 64 6 (round e k) (unround e k) (unround_halves k key) (round_redone k key) y;
      }
