-- What wrap and unwrap promise, from the laws of sealing and opening.
use Rattle.std.proofs.Common.{◌≡◌, ℕ, ◌^◌, ◌<◌, true, cond, eqb, List, length, Some, None, Option, sym, refl, ap, ◌∙◌, ap₂, arith}
use Rattle.std.proofs.lemmas.Bool.Decides.{nat_tests}
use Rattle.block.specs.Bytes.{AllBytes, spelled, bytes}
use Rattle.block.proofs.Spelling.{spelled-bytes, spelled_block}
use Rattle.cipher.specs.declared.Cipher as Cipher
use Rattle.cipher.specs.Scheme.{Scheme, IsKey, Lawful}
use Rattle.mode.specs.Hash.{hash}
use Rattle.mode.specs.Keys.{KeyedParts, held}
use Rattle.mode.specs.Sealing.{Sealed, pair, sealed_by, sealed, opened, sealed_with, opened_with}
use Rattle.mode.proofs.Hashes.{hash_lt}
use Rattle.mode.proofs.Inverts.{inverses}
use Rattle.multiplier.specs.declared.Multiplier as Multiplier
use Rattle.seal.specs.declared.fault.SealFault.TheVariants.{Size, Mismatch}
use Rattle.seal.specs.Answers.{refusal}
use Rattle.seal.specs.Sizes.{message_sized, sized}
use Rattle.seal.specs.Wrapping.{cleared, given, accepted, left, verdict, Wrapped, Unwrapped}

-- once a key is loaded, it is what is held, with its hash key
loaded : {C M : Type 0} {cs : Cipher.Ghosts C} {ms : Multiplier.Ghosts M} {k : List ℕ} {c c' : C} {m m' : M}
    → KeyedParts cs ms true k c m c' m' → held cs ms c' m' ≡ record { scheme = cs.scheme c; key = k; hash_key = (cs.scheme c).enc k 0 }
loaded load = let scheme = load.scheme in let key = load.key refl in let hash_key = load.hash_key refl in cc

pub seals_held : {C M : Type 0} {cs : Cipher.Ghosts C} {ms : Multiplier.Ghosts M} {k : List ℕ} {c c' : C} {m m' : M} {s : Sealed} (h : Option (List ℕ)) (x : List ℕ)
    → KeyedParts cs ms true k c m c' m' → s ≡ sealed_with (held cs ms c' m') h x → s ≡ sealed (cs.scheme c) k h x
seals_held h x load seals = seals ∙ ap (λ k. sealed_with k h x) (loaded load)

pub opens_held : {C M : Type 0} {cs : Cipher.Ghosts C} {ms : Multiplier.Ghosts M} {k : List ℕ} {c c' : C} {m m' : M} {a : ℕ} {o : Option (List ℕ)} (h : Option (List ℕ)) (t x : List ℕ)
    → KeyedParts cs ms true k c m c' m' → a ≡ spelled t → o ≡ opened_with (held cs ms c' m') h (pair a x) → opened (cs.scheme c) k h (given t x) ≡ o
opens_held h t x load tag opens = sym (opens ∙ ap₂ (λ k a. opened_with k h (pair a x)) (loaded load) tag)

module _ (s : Scheme) (k : List ℕ) (h : Option (List ℕ)) (t x : List ℕ) where
  pub past : length t ≡ 16 → message_sized h x ≡ true → eqb (length k) s.key_len ≡ true → sized s k h t x ≡ true
  past tag message key = grind (arith, nat_tests)

  key_long : sized s k h t x ≡ true → length k ≡ s.key_len
  key_long fits = grind (arith, nat_tests)

  tag_long : sized s k h t x ≡ true → length t ≡ 16
  tag_long fits = grind (arith, nat_tests)

  -- past the size test wrap leaves what is sealed, and that opens to the message
  pub wraps : Lawful s → AllBytes k → sized s k h t x ≡ true → {t' x' : List ℕ}
      → t' ≡ bytes 16 (sealed s k h x).tag → x' ≡ (sealed s k h x).text → Wrapped s k h t x 0 t' x'
  unfolding sealed_by
  wraps law all fits {t'} {x'} tag text =
      record {
        answers = ap (λ b. cond b 0 (refusal Size)) (sym fits);
        tag = tag ∙ ap (λ b. cond b (bytes 16 (sealed s k h x).tag) t) (sym fits);
        text = text ∙ ap (λ b. cond b (sealed s k h x).text x) (sym fits);
        opens = λ _. ap₂ (λ a b. opened s k h (pair a b)) (ap spelled tag ∙ spelled-bytes (s.enc k start) block) text ∙ (inverses s k h law key).opens x;
      }
    where
      start : ℕ
      start = hash (s.enc k 0) h x

      key : IsKey s k
      key = record { long = key_long fits; all = all }

      block : s.enc k start < 2 ^ 128
      block = law.enc_block k start key (hash_lt (s.enc k 0) h x)

  -- past the size test what opens decides what unwrap answers and leaves
  left-past : sized s k h t x ≡ true → {o : Option (List ℕ)} → opened s k h (given t x) ≡ o → left (accepted s k h t x) x ≡ left o x
  left-past fits is = ap₂ (λ b o. left (cond b o None) x) fits is

  module _ (law : Lawful s) (keys : AllBytes k) (tags : AllBytes t) (fits : sized s k h t x ≡ true) where
    key : IsKey s k
    key = record { long = key_long fits; all = keys }

    answer_past : (o : Option (List ℕ)) → opened s k h (given t x) ≡ o → verdict o ≡ cond (sized s k h t x) (verdict (opened s k h (given t x))) (refusal Size)
    answer_past o is = sym (ap₂ (λ b o. cond b (verdict o) (refusal Size)) fits is)

    pub unwraps : {m y : List ℕ} → opened s k h (given t x) ≡ Some m → y ≡ m → Unwrapped s k h t x 0 y
    unwraps {m} {y} opens is =
        let law' = inverses s k h law key in
        let reseals : sealed s k h m ≡ given t x = law'.reseals (given t x) m (spelled_block t (tag_long fits) tags) opens in
        record {
          answers = answer_past (Some m) opens;
          leaves = is ∙ sym (left-past fits opens);
          reseals = λ _. ap (sealed s k h) is ∙ reseals;
          only = λ _ n seals. law'.one n m (seals ∙ sym reseals) ∙ sym is;
          refused = λ e n seals. omega arith;
          refuses = λ _ no_one. absurd (no_one m reseals);
        }

    pub refuses : {y : List ℕ} {r : ℕ} → opened s k h (given t x) ≡ None → y ≡ cleared x → r ≡ refusal Mismatch → Unwrapped s k h t x r y
    refuses opens is named =
        record {
          answers = named ∙ answer_past None opens;
          leaves = is ∙ sym (left-past fits opens);
          reseals = λ e. absurd (omega arith);
          only = λ e m seals. absurd (omega arith);
          refused = λ _. (inverses s k h law key).refused (given t x) opens;
          refuses = λ _ no_one. named;
        }
