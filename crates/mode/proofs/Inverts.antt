-- Opening undoes sealing, and nothing else opens.
use Rattle.std.proofs.Common.{◌≡◌, ℕ, ◌^◌, ◌<◌, cond, eqb, List, Some, None, Option, sym, refl, ap, ◌∙◌, ap₂, eq-eqb, eqb-true}
use Rattle.std.proofs.lemmas.Option.{cond_some, none-some}
use Rattle.mode.specs.Hash.{hash}
use Rattle.mode.specs.Sealing.{Sealed, sealed_by, opened_by, sealed, opened}
use Rattle.mode.specs.Stream.{streamed}
use Rattle.mode.specs.Theorems.{Inverses}
use Rattle.mode.proofs.Hashes.{hash_lt}
use Rattle.mode.proofs.Streams.{streamed_twice}

module _ (l : ℕ) (e d : ℕ → ℕ) (h : Option (List ℕ)) where
  -- what is opened from a start s and what the stream gives
  judged : ℕ → List ℕ → Option (List ℕ)
  judged s m = cond (eqb (hash l h m) s) (Some m) None

  opens_by : (m : List ℕ) → d (e (hash l h m)) ≡ hash l h m → opened_by l e d h (sealed_by l e h m) ≡ Some m
  unfolding opened_by sealed_by judged
  opens_by m undone =
      ap (λ (s : ℕ). judged s (streamed e s (streamed e (hash l h m) m))) undone
      ∙ ap (judged (hash l h m)) (streamed_twice e (hash l h m) m)
      ∙ ap (λ b. cond b (Some m) None) (eq-eqb (hash l h m) (hash l h m) refl)

  some_only : (s : ℕ) (n m : List ℕ) → judged s n ≡ Some m → (hash l h n ≡ s) × (n ≡ m)
  unfolding judged
  some_only s n m some =
      let found = cond_some (eqb (hash l h n) s) n m some in
      (eqb-true (hash l h n) s found.0, found.1)

  reseals_by : (c : Sealed) (m : List ℕ) → e (d c.tag) ≡ c.tag → opened_by l e d h c ≡ Some m → sealed_by l e h m ≡ c
  unfolding opened_by sealed_by judged
  reseals_by c m undone some =
      let found = some_only (d c.tag) (streamed e (d c.tag) c.text) m some in
      let start : hash l h m ≡ d c.tag = ap (hash l h) (sym found.1) ∙ found.0 in
      ap₂ (λ (t : ℕ) (x : List ℕ). record { tag = t; text = x })
      (ap e start ∙ undone)
      (ap (λ (s : ℕ). streamed e s m) start ∙ ap (streamed e (d c.tag)) (sym found.1) ∙ streamed_twice e (d c.tag) c.text)

none_or_some : (o : Option (List ℕ)) → ((m : List ℕ) → o ≡ Some m → ⊥) → o ≡ None
none_or_some None no_one = refl
none_or_some (Some m) no_one = absurd (no_one m refl)

pub inverses : Inverses
inverses s k h law key =
    record {
      opens = opens;
      reseals = reseals;
      one = λ m n same. let p = opens m in let q = opens n in let r = ap (opened s k h) same in cc;
      refused = λ c none m seals. none-some m (sym none ∙ ap (opened s k h) (sym seals) ∙ opens m);
      refuses = λ c block no_one. none_or_some (opened s k h c) (λ m some. no_one m (reseals c m block some));
    }
  where
    opens : (m : List ℕ) → opened s k h (sealed s k h m) ≡ Some m
    opens m = opens_by (s.enc k 0) (s.enc k) (s.dec k) h m (law.dec_enc k (hash (s.enc k 0) h m) key (hash_lt (s.enc k 0) h m))

    reseals : (c : Sealed) (m : List ℕ) → c.tag < 2 ^ 128 → opened s k h c ≡ Some m → sealed s k h m ≡ c
    reseals c m block some = reseals_by (s.enc k 0) (s.enc k) (s.dec k) h c m (law.enc_dec k c.tag key block) some
