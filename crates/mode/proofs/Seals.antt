-- Sealing and opening, as the code goes about them.
use Rattle.std.proofs.Common.{◌≡◌, ℕ, Bool, cond, eqb, List, Some, None, Option, ap, ◌∙◌, ap₂}
use Rattle.mode.specs.Hash.{hash}
use Rattle.mode.specs.Sealing.{Keys, pair, sealed_by, opened_by, sealed_with, opened_with}
use Rattle.mode.specs.Stream.{streamed}

pub seals_so : (k : Keys) (h : Option (List ℕ)) (m : List ℕ) (s t : ℕ) (x : List ℕ)
    → s ≡ hash k.hash_key h m → t ≡ k.scheme.enc k.key s → x ≡ streamed (k.scheme.enc k.key) s m → pair t x ≡ sealed_with k h m
unfolding sealed_by
seals_so k h m s t x start tag text =
    let e = k.scheme.enc k.key in
    ap₂ pair (tag ∙ ap e start) (text ∙ ap (λ (s : ℕ). streamed e s m) start)

pub opens_so : (k : Keys) (h : Option (List ℕ)) (t : ℕ) (x : List ℕ) (s : ℕ) (m : List ℕ) (r : Bool)
    → s ≡ k.scheme.dec k.key t → m ≡ streamed (k.scheme.enc k.key) s x → r ≡ eqb (hash k.hash_key h m) s
    → cond r (Some m) None ≡ opened_with k h (pair t x)
unfolding opened_by
opens_so k h t x s m r start text matches =
    let l = k.hash_key in
    let e = k.scheme.enc k.key in
    ap (λ b. cond b (Some m) None) matches
    ∙ ap (λ y. cond (eqb (hash l h y) s) (Some y) None) text
    ∙ ap (λ (s : ℕ). cond (eqb (hash l h (streamed e s x)) s) (Some (streamed e s x)) None) start
