-- A text's first field, by where its first byte that is no blank stands, and the first blank after that.
use Rattle.std.proofs.Common.{◌≡◌, ◌<◌, ◌≤◌, ◌+◌, ℕ, zero, suc, Bool, true, false, List, [], ◌∷◌, length, get_or, take, drop, Option, None, Some, MatchOption, refl, sym, ap, ◌∙◌, subst, ⊎_elim, arith}
use Rattle.std.specs.Bool.{MatchBool}
use Rattle.std.specs.List.{AllWithin, HoldsAt}
use Rattle.std.specs.Option.{unwrap_or}
use Rattle.std.proofs.lemmas.Bool.{true≢false, cases_Bool, cond_both, cond-true, cond-false}
use Rattle.std.proofs.lemmas.List.{drop_more, drop_all}
use Rattle.lines.specs.Blanks.{blank, parted, prefixed, fields}

-- a byte that parts fields, and one that stands in a field
abbrev pub Blank : ℕ → Type 0
Blank c = blank c ≡ true

abbrev pub Solid : ℕ → Type 0
Solid c = blank c ≡ false

-- whether all bytes of a text are blanks
abbrev pub Only : List ℕ → Bool → Type 0
Only text r = MatchBool r (AllWithin Blank text 0 (length text)) ((i : ℕ) × (i < length text) × HoldsAt Solid text i)

-- where the first byte with Yes stands in a text, or that all its bytes have No
abbrev pub First : (ℕ → Type 0) → (ℕ → Type 0) → List ℕ → Option ℕ → Type 0
First Yes No text o = MatchOption o (AllWithin No text 0 (length text)) (λ i. (i < length text) × HoldsAt Yes text i × AllWithin No text 0 i)

-- Blanks in front are no part of a field.
fields_past : (text : List ℕ) (i : ℕ) → i ≤ length text → AllWithin Blank text 0 i → fields text ≡ fields (drop i text)
fields_past text zero l h = refl
fields_past [] (suc i) l h = absurd (omega arith)
fields_past (c ∷ cs) (suc i) l h =
    cond-true _ _ _ (h 0 0 (omega arith) (omega arith))
    ∙ fields_past cs i (omega arith) (λ k d low high. h (suc k) d (omega arith) (omega arith))

-- Bytes that are no blanks, up to a blank or the end, are the first field.
fields_word : (text : List ℕ) (i : ℕ) → 0 < i → i ≤ length text → AllWithin Solid text 0 i → parted (drop i text) ≡ true →
    fields text ≡ take i text ∷ fields (drop i text)
fields_word text zero p l h e = absurd (omega arith)
fields_word [] (suc i) p l h e = absurd (omega arith)
fields_word (c ∷ cs) (suc zero) p l h e = cond-false _ _ _ (h 0 0 (omega arith) (omega arith)) ∙ cond-true _ _ _ e
fields_word (c ∷ []) (suc (suc i)) p l h e = absurd (omega arith)
fields_word (c ∷ d ∷ ds) (suc (suc i)) p l h e =
    cond-false _ _ _ (h 0 0 (omega arith) (omega arith))
    ∙ cond-false _ _ _ (h 1 0 (omega arith) (omega arith))
    ∙ ap (prefixed c) (fields_word (d ∷ ds) (suc i) (omega arith) (omega arith) (λ k d low high. h (suc k) d (omega arith) (omega arith)) e)

fields_none : (text : List ℕ) → AllWithin Blank text 0 (length text) → fields text ≡ []
fields_none text h = fields_past text (length text) (omega arith) h ∙ ap fields (drop_all (length text) text (omega arith))

-- Blanks alone have no field.
pub fields_over : (text : List ℕ) (o : Option ℕ) → First Solid Blank text o → o ≡ None → fields text ≡ []
fields_over text o h e = fields_none text (subst (First Solid Blank text) e h)

-- A text that begins with no blank, parted where its first blank was found, or at its end.
fields_first : (text : List ℕ) (o : Option ℕ) → 0 < length text → HoldsAt Solid text 0 → First Blank Solid text o →
    fields text ≡ take (unwrap_or o (length text)) text ∷ fields (drop (unwrap_or o (length text)) text)
fields_first text None l s h = fields_word text (length text) l (omega arith) h (ap parted (drop_all (length text) text (omega arith)))
fields_first text (Some zero) l s h = absurd (true≢false (sym (h.1 0) ∙ s 0))
fields_first text (Some (suc i)) l s h =
    fields_word text (suc i) (omega arith) (omega (arith, h.0)) h.2 (ap parted (drop_more text (suc i) 0 h.0) ∙ h.1 0)

-- The field after the blanks in front, and what stands after it.
pub fields_next : (text field : List ℕ) (p o : Option ℕ) (i : ℕ) → First Solid Blank text p → p ≡ Some i → field ≡ drop i text → First Blank Solid field o →
    fields text ≡ take (unwrap_or o (length field)) field ∷ fields (drop (unwrap_or o (length field)) field)
fields_next text field p o i first is e f =
    let h : First Solid Blank text (Some i) = subst (First Solid Blank text) is first in
    let at : field ≡ get_or text i 0 ∷ drop (i + 1) text = e ∙ drop_more text i 0 h.0 in
    fields_past text i (omega (arith, h.0)) h.2
    ∙ ap fields (sym e)
    ∙ fields_first field o (subst (λ l. 0 < length l) (sym at) (omega arith)) (λ d. ap (λ l. blank (get_or l 0 d)) at ∙ h.1 0) f

prefixed_some : (c : ℕ) (fs : List (List ℕ)) → 0 < length fs → 0 < length (prefixed c fs)
prefixed_some c [] l = absurd (omega arith)
prefixed_some c (f ∷ fs) l = omega arith

start_some : (c : ℕ) (cs : List ℕ) → blank c ≡ false → 0 < length (fields (c ∷ cs))
start_some c [] e = subst (λ fs. 0 < length fs) (sym (cond-false _ _ _ e)) (omega arith)
start_some c (d ∷ ds) e =
    subst (λ fs. 0 < length fs) (sym (cond-false _ _ _ e))
    (cond_both (blank d) ((c ∷ []) ∷ fields (d ∷ ds)) (prefixed c (fields (d ∷ ds))) (λ fs. 0 < length fs)
    (λ t. omega arith) (λ f. prefixed_some c (fields (d ∷ ds)) (start_some d ds f)))

-- A byte that is no blank is in a field.
fields_some : (text : List ℕ) (i : ℕ) → i < length text → HoldsAt Solid text i → 0 < length (fields text)
fields_some [] i l s = absurd (omega arith)
fields_some (c ∷ cs) zero l s = start_some c cs (s 0)
fields_some (c ∷ cs) (suc i) l s = ⊎_elim (λ t. subst (λ fs. 0 < length fs) (sym (cond-true _ _ _ t)) (fields_some cs i (omega arith) s)) (λ f. start_some c cs f) (cases_Bool (blank c))

pub only_blanks : (text : List ℕ) (r : Bool) → Only text r → r ≡ true → fields text ≡ []
only_blanks text true h e = fields_none text h
only_blanks text false h e = absurd (true≢false (sym e))

pub not_only_blanks : (text : List ℕ) (r : Bool) → Only text r → r ≡ false → 0 < length (fields text)
not_only_blanks text true h e = absurd (true≢false e)
not_only_blanks text false h e = fields_some text h.0 h.1 h.2
