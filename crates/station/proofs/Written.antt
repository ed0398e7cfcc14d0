-- What sealing leaves in the output: the frame that was written, with the tag and the ciphertext put into it.
use Rattle.std.proofs.Common.{◌≡◌, ℕ, ◌+◌, ◌-◌, List, [], ◌∷◌, ◌++◌, length, take, drop, Ok, Some, sym, ap, ◌∙◌, ap₂, append_assoc, arith, length-append}
use borrow.Rule.Slice.PartMut.{put_mid}
use Rattle.std.proofs.lemmas.List.{append-nil, drop_all, drop_at, take_at}
use Rattle.block.specs.Bytes.{bytes}
use Rattle.mode.specs.Sealing.{Keys, Sealed, pair, sealed_with}
use Rattle.telegram.specs.declared.parts.Places.{Places}
use Rattle.telegram.specs.Calls.{around, framing, roomy}
use Rattle.telegram.specs.Format.{Parts, two, written}
use Rattle.telegram.specs.Header.{Heading, header_bytes}
use Rattle.telegram.specs.Places.{layout}
use Rattle.station.specs.Steps.{telegram_under}
use Rattle.station.proofs.Telling.{past_one}

-- ---- the bytes before the tag

abbrev before : Parts → List ℕ
before p = 1 ∷ (two (length p.header) ++ (p.header ++ two (length p.ciphertext)))

split : (p : Parts) → written p ≡ before p ++ (p.tag ++ p.ciphertext)
split p = ap (λ (rest : List ℕ). 1 ∷ (two (length p.header) ++ rest)) (sym (append_assoc p.header (two (length p.ciphertext)) (p.tag ++ p.ciphertext)))

before_long : (p : Parts) → length (before p) ≡ 5 + length p.header
before_long p = simp length-append (omega arith)

-- ---- a telegram's front, which ends with the tag

module _ (p : Parts) (tag_long : length p.tag ≡ 16) where
  abbrev front : List ℕ
  front = take (21 + length p.header) (written p)

  front_is : front ≡ before p ++ p.tag
  front_is =
      ap (take (21 + length p.header)) (split p ∙ sym (append_assoc (before p) p.tag p.ciphertext))
      ∙ take_at (before p ++ p.tag) p.ciphertext (21 + length p.header) (length-append (before p) p.tag ∙ (let n = before_long p in omega arith))

  pub header_there : take (3 + length p.header - 3) (drop 3 front) ≡ p.header
  header_there =
      ap (λ x. take (3 + length p.header - 3) (drop 3 x)) front_is
      ∙ ap (take (3 + length p.header - 3)) (append_assoc p.header (two (length p.ciphertext)) p.tag)
      ∙ take_at p.header (two (length p.ciphertext) ++ p.tag) (3 + length p.header - 3) (omega arith)

  -- another tag put into it, and another ciphertext behind it
  pub replaced : (tag text : List ℕ) → length text ≡ length p.ciphertext
      → put_mid (5 + length p.header) (21 + length p.header - (5 + length p.header)) front tag ++ text ≡ written (record { header = p.header; tag = tag; ciphertext = text })
  replaced tag text long =
      let n = 5 + length p.header in
      let k = 21 + length p.header - n in
      let behind : drop n front ≡ p.tag = ap (drop n) front_is ∙ drop_at (before p) p.tag n (before_long p) in
      let none : drop k (drop n front) ≡ [] = ap (drop k) behind ∙ drop_all k p.tag (omega arith) in
      let kept : take n front ≡ before p = ap (take n) front_is ∙ take_at (before p) p.tag n (before_long p) in
      ap₂ (λ x y. (x ++ (tag ++ y)) ++ text) kept none
      ∙ ap (λ y. (before p ++ y) ++ text) (append-nil tag)
      ∙ append_assoc (before p) tag text
      ∙ ap (λ (m : ℕ). (1 ∷ (two (length p.header) ++ (p.header ++ two m))) ++ (tag ++ text)) (sym long)
      ∙ sym (split (record { header = p.header; tag = tag; ciphertext = text }))

-- ---- a frame that was written

framed : (h : Heading) (out b : List ℕ) → framing h out ≡ Ok b → b ≡ written (around h out)
framed h out b = past_one (written (around h out)) (roomy (length (header_bytes h)) (length out)) b

-- what was sealed in its place
pub telegram_written : (k : Keys) (h : Heading) (message out b : List ℕ) (at : Places) (t : ℕ) (front text : List ℕ)
    → length (around h out).tag ≡ 16 → length text ≡ length (around h out).ciphertext
    → framing h out ≡ Ok b → at ≡ layout (length (header_bytes h)) (length (around h out).ciphertext)
    → front ≡ take at.tag.end b
    → pair t text ≡ sealed_with k (Some (take (at.header.end - at.header.start) (drop at.header.start front))) message
    → put_mid at.tag.start (at.tag.end - at.tag.start) front (bytes 16 t) ++ text ≡ telegram_under k h message
telegram_written k h message out b at t front text tag_long text_long frames lies is seals =
    let p = around h out in
    let same : front ≡ take (21 + length p.header) (written p) = is ∙ ap₂ (λ (q : Places) x. take q.tag.end x) lies (framed h out b frames) in
    let sealed : pair t text ≡ sealed_with k (Some p.header) message =
    seals ∙ ap₂ (λ (q : Places) x. sealed_with k (Some (take (q.header.end - q.header.start) (drop q.header.start x))) message) lies same
    ∙ ap (λ x. sealed_with k (Some x) message) (header_there p tag_long) in
    ap₂ (λ (q : Places) x. put_mid q.tag.start (q.tag.end - q.tag.start) x (bytes 16 t) ++ text) lies same
    ∙ replaced p tag_long (bytes 16 t) text text_long
    ∙ ap (λ (s : Sealed). written (record { header = p.header; tag = bytes 16 s.tag; ciphertext = s.text })) sealed
