-- That a request written as a line is read back.
use Rattle.std.proofs.Common.{◌≡◌, ℕ, ◌/◌, ◌%◌, ◌<◌, true, false, List, [], ◌∷◌, ◌++◌, Some, None, Ok, codes, Option, sym, refl, ap, ◌∙◌, ⊎_elim, append-nil, arith}
use Rattle.std.specs.Option.{ok_or}
use Rattle.std.specs.List.{AllByRecursion}
use Rattle.std.specs.Str.{bytes_eq}
use Rattle.std.proofs.lemmas.Slice.Eq.{bytes_eq-Decides}
use Rattle.std.proofs.lemmas.Bool.{cond-true, cond-false, cases_Bool}
use Rattle.std.proofs.lemmas.Bool.Decides.{nat_tests}
use Rattle.lines.specs.declared.fault.Field.{Field}
use Rattle.lines.specs.declared.fault.Field.TheVariants.{Key, Header, Message, Tag, Ciphertext}
use Rattle.lines.specs.Answers.{and_then}
use Rattle.lines.specs.Blanks.{blank, parted, prefixed, fields}
use Rattle.lines.specs.Hex.{Bytes, symbol_of, digits, encoded, decoded, hex_fault, reading}
use Rattle.lines.specs.Laws.{HeaderBytes, header_text, wrap_text, unwrap_text, WrapsReadBack, UnwrapsReadBack}
use Rattle.lines.specs.Lines.{header_reading, wrap_fields, unwrap_fields}
use Rattle.lines.proofs.Answering.{header_read}
use Rattle.lines.proofs.Encoding.{reads_back}

-- a field: some bytes, and no blank among them
abbrev Solid : List ℕ → Type 0
Solid [] = ⊥
Solid (c ∷ cs) = AllByRecursion (λ d. blank d ≡ false) (c ∷ cs)

fields_solid : (c : ℕ) (cs rest : List ℕ) → Solid (c ∷ cs) → parted rest ≡ true → fields ((c ∷ cs) ++ rest) ≡ (c ∷ cs) ∷ fields rest
fields_solid c [] rest h p = cond-false _ _ _ h.0 ∙ cond-true _ _ _ p
fields_solid c (d ∷ ds) rest h p = cond-false _ _ _ h.0 ∙ cond-false _ _ _ h.1.0 ∙ ap (prefixed c) (fields_solid d ds rest h.1 p)

field_then : (f rest : List ℕ) → Solid f → fields (f ++ 32 ∷ rest) ≡ f ∷ fields rest
field_then [] rest h = absurd h
field_then (c ∷ cs) rest h = fields_solid c cs (32 ∷ rest) h refl

field_last : (f : List ℕ) → Solid f → fields f ≡ f ∷ []
field_last [] h = absurd h
field_last (c ∷ cs) h = ap fields (sym (append-nil (c ∷ cs))) ∙ fields_solid c cs [] h refl

symbol_no_blank : (d : ℕ) → d < 16 → blank (symbol_of d) ≡ false
symbol_no_blank d h = grind (arith, nat_tests)

digits_no_blank : (bs : List ℕ) → Bytes bs → AllByRecursion (λ d. blank d ≡ false) (digits bs)
digits_no_blank [] h = tt
digits_no_blank (b ∷ bs) h =
    let b-byte : b < 256 = h.0 in
    (symbol_no_blank (b / 16) (omega arith), (symbol_no_blank (b % 16) (omega arith), digits_no_blank bs h.1))

encoded_solid : (bs : List ℕ) → Bytes bs → Solid (encoded bs)
encoded_solid [] h = (refl, tt)
encoded_solid (b ∷ bs) h = digits_no_blank (b ∷ bs) h

header_solid : (o : Option (List ℕ)) → HeaderBytes o → Solid (header_text o)
header_solid None h = (refl, (refl, (refl, (refl, (refl, (refl, tt))))))
header_solid (Some bs) h = encoded_solid bs h

reading-encoded : (field : Field) (bs : List ℕ) → Bytes bs → reading field (encoded bs) ≡ Ok bs
reading-encoded field bs h = ap (λ o. ok_or o (hex_fault field (encoded bs))) (reads_back bs h)

-- The word `absent` is no hex.
encoded_there : (bs : List ℕ) → Bytes bs → bytes_eq (encoded bs) (codes "absent") ≡ false
encoded_there bs h =
    ⊎_elim
    (λ t.
    let e = (bytes_eq-Decides (encoded bs) (codes "absent")).0 t in
    let no_bytes : ◌≡◌ {A = Option (List ℕ)} None (Some bs) = ap decoded (sym e) ∙ reads_back bs h in
    let never : ◌≡◌ {A = ℕ} 0 1 = cc in
    absurd (omega arith))
    (λ f. f)
    (cases_Bool (bytes_eq (encoded bs) (codes "absent")))

reading_header : (o : Option (List ℕ)) → HeaderBytes o → header_reading (header_text o) ≡ Ok o
reading_header None h = refl
reading_header (Some bs) h = header_read (encoded bs) bs (encoded_there bs h) (reading-encoded Header bs h)

pub wraps_read_back : WrapsReadBack
wraps_read_back w k h m =
    let K = encoded w.key in
    let H = header_text w.header in
    let M = encoded w.message in
    let three : fields (wrap_text w) ≡ K ∷ H ∷ M ∷ [] =
    field_then K (H ++ 32 ∷ M) (encoded_solid w.key k)
    ∙ ap (λ fs. K ∷ fs) (field_then H M (header_solid w.header h) ∙ ap (λ fs. H ∷ fs) (field_last M (encoded_solid w.message m))) in
    ap wrap_fields three
    ∙ (λ i.
    and_then (reading-encoded Key w.key k i) (λ key.
    and_then (reading_header w.header h i) (λ header.
    and_then (reading-encoded Message w.message m i) (λ message.
    Ok (record { key = key; header = header; message = message })))))

pub unwraps_read_back : UnwrapsReadBack
unwraps_read_back u k h t c =
    let K = encoded u.key in
    let H = header_text u.header in
    let G = encoded u.tag in
    let C = encoded u.ciphertext in
    let four : fields (unwrap_text u) ≡ K ∷ H ∷ G ∷ C ∷ [] =
    field_then K (H ++ 32 ∷ (G ++ 32 ∷ C)) (encoded_solid u.key k)
    ∙ ap (λ fs. K ∷ fs) (field_then H (G ++ 32 ∷ C) (header_solid u.header h)
    ∙ ap (λ fs. H ∷ fs) (field_then G C (encoded_solid u.tag t)
    ∙ ap (λ fs. G ∷ fs) (field_last C (encoded_solid u.ciphertext c)))) in
    ap unwrap_fields four
    ∙ (λ i.
    and_then (reading-encoded Key u.key k i) (λ key.
    and_then (reading_header u.header h i) (λ header.
    and_then (reading-encoded Tag u.tag t i) (λ tag.
    and_then (reading-encoded Ciphertext u.ciphertext c i) (λ ciphertext.
    Ok (record { key = key; header = header; tag = tag; ciphertext = ciphertext }))))))
