-- Reading and writing undo each other.
use Rattle.std.proofs.Common.{◌≡◌, ℕ, ◌+◌, ◌/◌, ◌%◌, ◌≤◌, Bool, true, false, cond, List, [], ◌∷◌, ◌++◌, length, get_or, take, drop, Ok, Err, refl, ap, ◌∙◌, sym, subst, ap₂, add-zero, arith, length-append, length-drop}
use Rattle.std.proofs.lemmas.List.{drop_more, drop-drop, drop_at, take_at, get_or-drop, length-take-le, take-append-drop}
use Rattle.std.proofs.lemmas.Nat.{from_be_bytes-to_be_bytes_4}
use Rattle.std.proofs.lemmas.Bool.{cond-true}
use Rattle.std.proofs.lemmas.Bool.Decides.{nat_tests}
use Rattle.telegram.specs.declared.fault.TelegramFault.TheVariants.{Version, Lengths}
use Rattle.telegram.specs.Format.{Parts, Sized, two, written, word, header_length, message_length, other_version, header_sized, lengths_fit, parts, reading}
use Rattle.telegram.specs.Header.{Heading, Fits, four, number, header_bytes, headed, header_reading}
use Rattle.block.specs.Bytes.{AllBytes}

-- ---- what is accepted

-- what passes both tests, with lengths h and m
pub record Passes (b : List ℕ) (h m : ℕ) : Type 0 where
  pub version : get_or b 0 0 ≡ 1
  pub header : header_length b ≡ h
  pub message : word b (3 + h) ≡ m
  pub low : 6 ≤ h
  pub high : h ≤ 1024
  pub short : m ≤ 4096
  pub sum : length b ≡ 21 + h + m

pub accepted : (b : List ℕ) (h m : ℕ) → Passes b h m → reading b ≡ Ok (parts b)
accepted b h m p = grind (arith, nat_tests)

both_passed : {X E : Type 0} (v f : Bool) (e e' : E) (x y : X) → cond v (Err e) (cond f (Ok x) (Err e')) ≡ Ok y → (v ≡ false) × (f ≡ true) × (x ≡ y)
both_passed true f e e' x y is = cc
both_passed false true e e' x y is = (refl, refl, cc)
both_passed false false e e' x y is = cc

pub passed : (b : List ℕ) (p : Parts) → reading b ≡ Ok p → Passes b (header_length b) (message_length b) × (parts b ≡ p)
passed b p is =
    let t = both_passed (other_version b) (lengths_fit b) Version Lengths (parts b) p is in
    let v = t.0 in
    let f = t.1 in (
      record {
        version = grind (arith, nat_tests);
        header = refl;
        message = refl;
        low = grind (arith, nat_tests);
        high = grind (arith, nat_tests);
        short = grind (arith, nat_tests);
        sum = grind (arith, nat_tests);
      },
      t.2,
    )

module _ (b : List ℕ) (h m : ℕ) (sum : length b ≡ 21 + h + m) where
  pub header_long : length (take h (drop 3 b)) ≡ h
  header_long = length-take-le h (drop 3 b) (simp length-drop (omega arith))

  pub tag_long : length (take 16 (drop (5 + h) b)) ≡ 16
  tag_long = length-take-le 16 (drop (5 + h) b) (simp length-drop (omega arith))

  pub ciphertext_long : length (drop (21 + h) b) ≡ m
  ciphertext_long = simp length-drop (omega arith)

pub reads_sized : (b : List ℕ) (p : Parts) → reading b ≡ Ok p → Sized p
reads_sized b p is =
    let ps = (passed b p is).0 in
    let hl = header_long b (header_length b) (message_length b) ps.sum in
    let cl = ciphertext_long b (header_length b) (message_length b) ps.sum in
    subst Sized (passed b p is).1
    (record { header = (omega arith, omega arith); tag = tag_long b (header_length b) (message_length b) ps.sum; ciphertext = omega arith })

-- ---- what is written reads back

pub same_parts : (p q : Parts) → p.header ≡ q.header → p.tag ≡ q.tag → p.ciphertext ≡ q.ciphertext → p ≡ q
same_parts p q e f g =
    ap₂ (λ x y. record { header = x; tag = y; ciphertext = p.ciphertext }) e f
    ∙ ap (λ z. record { header = q.header; tag = q.tag; ciphertext = z }) g

pub reads_back : (p : Parts) → Sized p → reading (written p) ≡ Ok p
reads_back p s = accepted b h m passes ∙ ap Ok (same_parts (parts b) p header_back tag_back ciphertext_back)
  where
    b : List ℕ
    b = written p

    h : ℕ
    h = length p.header

    m : ℕ
    m = length p.ciphertext

    header_is : header_length b ≡ h
    header_is = omega (arith, s.header.1)

    -- what stands behind the header, and behind the message's length
    behind : drop (3 + h) b ≡ two m ++ (p.tag ++ p.ciphertext)
    behind = drop_at (1 ∷ (two h ++ p.header)) (two m ++ (p.tag ++ p.ciphertext)) (3 + h) (omega arith)

    sealed : drop (5 + h) b ≡ p.tag ++ p.ciphertext
    sealed = ap (λ (n : ℕ). drop n b) (omega arith) ∙ sym (drop-drop 2 (3 + h) b) ∙ ap (drop 2) behind

    message_is : word b (3 + h) ≡ m
    message_is =
        let pair : (i : ℕ) → get_or b (3 + h + i) 0 ≡ get_or (two m ++ (p.tag ++ p.ciphertext)) i 0 =
        λ i. sym (get_or-drop (3 + h) b i 0) ∙ ap (λ x. get_or x i 0) behind in
        let hi : get_or b (3 + h) 0 ≡ m / 256 % 256 = simp add-zero at (pair 0) in
        let lo : get_or b (3 + h + 1) 0 ≡ m % 256 = pair 1 in
        omega (arith, s.ciphertext)

    passes : Passes b h m
    passes =
        record {
          version = refl;
          header = header_is;
          message = message_is;
          low = s.header.0;
          high = s.header.1;
          short = s.ciphertext;
          sum = simp length-append (omega (arith, s.tag));
        }

    header_back : take (header_length b) (drop 3 b) ≡ p.header
    header_back = rw header_is (take_at p.header (two m ++ (p.tag ++ p.ciphertext)) h refl)

    tag_back : take 16 (drop (5 + header_length b) b) ≡ p.tag
    tag_back = rw (header_is, sealed) (take_at p.tag p.ciphertext 16 s.tag)

    ciphertext_back : drop (21 + header_length b) b ≡ p.ciphertext
    ciphertext_back = rw header_is (ap (λ (n : ℕ). drop n b) (omega arith) ∙ sym (drop-drop 16 (5 + h) b) ∙ ap (drop 16) sealed ∙ drop_at p.tag p.ciphertext 16 s.tag)

-- ---- what is read is written back

-- n bytes from i on stand before the rest
pub apart : (b : List ℕ) (i n j : ℕ) → i + n ≡ j → take n (drop i b) ++ drop j b ≡ drop i b
apart b i n j e = ap (λ x. take n (drop i b) ++ x) (sym (drop-drop n i b ∙ ap (λ (k : ℕ). drop k b) e)) ∙ take-append-drop n (drop i b)

-- the two bytes from i on spell a number, which is written as they stand
two_there : (b : List ℕ) (i j : ℕ) → AllBytes b → i + 2 ≡ j → j ≤ length b → two (word b i) ++ drop j b ≡ drop i b
two_there b i j all e long =
    let hi = all i (omega arith) in
    let lo = all (i + 1) (omega arith) in
    let next : i + 1 + 1 ≡ j = omega arith in
    let spells : two (word b i) ≡ get_or b i 0 ∷ get_or b (i + 1) 0 ∷ [] = ap₂ (λ x y. x ∷ y ∷ []) (omega arith) (omega arith) in
    let first : drop i b ≡ get_or b i 0 ∷ drop (i + 1) b = drop_more b i 0 (omega arith) in
    let second : drop (i + 1) b ≡ get_or b (i + 1) 0 ∷ drop j b = drop_more b (i + 1) 0 (omega arith) ∙ ap (λ (k : ℕ). get_or b (i + 1) 0 ∷ drop k b) next in
    ap (λ x. x ++ drop j b) spells ∙ cc

pub writes_back : (b : List ℕ) (p : Parts) → AllBytes b → reading b ≡ Ok p → written p ≡ b
writes_back b p all is =
    let h = header_length b in
    let m = message_length b in
    let ps = (passed b p is).0 in
    let first : b ≡ get_or b 0 0 ∷ drop 1 b = drop_more b 0 0 (omega (arith, ps.sum)) in
    let header_len : length (take h (drop 3 b)) ≡ h = header_long b h m ps.sum in
    let message_len : length (drop (21 + h) b) ≡ m = ciphertext_long b h m ps.sum in
    let header_pair : two h ++ drop 3 b ≡ drop 1 b = two_there b 1 3 all refl (omega (arith, ps.sum)) in
    let header : take h (drop 3 b) ++ drop (3 + h) b ≡ drop 3 b = apart b 3 h (3 + h) refl in
    let message_pair : two m ++ drop (5 + h) b ≡ drop (3 + h) b = two_there b (3 + h) (5 + h) all (omega arith) (omega (arith, ps.sum)) in
    let sealed : take 16 (drop (5 + h) b) ++ drop (21 + h) b ≡ drop (5 + h) b = apart b (5 + h) 16 (21 + h) (omega arith) in
    sym (ap written (passed b p is).1) ∙ cc ps.version

-- ---- headers

pub header_reads_back : (h : Heading) → Fits h → header_reading (header_bytes h) ≡ Ok h
header_reads_back h f =
    let short = f.note in
    let fits : header_sized (length (header_bytes h)) ≡ true = grind (arith, nat_tests) in
    let serial : number (header_bytes h) 1 ≡ h.serial = omega (arith, from_be_bytes-to_be_bytes_4 h.serial f.serial) in
    cond-true _ _ _ fits ∙ ap (λ n. Ok (record { gauge = h.gauge; serial = n; kind = h.kind; note = h.note })) serial

-- the four bytes of a serial
four_there : (b : List ℕ) → AllBytes b → 5 ≤ length b → four (number b 1) ++ drop 5 b ≡ drop 1 b
four_there b all long =
    let b1 = all 1 (omega arith) in
    let b2 = all 2 (omega arith) in
    let b3 = all 3 (omega arith) in
    let b4 = all 4 (omega arith) in
    let spells : four (number b 1) ≡ get_or b 1 0 ∷ get_or b 2 0 ∷ get_or b 3 0 ∷ get_or b 4 0 ∷ [] =
    ap₂ ◌∷◌ (omega arith) (ap₂ ◌∷◌ (omega arith) (ap₂ ◌∷◌ (omega arith) (ap₂ ◌∷◌ (omega arith) refl))) in
    let d1 = drop_more b 1 0 (omega arith) in
    let d2 = drop_more b 2 0 (omega arith) in
    let d3 = drop_more b 3 0 (omega arith) in
    let d4 = drop_more b 4 0 (omega arith) in
    ap (λ x. x ++ drop 5 b) spells ∙ cc

pub header_writes_back : (b : List ℕ) (h : Heading) → AllBytes b → header_reading b ≡ Ok h → header_bytes h ≡ b
header_writes_back b h all is =
    let t : (false ≡ false) × (header_sized (length b) ≡ true) × (headed b ≡ h) = both_passed false (header_sized (length b)) Lengths Lengths (headed b) h is in
    let f = t.1 in
    let long : 6 ≤ length b = grind (arith, nat_tests) in
    let first : b ≡ get_or b 0 0 ∷ drop 1 b = drop_more b 0 0 (omega arith) in
    let serial : four (number b 1) ++ drop 5 b ≡ drop 1 b = four_there b all (omega arith) in
    let kind : drop 5 b ≡ get_or b 5 0 ∷ drop 6 b = drop_more b 5 0 (omega arith) in
    sym (ap header_bytes t.2) ∙ cc
