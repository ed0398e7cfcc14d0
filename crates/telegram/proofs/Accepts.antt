-- What is read, from the pieces that the code takes off the buffer.
use Rattle.std.proofs.Common.{◌≡◌, ℕ, ◌+◌, ◌-◌, ◌*◌, ◌≤◌, ◌≢◌, List, length, get_or, take, drop, Ok, Err, sym, ap, ◌∙◌, subst, ap₂, add-zero, arith, length-drop}
use Rattle.std.proofs.lemmas.List.{drop-drop, get_or-drop, take_rest}
use Rattle.std.proofs.lemmas.Slice.{between_to_end}
use Rattle.std.proofs.lemmas.Bool.Decides.{nat_tests}
use Rattle.telegram.specs.declared.fault.TelegramFault.TheVariants.{Lengths}
use Rattle.telegram.specs.declared.parts.Fields.{Fields}
use Rattle.telegram.specs.declared.parts.Places.{Places}
use Rattle.telegram.specs.Calls.{Read, parts_of}
use Rattle.telegram.specs.Format.{Parts, word, header_length, message_length, parts, reading}
use Rattle.telegram.specs.Places.{layout, Lies}
use Rattle.block.specs.Bytes.{AllBytes}
use Rattle.telegram.proofs.Laws.{Passes, accepted, passed, header_long, ciphertext_long, same_parts, writes_back}

-- ---- places

lies_parts : (b : List ℕ) (h m : ℕ) → length b ≡ 21 + h + m
    → Lies b (record { header = take h (drop 3 b); tag = take 16 (drop (5 + h) b); ciphertext = drop (21 + h) b }) (layout h m)
lies_parts b h m sum =
    let header-size : 3 + h - 3 ≡ h = omega arith in
    let tag-size : 21 + h - (5 + h) ≡ 16 = omega arith in
    record {
      places = sym (ap₂ layout (header_long b h m sum) (ciphertext_long b h m sum));
      header = ap (λ (n : ℕ). take n (drop 3 b)) header-size;
      tag = ap (λ (n : ℕ). take n (drop (5 + h) b)) tag-size;
      ciphertext = between_to_end b (21 + h) (21 + h + m) (omega arith);
    }

pub lies_there : (b : List ℕ) (p : Parts) (at : Places) → reading b ≡ Ok p → at ≡ layout (length p.header) (length p.ciphertext) → Lies b p at
lies_there b p at is e =
    let ps = (passed b p is).0 in
    let h = header_length b in
    let m = message_length b in
    let here : Lies b p (layout h m) = subst (λ q. Lies b q (layout h m)) (passed b p is).1 (lies_parts b h m ps.sum) in
    subst (Lies b p) (here.places ∙ sym e) here

-- ---- the parts

module _ (b : List ℕ) (h m : ℕ) (back : List ℕ)
    (version : get_or b 0 0 ≡ 1) (header_is : h ≡ word b 1)
    (back_is : back ≡ drop h (take (length b - 3) (drop 3 b))) (pair : 2 ≤ length back)
    (message-is : m ≡ 256 * get_or back 0 0 + get_or back 1 0) where
  -- what is left behind the header, by its place in b
  behind : back ≡ drop (3 + h) b
  behind = back_is ∙ ap (drop h) (take_rest b 3) ∙ drop-drop h 3 b

  behind_long : length back + (3 + h) ≡ length b
  behind_long =
      let long : length back ≡ length b - (3 + h) = ap length behind ∙ length-drop (3 + h) b in
      omega arith

  message_there : word b (3 + h) ≡ m
  message_there =
      let hi : get_or back 0 0 ≡ get_or b (3 + h) 0 = simp (behind, get_or-drop, add-zero) in
      let lo : get_or back 1 0 ≡ get_or b (3 + h + 1) 0 = simp (behind, get_or-drop) in
      omega arith

  -- the tag and the ciphertext, by their place in b
  sealed_there : take (length back - 2) (drop 2 back) ≡ drop (5 + h) b
  sealed_there = take_rest back 2 ∙ ap (drop 2) behind ∙ drop-drop 2 (3 + h) b ∙ ap (λ (n : ℕ). drop n b) (omega arith)

  sealed_long : length (take (length back - 2) (drop 2 back)) + (5 + h) ≡ length b
  sealed_long = simp (sealed_there, length-drop) (omega (arith, behind_long))

  pub refused : length (take (length back - 2) (drop 2 back)) ≢ 16 + m → reading b ≡ Err Lengths
  refused misfit =
      let there = message_there in
      let long = sealed_long in
      grind (arith, nat_tests)

  pub read : (f : Fields) → AllBytes b → (6 ≤ h) × (h ≤ 1024) → m ≤ 4096 → length (take (length back - 2) (drop 2 back)) ≡ 16 + m
      → f.header.now ≡ take h (take (length b - 3) (drop 3 b))
      → f.tag.now ≡ take 16 (take (length back - 2) (drop 2 back)) → f.ciphertext.now ≡ drop 16 (take (length back - 2) (drop 2 back))
      → f.places ≡ layout h m → Read b f
  read f all sized short fit eh et ec ep =
      let long = sealed_long in
      let passes : Passes b h m =
      record {
        version = version;
        header = sym header_is;
        message = message_there;
        low = sized.0;
        high = sized.1;
        short = short;
        sum = omega arith;
      } in
      let header : take h (drop 3 b) ≡ f.header.now = sym (eh ∙ ap (take h) (take_rest b 3)) in
      let tag : take 16 (drop (5 + h) b) ≡ f.tag.now = sym (et ∙ ap (take 16) sealed_there) in
      let ciphertext : drop (21 + h) b ≡ f.ciphertext.now =
      sym (ec ∙ ap (drop 16) sealed_there ∙ drop-drop 16 (5 + h) b ∙ ap (λ (n : ℕ). drop n b) (omega arith)) in
      let reads : reading b ≡ Ok (parts_of f) =
      accepted b h m passes
      ∙ ap Ok (same_parts (parts b) (parts_of f) (rw (← header_is) header) (rw (← header_is) tag) (rw (← header_is) ciphertext)) in
      let header-size : h ≡ length f.header.now = sym (header_long b h m passes.sum) ∙ ap length header in
      let ciphertext-size : m ≡ length f.ciphertext.now = sym (ciphertext_long b h m passes.sum) ∙ ap length ciphertext in
      record {
        reads = reads;
        lies = lies_there b (parts_of f) f.places reads (ep ∙ ap₂ layout header-size ciphertext-size);
        rewrites = writes_back b (parts_of f) all reads;
      }
