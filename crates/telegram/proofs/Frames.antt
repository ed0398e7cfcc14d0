-- What is written, from the pieces that the code puts into the buffer.
use Rattle.std.proofs.Common.{◌≡◌, ℕ, ◌+◌, ◌-◌, ◌^◌, ◌<◌, ◌≤◌, List, ◌∷◌, ◌++◌, length, take, drop, Ok, sym, ap, ◌∙◌, ap₂, arith}
use borrow.Rule.Slice.PartMut.{put_mid, post_of}
use Rattle.std.proofs.lemmas.List.{drop_at, drop-drop, take_at}
use Rattle.std.proofs.lemmas.Bool.Decides.{nat_tests}
use Rattle.telegram.specs.declared.parts.Places.{Places}
use Rattle.telegram.specs.Calls.{around, framing, Framed}
use Rattle.telegram.specs.Format.{Sized, two, written, reading}
use Rattle.telegram.specs.Header.{Heading, header_bytes}
use Rattle.telegram.specs.Places.{layout}
use Rattle.telegram.proofs.Accepts.{lies_there}
use Rattle.telegram.proofs.Laws.{tag_long, ciphertext_long, apart, reads_back, header_reads_back}

-- ---- a frame

-- out is written over: the version with the header's length, the header behind it, and then the message's length
abbrev pub put_frame : List ℕ → Places → (front middle pair : List ℕ) → List ℕ
put_frame out at front middle pair =
    put_mid at.header.end (at.tag.start - at.header.end) (put_mid 3 (at.header.end - 3) (front ++ post_of 0 3 out) middle) pair

frame_put : (out header : List ℕ) (n m : ℕ) → length header ≡ n
    → put_frame out (layout n m) (1 ∷ two n) header (two m) ≡ 1 ∷ (two n ++ (header ++ (two m ++ drop (5 + n) out)))
frame_put out header n m long =
    let header-size : 3 + n - 3 ≡ n = omega arith in
    let pair_size : 5 + n - (3 + n) ≡ 2 = omega arith in
    let start = 1 ∷ (two n ++ header) in
    let left = drop n (drop 3 out) in
    let sealed : drop 2 left ≡ drop (5 + n) out = ap (drop 2) (drop-drop n 3 out) ∙ drop-drop 2 (3 + n) out ∙ ap (λ (k : ℕ). drop k out) (omega arith) in
    ap₂ (λ (j k : ℕ). put_mid (3 + n) k (put_mid 3 j ((1 ∷ two n) ++ drop 3 out) header) (two m)) header-size pair_size
    ∙ ap₂ (λ a b. a ++ (two m ++ drop 2 b)) (take_at start left (3 + n) (omega arith)) (drop_at start left (3 + n) (omega arith))
    ∙ ap (λ b. 1 ∷ (two n ++ (header ++ (two m ++ b)))) sealed

module _ (h : Heading) (out : List ℕ) (n m : ℕ) (size : length (header_bytes h) ≡ n) (sum : length out ≡ 21 + n + m)
    (short : length h.note ≤ 1018) (message : m ≤ 4096) (serial : h.serial < 2 ^ 32) where
  around-written : written (around h out) ≡ 1 ∷ (two n ++ (header_bytes h ++ (two m ++ drop (5 + n) out)))
  around-written =
      let message-size : length (drop (21 + n) out) ≡ m = ciphertext_long out n m sum in
      let sealed : take 16 (drop (5 + n) out) ++ drop (21 + n) out ≡ drop (5 + n) out = apart out (5 + n) 16 (21 + n) (omega arith) in
      cc

  sum-around : length out ≡ 21 + length (header_bytes h) + m
  sum-around = omega arith

  ciphertext_around : length (around h out).ciphertext ≡ m
  ciphertext_around = ciphertext_long out (length (header_bytes h)) m sum-around

  sized-around : Sized (around h out)
  sized-around =
      record {
        header = (omega arith, omega arith);
        tag = tag_long out (length (header_bytes h)) m sum-around;
        ciphertext = omega (arith, ciphertext_around);
      }

  pub framed : (at : Places) (front middle pair : List ℕ) → at ≡ layout n m → front ≡ 1 ∷ two n → middle ≡ header_bytes h → pair ≡ two m
      → Framed h out at (put_frame out at front middle pair)
  framed at front middle pair at-is ef em ep =
      let b = put_frame out at front middle pair in
      let puts : b ≡ put_frame out (layout n m) (1 ∷ two n) (header_bytes h) (two m) = cc in
      let writes : b ≡ written (around h out) = puts ∙ frame_put out (header_bytes h) n m size ∙ sym around-written in
      let reads : reading b ≡ Ok (around h out) = ap reading writes ∙ reads_back (around h out) sized-around in
      let fits : framing h out ≡ Ok (written (around h out)) = grind (arith, nat_tests) in
      record {
        frames = fits ∙ ap Ok (sym writes);
        lies = lies_there b (around h out) at reads (at-is ∙ sym (ap₂ layout size ciphertext_around));
        reads = reads;
        heads = header_reads_back h (record { serial = serial; note = short });
      }
