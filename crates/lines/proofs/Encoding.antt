-- One turn of `digits_of`, and that what is written in hex is read back.
use Rattle.std.proofs.Common.{◌≡◌, ℕ, suc, ◌+◌, ◌*◌, ◌/◌, ◌%◌, ◌<◌, false, eqb, List, [], ◌∷◌, ◌++◌, length, get_or, drop, IfOk, SomeIff, Some, Ok, Err, codes, Option, Result, sym, refl, ap, ◌∙◌, append_assoc, subst, arith, w8, Fits}
use Rattle.std.specs.Str.{bytes_eq}
use Rattle.std.specs.Char.{digit_char}
use Rattle.std.proofs.lemmas.List.{drop_more}
use Rattle.std.proofs.lemmas.Bool.{and_right, cond-false}
use Rattle.std.proofs.lemmas.Bool.Decides.{nat_tests}
use Rattle.lines.specs.Hex.{Bytes, digit_of, symbol_of, byte_of, join_digits, before, pairs, digits, encoded, decoded, ReadsBack}

digit_symbol : (d : ℕ) → d < 16 → digit_of (symbol_of d) ≡ Some d
digit_symbol d h = grind (arith, nat_tests)

byte_symbols : (b : ℕ) → b < 256 → byte_of (symbol_of (b / 16)) (symbol_of (b % 16)) ≡ Some b
byte_symbols b h =
    let whole : 16 * (b / 16) + b % 16 ≡ b = omega arith in
    (λ i. join_digits (digit_symbol (b / 16) (omega arith) i) (digit_symbol (b % 16) (omega arith) i)) ∙ ap Some whole

pairs-digits : (bs : List ℕ) → Bytes bs → pairs (digits bs) ≡ Some bs
pairs-digits [] h = refl
pairs-digits (b ∷ bs) h = λ i. before (byte_symbols b h.0 i) (pairs-digits bs h.1 i)

-- Two characters and more are no dot.
long_no_dot : (x y : ℕ) (cs : List ℕ) → bytes_eq (x ∷ y ∷ cs) (codes ".") ≡ false
long_no_dot x y cs = and_right (eqb x 46) false refl

pub reads_back : ReadsBack
reads_back [] h = refl
reads_back (b ∷ bs) h = cond-false _ _ _ (long_no_dot (symbol_of (b / 16)) (symbol_of (b % 16)) (digits bs)) ∙ pairs-digits (b ∷ bs) h

-- The numbers of a slice of bytes are below 256.
pub bytes_below : (bs : List ℕ) → ((i : ℕ) → Fits w8 (get_or bs i 0)) → Bytes bs
bytes_below [] h = tt
bytes_below (b ∷ bs) h = ((h 0).fits, bytes_below bs (λ i. h (suc i)))

pub made_reads_back : {S E : Type 0} (text : S → List ℕ) (r : Result S E) (bytes : List ℕ) → Bytes bytes →
    IfOk r (λ s. text s ≡ encoded bytes) → IfOk r (λ s. decoded (text s) ≡ Some bytes)
made_reads_back text (Ok s) bytes h e = ap decoded e ∙ reads_back bytes h
made_reads_back text (Err x) bytes h e = tt

-- The digit that `from_digit` makes of a value below 16.
pub symbol_made : (o : Option ℕ) (d c : ℕ) → SomeIff o (d < 16) (digit_char d) → o ≡ Some c → c ≡ symbol_of d
symbol_made o d c s e = (subst (λ o. SomeIff o (d < 16) (digit_char d)) e s).1

pub symbol_below : (d : ℕ) → d < 16 → symbol_of d < 128
symbol_below d h = grind (arith, nat_tests)

-- The two digits of a byte, a and b, go from what is left to the text.
pub digits_more : (text mid new all bytes : List ℕ) (i a b : ℕ) → i < length bytes →
    a ≡ symbol_of (get_or bytes i 0 / 16) → b ≡ symbol_of (get_or bytes i 0 % 16) → mid ≡ text ++ a ∷ [] → new ≡ mid ++ b ∷ [] →
    text ++ digits (drop i bytes) ≡ all → new ++ digits (drop (i + 1) bytes) ≡ all
digits_more text mid new all bytes i a b lt p q m n inv =
    let left = digits (drop (i + 1) bytes) in
    let two : a ∷ b ∷ left ≡ digits (drop i bytes) = (λ k. p k ∷ q k ∷ left) ∙ sym (ap digits (drop_more bytes i 0 lt)) in
    ap (λ t. t ++ left) (n ∙ ap (λ t. t ++ b ∷ []) m)
    ∙ append_assoc (text ++ a ∷ []) (b ∷ []) left ∙ append_assoc text (a ∷ []) (b ∷ left)
    ∙ ap (λ t. text ++ t) two
    ∙ inv
