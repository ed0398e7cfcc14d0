-- What is XORed with the same stream twice is as it was.
use Rattle.std.proofs.Common.{◌≡◌, ℕ, zero, suc, ◌+◌, ◌-◌, ◌*◌, ◌/◌, ◌%◌, ◌<◌, ◌≤◌, min, List, [], ◌∷◌, ◌++◌, length, get_or, take, drop, set, sym, refl, ap, ◌∙◌, ap₂, append_assoc, append-nil, le_of_suc-le-suc, not-suc-le-zero, add-zero, suc-add, zero-add, add-one, arith, length-append, length-drop, length-take, length-take-le, drop-drop}
use lib.Bits.{bit_xor}
use borrow.Rule.Slice.PartMut.{put_mid}
use Rattle.std.proofs.lemmas.List.{take_all, drop_all, take_at, drop_at, take_min, drop_min}
use Rattle.block.specs.Bytes.{bytes}
use Rattle.block.proofs.Laws.{xor_twice}
use Rattle.block.proofs.Spelling.{length-bytes}
use Rattle.mode.specs.Stream.{xors, stream, count, streamed}

pub length-xors : (xs ks : List ℕ) → length xs ≤ length ks → length (xors xs ks) ≡ length xs
unfolding xors
length-xors [] ks h = refl
length-xors (x ∷ xs) [] h = absurd (not-suc-le-zero h)
length-xors (x ∷ xs) (k ∷ ks) h = ap suc (length-xors xs ks (le_of_suc-le-suc h))

pub xors_twice : (xs ks : List ℕ) → length xs ≤ length ks → xors (xors xs ks) ks ≡ xs
unfolding xors
xors_twice [] ks h = refl
xors_twice (x ∷ xs) [] h = absurd (not-suc-le-zero h)
xors_twice (x ∷ xs) (k ∷ ks) h = ap₂ ◌∷◌ (xor_twice x k) (xors_twice xs ks (le_of_suc-le-suc h))

pub length-stream : (e : ℕ → ℕ) (s i n : ℕ) → length (stream e s i n) ≡ n * 16
unfolding stream
length-stream e s i zero = refl
length-stream e s i (suc n) =
    length-append (bytes 16 (e (bit_xor s (i + 1)))) (stream e s (i + 1) n)
    ∙ ap₂ ◌+◌ (length-bytes 16 (e (bit_xor s (i + 1)))) (length-stream e s (i + 1) n) ∙ omega arith

-- the rounded quotient, as the code has it
pub count_is : (m : List ℕ) → length m / 16 + min 1 (length m % 16) ≡ count m
unfolding count
count_is m = omega arith

-- the stream is long enough
pub covers : (e : ℕ → ℕ) (s : ℕ) (m : List ℕ) → length m ≤ length (stream e s 0 (count m))
unfolding count
covers e s m = omega (arith, length-stream e s 0 ((length m + 15) / 16))

pub length-streamed : (e : ℕ → ℕ) (s : ℕ) (m : List ℕ) → length (streamed e s m) ≡ length m
unfolding streamed
length-streamed e s m = length-xors m (stream e s 0 (count m)) (covers e s m)

pub streamed_twice : (e : ℕ → ℕ) (s : ℕ) (m : List ℕ) → streamed e s (streamed e s m) ≡ m
unfolding streamed count
streamed_twice e s m =
    ap (λ (n : ℕ). xors (xors m (stream e s 0 (count m))) (stream e s 0 ((n + 15) / 16))) (length-streamed e s m)
    ∙ xors_twice m (stream e s 0 (count m)) (covers e s m)

-- ---- a string of which the first i bytes are under the stream

abbrev pub done : ℕ → List ℕ → List ℕ → List ℕ
done i xs ks = xors (take i xs) ks ++ drop i xs

pub done_none : (xs ks : List ℕ) → xs ≡ done 0 xs ks
unfolding xors
done_none xs ks = refl

pub done_all : (i : ℕ) (xs ks : List ℕ) → length xs ≤ i → done i xs ks ≡ xors xs ks
done_all i xs ks h =
    ap₂ (λ ys zs. xors ys ks ++ zs) (take_all i xs h) (drop_all i xs h) ∙ append-nil (xors xs ks)

-- one byte more
done_byte : (xs ks : List ℕ) (i : ℕ) → i < length xs → i < length ks
    → set (done i xs ks) i (bit_xor (get_or (done i xs ks) i 0) (get_or ks i 0)) ≡ done (suc i) xs ks
unfolding xors
done_byte [] ks i h h' = absurd (not-suc-le-zero h)
done_byte (x ∷ xs) [] i h h' = absurd (not-suc-le-zero h')
done_byte (x ∷ xs) (k ∷ ks) zero h h' = refl
done_byte (x ∷ xs) (k ∷ ks) (suc i) h h' = ap (λ r. bit_xor x k ∷ r) (done_byte xs ks i (le_of_suc-le-suc h) (le_of_suc-le-suc h'))

pub byte_turn : (xs ks part : List ℕ) (i : ℕ) → i < length xs → i < length ks → part ≡ done i xs ks
    → set part i (bit_xor (get_or part i 0) (get_or ks i 0)) ≡ done (i + 1) xs ks
byte_turn xs ks part i h h' inv =
    ap (λ p. set p i (bit_xor (get_or p i 0) (get_or ks i 0))) inv ∙ done_byte xs ks i h h' ∙ ap (λ (n : ℕ). done n xs ks) (sym (add-one i))

-- ---- one block more

-- the first a bytes under the stream, and then the b bytes behind them
xors_split : (a b : ℕ) (xs ks : List ℕ) → a ≤ length xs → length xs ≤ length ks
    → xors (take (a + b) xs) ks ≡ xors (take a xs) ks ++ xors (take b (drop a xs)) (drop a ks)
unfolding xors
xors_split zero b xs ks h h' = ap (λ (n : ℕ). xors (take n xs) ks) (zero-add b)
xors_split (suc a) b [] ks h h' = absurd (not-suc-le-zero h)
xors_split (suc a) b (x ∷ xs) [] h h' = absurd (not-suc-le-zero h')
xors_split (suc a) b (x ∷ xs) (k ∷ ks) h h' =
    ap (λ (n : ℕ). xors (take n (x ∷ xs)) (k ∷ ks)) (suc-add a b)
    ∙ ap (λ r. bit_xor x k ∷ r) (xors_split a b xs ks (le_of_suc-le-suc h) (le_of_suc-le-suc h'))

-- of a stream only as much counts as the string is long
xors_front : (xs ks more : List ℕ) → length xs ≤ length ks → xors xs (ks ++ more) ≡ xors xs ks
unfolding xors
xors_front [] ks more h = refl
xors_front (x ∷ xs) [] more h = absurd (not-suc-le-zero h)
xors_front (x ∷ xs) (k ∷ ks) more h = ap (λ r. bit_xor x k ∷ r) (xors_front xs ks more (le_of_suc-le-suc h))

-- the stream past its first i blocks
stream-past : (e : ℕ → ℕ) (s i n j : ℕ) → drop (16 * i) (stream e s j (i + n)) ≡ stream e s (j + i) n
unfolding stream
stream-past e s zero n j = ap₂ (stream e s) (sym (add-zero j)) (zero-add n)
stream-past e s (suc i) n j =
    let further : 16 * suc i ≡ 16 + 16 * i = omega arith in
    let counter : j + 1 + i ≡ j + suc i = omega arith in
    ap₂ (λ (a b : ℕ). drop a (stream e s j b)) further (suc-add i n)
    ∙ sym (drop-drop (16 * i) 16 (stream e s j (suc (i + n))))
    ∙ ap (drop (16 * i)) (drop_at (bytes 16 (e (bit_xor s (j + 1)))) (stream e s (j + 1) (i + n)) 16 (length-bytes 16 (e (bit_xor s (j + 1)))))
    ∙ stream-past e s i n (j + 1) ∙ ap (λ (k : ℕ). stream e s k n) counter

pub stream_at : (e : ℕ → ℕ) (s i n : ℕ) → i < n
    → drop (16 * i) (stream e s 0 n) ≡ bytes 16 (e (bit_xor s (i + 1))) ++ stream e s (i + 1) (n - (i + 1))
unfolding stream
stream_at e s i n h =
    let whole : n ≡ i + suc (n - (i + 1)) = omega arith in
    ap (λ (m : ℕ). drop (16 * i) (stream e s 0 m)) whole
    ∙ stream-past e s i (suc (n - (i + 1))) 0 ∙ ap (λ (j : ℕ). stream e s j (suc (n - (i + 1)))) (zero-add i)

-- a block more of xs comes under the stream ks, of which the block at a is key
module _ (xs ks key more : List ℕ) (a : ℕ) (within : a ≤ length xs) (enough : length xs ≤ length ks)
    (sixteen : length key ≡ 16) (here : drop a ks ≡ key ++ more) where
  rest : List ℕ
  rest = drop a xs

  done_block : done (a + 16) xs ks ≡ xors (take a xs) ks ++ (xors (take 16 rest) key ++ drop 16 rest)
  unfolding rest
  done_block =
      ap₂ ◌++◌
      (xors_split a 16 xs ks within enough
      ∙ ap (λ k. xors (take a xs) ks ++ xors (take 16 (drop a xs)) k) here
      ∙ ap (λ r. xors (take a xs) ks ++ r) (xors_front (take 16 (drop a xs)) key more (omega (arith, length-take 16 (drop a xs), sixteen))))
      (sym (drop-drop 16 a xs))
      ∙ append_assoc (xors (take a xs) ks) (xors (take 16 (drop a xs)) key) (drop 16 (drop a xs))

  front : length (xors (take a xs) ks) ≡ a
  front = let n = length-take-le a xs within in length-xors (take a xs) ks (omega arith) ∙ n

  pub block_turn : (text part : List ℕ) (k : ℕ) → k ≡ min 16 (length xs - a) → text ≡ done a xs ks
      → part ≡ xors (take k (drop a text)) key → put_mid a k text part ≡ done (a + 16) xs ks
  unfolding rest
  block_turn text part k size inv under =
      ap₂ (λ t p. put_mid a k t p) inv under
      ∙ ap (λ t. put_mid a k (done a xs ks) (xors (take k (drop a t)) key)) inv
      ∙ ap₂ (λ p q. p ++ (xors (take k q) key ++ drop k q))
      (take_at (xors (take a xs) ks) (drop a xs) a front) (drop_at (xors (take a xs) ks) (drop a xs) a front)
      ∙ ap₂ (λ p q. xors (take a xs) ks ++ (xors p key ++ q))
      (ap (λ (n : ℕ). take n (drop a xs)) as_far ∙ take_min 16 (drop a xs)) (ap (λ (n : ℕ). drop n (drop a xs)) as_far ∙ drop_min 16 (drop a xs))
      ∙ sym done_block
    where
      as_far : k ≡ min 16 (length (drop a xs))
      as_far = size ∙ ap (min 16) (sym (length-drop a xs))
