-- What an opening comes to, from what its tests found.
use Rattle.std.proofs.Common.{◌≡◌, ℕ, ◌+◌, ◌-◌, ◌≤◌, Bool, true, false, cond, not, ◌&&◌, ◌||◌, eqb, leb, List, [], ◌∷◌, ◌++◌, length, take, drop, set, is_some, Some, None, Option, unwrap_or, sym, refl, ap, ◌∙◌, ap₂, arith, length-append, length-drop, length-take, length-take-le, eqb-true}
use Rattle.seal.specs.Wrapping.{cleared}
use Rattle.block.specs.Num.{num}
use Rattle.mode.specs.Sealing.{opened_by, pair}
use Rattle.std.specs.Option.{option_map}
use Rattle.std.specs.List.{between}
use Rattle.seal.specs.Wrapping.{part_opened}
use Rattle.telegram.specs.Format.{parts}
use Rattle.station.specs.Incoming.{Told}
use Rattle.station.specs.declared.incoming.Incoming.{Incoming}
use Rattle.std.proofs.lemmas.List.{drop_at, take_at}
use Rattle.block.specs.Bytes.{spelled}
use Rattle.std.proofs.lemmas.Option.{none-some}
use Rattle.std.proofs.lemmas.Bool.{cond-true}
use Rattle.std.proofs.lemmas.Bool.Decides.{nat_tests}
use Rattle.telegram.specs.declared.parts.Places.{Places}
use Rattle.telegram.specs.declared.kind.Kind.{Kind}
use Rattle.telegram.specs.declared.kind.Kind.TheVariants.{Measurement, Key}
use Rattle.station.specs.Calls.{Answer, Opened, Ordered, Refused}
use Rattle.station.specs.State.{State, Waiting, wait}
use Rattle.station.specs.Steps.{KeyOpening, Opening, accepting, opened_at, opening, order_of, refusing, with_message}
use Rattle.station.specs.Tests.{Test, admission, heading, message, open_key_tests, open_tests, opening_tests, past}
use Rattle.station.specs.Use.{Use, counted}

-- ---- tests of which the first that refuses is known, or that none does

pub past_stopped : {X : Type 0} (ts : List Test) (n : ℕ) (r : ℕ → X) (a : X) → past ts Some None ≡ Some n → past ts r a ≡ r n
past_stopped [] n r a e = absurd (none-some n e)
past_stopped ((m, true) ∷ ts) n r a e = let same : m ≡ n = cc in ap r same
past_stopped ((m, false) ∷ ts) n r a e = past_stopped ts n r a e

pub past_passed : {X : Type 0} (ts : List Test) (r : ℕ → X) (a : X) → past ts Some None ≡ None → past ts r a ≡ a
past_passed [] r a e = refl
past_passed ((m, true) ∷ ts) r a e = absurd (none-some m (sym e))
past_passed ((m, false) ∷ ts) r a e = past_passed ts r a e

-- ---- the tests of an opening, of which the last is that of the message

module _ (s : State) (wanted : Kind) (b : List ℕ) where
  module _ (n : ℕ) (stops : past (admission s wanted b) Some None ≡ Some n) where
    pub stopped : past (opening_tests s wanted b) Some None ≡ Some n
    stopped = past_stopped (admission s wanted b) n Some (cond (not (is_some (message s b))) (Some 14) None) stops

    pub stays : s ≡ past (opening_tests s wanted b) (refusing s b) (accepting s.pending s b)
    stays = sym (past_stopped (admission s wanted b) n (λ _. s) (cond (not (is_some (message s b))) (opening s b) (accepting s.pending s b)) stops)

  module _ (passes : past (admission s wanted b) Some None ≡ None) where
    pub mismatched : message s b ≡ None → past (opening_tests s wanted b) Some None ≡ Some 14
    mismatched none = past_passed (admission s wanted b) Some _ passes ∙ ap (λ o. cond (not (is_some o)) (Some 14) None) none

    pub counts : message s b ≡ None → opening s b ≡ past (opening_tests s wanted b) (refusing s b) (accepting s.pending s b)
    counts none = sym (past_passed (admission s wanted b) (λ _. s) _ passes ∙ ap (λ o. cond (not (is_some o)) (opening s b) (accepting s.pending s b)) none)

    module _ (m : List ℕ) (some : message s b ≡ Some m) where
      pub passed : past (opening_tests s wanted b) Some None ≡ None
      passed = past_passed (admission s wanted b) Some _ passes ∙ ap (λ o. cond (not (is_some o)) (Some 14) None) some

      pub accepts : accepting s.pending s b ≡ past (opening_tests s wanted b) (refusing s b) (accepting s.pending s b)
      accepts = sym (past_passed (admission s wanted b) (λ _. s) _ passes ∙ ap (λ o. cond (not (is_some o)) (opening s b) (accepting s.pending s b)) some)

-- ---- a measurement

module _ (s : State) (b : List ℕ) {a : Answer} {b' : List ℕ} {t : State}
    (moves : t ≡ past (opening_tests s Measurement b) (refusing s b) (accepting s.pending s b)) where
  pub refused : (n : ℕ) → past (opening_tests s Measurement b) Some None ≡ Some n → a ≡ Refused n → b' ≡ cleared b → Opening s b a b' t
  refused n stops answers leaves =
      record {
        answers = answers ∙ sym (past_stopped (open_tests s b) n Refused _ stops);
        leaves = leaves ∙ sym (past_stopped (open_tests s b) n (λ _. cleared b) _ stops);
        moves = moves;
      }

  pub accepted : (m : List ℕ) → past (opening_tests s Measurement b) Some None ≡ None → message s b ≡ Some m
      → a ≡ opened_at s b → b' ≡ with_message m b → Opening s b a b' t
  accepted m passes some answers leaves =
      record {
        answers = answers ∙ sym (past_passed (open_tests s b) Refused _ passes);
        leaves = leaves ∙ sym (past_passed (open_tests s b) (λ _. cleared b) _ passes ∙ ap (λ o. with_message (unwrap_or o []) b) some);
        moves = moves;
      }

-- ---- a key

-- no test refuses
abbrev AllFalse : List Test → Type 0
AllFalse [] = Unit {0}
AllFalse (t ∷ ts) = (t.1 ≡ false) × AllFalse ts

all_false : (ts : List Test) → past ts Some None ≡ None → AllFalse ts
all_false [] e = tt
all_false ((m, true) ∷ ts) e = absurd (none-some m (sym e))
all_false ((m, false) ∷ ts) e = (refl, all_false ts e)

second_false : (x y : Bool) → (not x || not y) ≡ false → y ≡ true
second_false true true e = refl
second_false true false e = sym e
second_false false y e = let z : ◌≡◌ {A = ℕ} 0 1 = cc in absurd (omega arith)

-- the state with another change that waits
abbrev pub with_pending : Option Waiting → State → State
with_pending p s = record s { pending = p }

-- the own gauge stays
pub own_stays : (s : State) (b : List ℕ) (t : State) → t ≡ past (opening_tests s Key b) (refusing s b) (accepting s.pending s b)
    → past (opening_tests s Key b) Some None ≡ None → t.own ≡ s.own
own_stays s b t moves passes = ap (λ (t : State). t.own) (moves ∙ past_passed (open_key_tests s b) (refusing s b) _ passes)

module _ (s : State) (b : List ℕ) {a : Answer} {b' : List ℕ} (t : State)
    (moves : t ≡ past (opening_tests s Key b) (refusing s b) (accepting s.pending s b)) where
  pub key_refused : (n : ℕ) → past (opening_tests s Key b) Some None ≡ Some n → a ≡ Refused n → b' ≡ cleared b → KeyOpening s b a b' t
  key_refused n stops answers leaves =
      record {
        answers = answers ∙ sym (past_stopped (open_key_tests s b) n Refused _ stops);
        leaves = leaves;
        moves = moves ∙ past_stopped (open_key_tests s b) n (refusing s b) _ stops ∙ sym (past_stopped (open_key_tests s b) n (refusing s b) _ stops);
      }

  module _ (passes : past (opening_tests s Key b) Some None ≡ None) where
    pub key_accepted : (m : List ℕ) → message s b ≡ Some m → a ≡ Ordered (order_of s b) → b' ≡ cleared b
        → (w : Waiting) → w ≡ wait (heading s b).gauge (heading s b).serial m → KeyOpening s b a b' (with_pending (Some w) t)
    key_accepted m some answers leaves w waits =
        record {
          answers = answers ∙ sym (past_passed (open_key_tests s b) Refused _ passes);
          leaves = leaves;
          moves =
              ap (with_pending (Some w)) (moves ∙ past_passed (open_key_tests s b) (refusing s b) _ passes)
              ∙ ap (λ w. accepting (Some w) s b) (waits ∙ sym (ap (λ o. wait (heading s b).gauge (heading s b).serial (unwrap_or o [])) some))
              ∙ sym (past_passed (open_key_tests s b) (refusing s b) _ passes);
        }

-- the message is as long as a key is
pub key_long : (s : State) (b : List ℕ) → past (opening_tests s Key b) Some None ≡ None → length (parts b).ciphertext ≡ s.scheme.key_len
key_long s b passes =
    eqb-true (length (parts b).ciphertext) s.scheme.key_len
    (second_false (eqb (heading s b).kind 1) (eqb (length (parts b).ciphertext) s.scheme.key_len) (all_false (opening_tests s Key b) passes).1.1.1.0)

-- ---- a part that was opened, as the part of a telegram that it is

module _ (s : State) (b : List ℕ) (i : Incoming) (told : Told b i) where
  pub part_message : (r : Bool) (h y : List ℕ) → h ≡ between i.places.header.start i.places.header.end b
      → cond r (Some y) None ≡ part_opened i.places.ciphertext.start i.places.ciphertext.end (opened_by s.hash_key (s.scheme.enc s.key) (s.scheme.dec s.key) (Some h) (pair (num i.tag) (between i.places.ciphertext.start i.places.ciphertext.end b))) b
      → cond r (Some y) None ≡ option_map (λ m. with_message m b) (message s b)
  part_message r h y header is =
      let p = i.places.ciphertext in
      let found = opened_by s.hash_key (s.scheme.enc s.key) (s.scheme.dec s.key) in
      let fits : (leb p.start p.end && leb p.end (length b)) ≡ true = grind (arith, nat_tests, told.ends, ap (λ (q : Places). q.ciphertext.start) told.places, ap (λ (q : Places). q.ciphertext.end) told.places) in
      is ∙ cond-true _ _ _ fits
      ∙ ap₂ (λ h t. option_map (λ m. take p.start b ++ (m ++ drop p.end b)) (found (Some h) (pair t (between p.start p.end b)))) (header ∙ told.header) told.tag
      ∙ ap₂ (λ x (q : Places). option_map (λ m. take q.ciphertext.start b ++ (m ++ drop q.ciphertext.end b)) (found (Some (parts b).header) (pair (spelled (parts b).tag) x))) told.there told.places

pub no_message : (o : Option (List ℕ)) (f : List ℕ → List ℕ) → None ≡ option_map f o → o ≡ None
no_message None f e = refl
no_message (Some m) f e = absurd (none-some (f m) e)

pub some_message : (o : Option (List ℕ)) (f : List ℕ → List ℕ) (y : List ℕ) → Some y ≡ option_map f o → (m : List ℕ) × (o ≡ Some m) × (y ≡ f m)
some_message None f y e = absurd (none-some y (sym e))
some_message (Some m) f y e = (m, refl, cc)

-- ---- what is answered and held, in the telegram's words

-- the state with another use
abbrev pub with_use : State → Use → State
with_use s u = record s { used = u }

-- .. and another last serial of a gauge
abbrev pub with_heard : State → ℕ → ℕ → Use → State
with_heard s g n u = record s { gauges = set s.gauges g (record { last = n }); used = u }

module _ (s : State) (b : List ℕ) (i : Incoming) (told : Told b i) where
  pub answers_told : Opened i.gauge i.serial i.places.header i.places.ciphertext ≡ opened_at s b
  answers_told =
      ap₂ (λ g n. Opened g n i.places.header i.places.ciphertext) told.gauge told.serial
      ∙ ap (λ (p : Places). Opened (heading s b).gauge (heading s b).serial p.header p.ciphertext) told.places

  pub heard_told : (g : ℕ) (u : Use) → g ≡ i.gauge → u ≡ counted (length (parts b).header) (length (parts b).ciphertext) s.used
      → with_heard s g i.serial u ≡ accepting s.pending s b
  heard_told g u gauge is = ap₂ (λ (g n : ℕ). with_heard s g n u) (gauge ∙ told.gauge) told.serial ∙ ap (λ (v : Use). with_heard s (heading s b).gauge (heading s b).serial v) is

-- ---- the message in its place

module _ (b : List ℕ) (i : Incoming) (told : Told b i) where
  ends_there : 21 + length (parts b).header + length (parts b).ciphertext ≡ length b
  ends_there = sym (ap (λ (q : Places). q.ciphertext.end) told.places) ∙ told.ends

  front_long : length (take (21 + length (parts b).header) b) ≡ 21 + length (parts b).header
  front_long = length-take-le (21 + length (parts b).header) b (omega (arith, ends_there))

  -- it is as long as the ciphertext, where the buffer keeps its length
  pub message_long : (m left : List ℕ) → left ≡ with_message m b → length left ≡ length b → length m ≡ length (parts b).ciphertext
  message_long m left is same =
      let sum : length left ≡ length (take (21 + length (parts b).header) b) + (length m + length (drop (21 + length (parts b).header + length (parts b).ciphertext) b)) =
      ap length is ∙ length-append (take (21 + length (parts b).header) b) _ ∙ ap (λ (n : ℕ). length (take (21 + length (parts b).header) b) + n) (length-append m _) in
      omega (arith, sum, same, front_long, ends_there, length-drop (21 + length (parts b).header + length (parts b).ciphertext) b)

  pub message_there : (m : List ℕ) → length m ≡ length (parts b).ciphertext
      → between i.places.ciphertext.start i.places.ciphertext.end (with_message m b) ≡ m
  message_there m long =
      let h = 21 + length (parts b).header in
      let e = h + length (parts b).ciphertext in
      ap (λ (q : Places). between q.ciphertext.start q.ciphertext.end (with_message m b)) told.places
      ∙ ap (take (e - h)) (drop_at (take h b) (m ++ drop e b) h front_long)
      ∙ take_at m (drop e b) (e - h) (long ∙ (let n : length (parts b).ciphertext ≡ e - h = omega arith in n))

  -- the part of any bytes that is as long as a key
  pub part_short : (s : State) → past (opening_tests s Key b) Some None ≡ None → s.scheme.key_len ≤ 255 → (x : List ℕ)
      → length (between i.places.ciphertext.start i.places.ciphertext.end x) ≤ 255
  part_short s passes few x =
      let p = i.places.ciphertext in
      let start = ap (λ (q : Places). q.ciphertext.start) told.places in
      let end = ap (λ (q : Places). q.ciphertext.end) told.places in
      omega (arith, length-take (p.end - p.start) (drop p.start x), start, end, key_long s b passes)

  -- the order for a key that was opened, and what waits then
  pub ordered : (s : State) (own : ℕ) → own ≡ s.own → Ordered (record { own = own; sender = i.gauge; serial = i.serial }) ≡ Ordered (order_of s b)
  ordered s own is =
      ap (λ (o : ℕ). Ordered (record { own = o; sender = i.gauge; serial = i.serial })) is
      ∙ ap₂ (λ (g n : ℕ). Ordered (record { own = s.own; sender = g; serial = n })) told.gauge told.serial

  pub waits : (s : State) (m : List ℕ) → wait i.gauge i.serial m ≡ wait (heading s b).gauge (heading s b).serial m
  waits s m = ap₂ (λ (g n : ℕ). wait g n m) told.gauge told.serial
