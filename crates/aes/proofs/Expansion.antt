-- The key expansion on words is the one on bytes.
use Rattle.std.proofs.Common.{◌≡◌, ℕ, zero, suc, ◌+◌, ◌%◌, ◌<◌, List, [], ◌∷◌, ◌++◌, map, length, get_or, take, set, sym, refl, ap, ◌∙◌, ap₂, arith, lit<}
use lib.Bits.{bit_xor, xor_lt, xor_zero_r}
use Rattle.std.proofs.lemmas.List.{take_more_set, map-append, append_assoc}
use Rattle.fips197.specs.Field.{xtime}
use Rattle.fips197.specs.Sbox.{sub_byte}
use Rattle.fips197.specs.KeyExpansion.{turned, next_byte, next_key_of, expand}
use Rattle.fips197.specs.Bytes.{sub_small}
use Rattle.fips197.proofs.Steps.{same_state}
use Rattle.aes_tables.specs.Words.{word}
use Rattle.aes.specs.declared.columns.Columns.{Columns}
use Rattle.aes.specs.Columns.{byte_at, state_of, unpack}
use Rattle.aes_tables.proofs.Tables.{by_row}
use Rattle.aes.proofs.Rows.{byte_small, byte_word, byte_xor}
use Rattle.aes.proofs.Unpacked.{fours, cell-unpack, get_or-fours}

abbrev pub turned_word : ℕ → ℕ → ℕ
turned_word rcon x = word (bit_xor (sub_byte (byte_at 1 x)) rcon) (sub_byte (byte_at 2 x)) (sub_byte (byte_at 3 x)) (sub_byte (byte_at 0 x))

-- the words of the next round key
abbrev pub next_word : ℕ → List ℕ → ℕ → ℕ
next_word rcon w zero = bit_xor (get_or w 0 0) (turned_word rcon (get_or w 3 0))
next_word rcon w (suc c) = bit_xor (get_or w (suc c) 0) (next_word rcon w c)

turned_is : (rcon : ℕ) → rcon < 256 → (w : List ℕ) (r : ℕ) → r < 4 → byte_at r (turned_word rcon (get_or w 3 0)) ≡ turned rcon (unpack w) r
unfolding turned
turned_is rcon h w r hr =
    byte_word (bit_xor (sub_byte (byte_at 1 x)) rcon) (sub_byte (byte_at 2 x)) (sub_byte (byte_at 3 x)) (sub_byte (byte_at 0 x))
    (xor_lt 8 (sub_byte (byte_at 1 x)) rcon (small 1) h) (small 2) (small 3) (small 0) r hr
    ∙ by_row (λ r. get_or (bit_xor (sub_byte (byte_at 1 x)) rcon ∷ sub_byte (byte_at 2 x) ∷ sub_byte (byte_at 3 x) ∷ sub_byte (byte_at 0 x) ∷ []) r 0
    ≡ bit_xor (sub_byte (byte_at ((r + 1) % 4) x)) (get_or (rcon ∷ 0 ∷ 0 ∷ 0 ∷ []) r 0))
    refl (sym (xor_zero_r (sub_byte (byte_at 2 x)))) (sym (xor_zero_r (sub_byte (byte_at 3 x)))) (sym (xor_zero_r (sub_byte (byte_at 0 x)))) r hr
    ∙ ap (λ (n : ℕ). bit_xor (sub_byte n) (get_or (rcon ∷ 0 ∷ 0 ∷ 0 ∷ []) r 0)) (sym (cell-unpack w ((r + 1) % 4) 3 (omega arith) (lit< tt)))
  where
    x : ℕ
    x = get_or w 3 0

    small : (r : ℕ) → sub_byte (byte_at r x) < 256
    small r = sub_small (byte_at r x) (byte_small r x)

next_byte_lem : (rcon : ℕ) → rcon < 256 → (w : List ℕ) (r c : ℕ) → r < 4 → c < 4 → byte_at r (next_word rcon w c) ≡ next_byte rcon (unpack w) r c
unfolding next_byte
next_byte_lem rcon h w r zero hr hc =
    byte_xor r hr (get_or w 0 0) (turned_word rcon (get_or w 3 0)) ∙ ap₂ bit_xor (sym (cell-unpack w r 0 hr hc)) (turned_is rcon h w r hr)
next_byte_lem rcon h w r (suc c) hr hc =
    byte_xor r hr (get_or w (suc c) 0) (next_word rcon w c) ∙ ap₂ bit_xor (sym (cell-unpack w r (suc c) hr hc)) (next_byte_lem rcon h w r c hr (omega arith))

pub next_is : (rcon : ℕ) → rcon < 256 → (w : List ℕ) → unpack (fours (next_word rcon w)) ≡ next_key_of rcon (unpack w)
unfolding unpack next_key_of
next_is rcon h w =
    same_state (λ r c. byte_at r (get_or (fours (next_word rcon w)) c 0)) (next_byte rcon (unpack w))
    (λ r c hr hc. ap (byte_at r) (get_or-fours (next_word rcon w) c hc) ∙ next_byte_lem rcon h w r c hr hc)

-- ---- the round keys that are made, and those to come

-- the n round keys after w
unfoldable pub after : ℕ → ℕ → List ℕ → List (List ℕ)
after zero rcon w = []
after (suc n) rcon w = next_key_of rcon w ∷ after n (xtime rcon) (next_key_of rcon w)

pub after_none : (rcon : ℕ) (w : List ℕ) → after 0 rcon w ≡ []
unfolding after
after_none rcon w = refl

pub after_more : (n m rcon r : ℕ) (w y : List ℕ) → suc n ≡ m → r ≡ xtime rcon → y ≡ next_key_of rcon w → y ∷ after n r y ≡ after m rcon w
unfolding after
after_more n m rcon r w y e f g = (λ i. g i ∷ after n (f i) (g i)) ∙ ap (λ (k : ℕ). after k rcon w) e

pub expand_is : (n rcon : ℕ) (w : List ℕ) → w ∷ after n rcon w ≡ expand n rcon w
unfolding expand after
expand_is zero rcon w = refl
expand_is (suc n) rcon w = ap (λ (v : List (List ℕ)). w ∷ v) (expand_is n (xtime rcon) (next_key_of rcon w))

pub made_more : (keys : List Columns) (i : ℕ) (next : Columns) (rest : List (List ℕ)) → i < length keys
    → map state_of (take (i + 1) (set keys i next)) ++ rest ≡ map state_of (take i keys) ++ (state_of next ∷ rest)
made_more keys i next rest h = ap (λ (ks : List Columns). map state_of ks ++ rest) (take_more_set keys i next h) ∙ simp (map-append, append_assoc)
