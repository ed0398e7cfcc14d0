-- The round keys of a key are states.
use Rattle.std.proofs.Common.{ℕ, zero, suc, ◌+◌, ◌%◌, ◌<◌, List, [], ◌∷◌, get_or, arith, lit<}
use lib.Bits.{xor_lt}
use Rattle.std.specs.List.{AllByRecursion as All}
use Rattle.fips197.specs.Field.{xtime}
use Rattle.fips197.specs.Sbox.{sub_byte}
use Rattle.fips197.specs.State.{IsState, cell}
use Rattle.fips197.specs.KeyExpansion.{turned, next_byte, next_key_of, expand}
use Rattle.fips197.specs.Bytes.{sub_small}
use Rattle.fips197.proofs.Linear.{xtime_small}
use Rattle.fips197.proofs.Steps.{made, cell_small}

constant_small : (rcon : ℕ) → rcon < 256 → (r : ℕ) → r < 4 → get_or (rcon ∷ 0 ∷ 0 ∷ 0 ∷ []) r 0 < 256
constant_small rcon h zero hr = h
constant_small rcon h (suc zero) hr = lit< tt
constant_small rcon h (suc (suc zero)) hr = lit< tt
constant_small rcon h (suc (suc (suc zero))) hr = lit< tt
constant_small rcon h (suc (suc (suc (suc r)))) hr = absurd (omega arith)

turned_small : (rcon : ℕ) (w : List ℕ) → IsState w → rcon < 256 → (r : ℕ) → r < 4 → turned rcon w r < 256
unfolding turned
turned_small rcon w b h r hr =
    xor_lt 8 (sub_byte (cell w ((r + 1) % 4) 3)) (get_or (rcon ∷ 0 ∷ 0 ∷ 0 ∷ []) r 0)
    (sub_small (cell w ((r + 1) % 4) 3) (cell_small w b ((r + 1) % 4) 3 (omega arith) (lit< tt))) (constant_small rcon h r hr)

next_byte_small : (rcon : ℕ) (w : List ℕ) → IsState w → rcon < 256 → (r c : ℕ) → r < 4 → c < 4 → next_byte rcon w r c < 256
unfolding next_byte
next_byte_small rcon w b h r zero hr hc = xor_lt 8 (cell w r 0) (turned rcon w r) (cell_small w b r 0 hr hc) (turned_small rcon w b h r hr)
next_byte_small rcon w b h r (suc c) hr hc =
    xor_lt 8 (cell w r (suc c)) (next_byte rcon w r c) (cell_small w b r (suc c) hr hc) (next_byte_small rcon w b h r c hr (omega arith))

next_key_state : (rcon : ℕ) (w : List ℕ) → IsState w → rcon < 256 → IsState (next_key_of rcon w)
unfolding next_key_of
next_key_state rcon w b h = made (next_byte rcon w) (next_byte_small rcon w b h)

pub expand_states : (n rcon : ℕ) (w : List ℕ) → IsState w → rcon < 256 → All IsState (expand n rcon w)
unfolding expand
expand_states zero rcon w b h = (b, tt)
expand_states (suc n) rcon w b h = (b, expand_states n (xtime rcon) (next_key_of rcon w) (next_key_state rcon w b h) (xtime_small rcon h))
