-- Rounds, each by its number from 0.
use Rattle.std.specs.Prelude.{ℕ, zero, suc, List, map}
use Rattle.std.specs.List.{range_with_len}

-- the first n rounds
unfoldable pub rounds : {A : Type 0} → (ℕ → A → A) → ℕ → A → A
rounds f zero x = x
rounds f (suc n) x = f n (rounds f n x)

-- the first n rounds undone, the last of them first
unfoldable pub unrounds : {A : Type 0} → (ℕ → A → A) → ℕ → A → A
unrounds g zero x = x
unrounds g (suc n) x = unrounds g n (g n x)

-- the keys of the first n rounds, in order
unfoldable pub keys_of : {K : Type 0} → (ℕ → K) → ℕ → List K
keys_of key n = map key (range_with_len 0 n)
