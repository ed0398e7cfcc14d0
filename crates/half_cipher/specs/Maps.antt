-- What a half cipher computes: a half is a number below 2^64, a key a string of sixteen bytes.
use Rattle.std.specs.Prelude.{List, ◌≡◌, ℕ, ◌^◌, ◌<◌, length}
use Rattle.block.specs.Bytes.{AllBytes}

pub record HalfMaps : Type 0 where
  pub forward : List ℕ → ℕ → ℕ
  pub backward : List ℕ → ℕ → ℕ

pub record IsHalfKey (k : List ℕ) : Type 0 where
  pub long : length k ≡ 16
  pub all : AllBytes k

-- under every key each map takes halves to halves, and each undoes the other
pub record LawfulHalf (m : HalfMaps) : Type 0 where
  pub forward_half : (k : List ℕ) (x : ℕ) → IsHalfKey k → x < 2 ^ 64 → m.forward k x < 2 ^ 64
  pub backward_half : (k : List ℕ) (y : ℕ) → IsHalfKey k → y < 2 ^ 64 → m.backward k y < 2 ^ 64
  pub backward_forward : (k : List ℕ) (x : ℕ) → IsHalfKey k → x < 2 ^ 64 → m.backward k (m.forward k x) ≡ x
  pub forward_backward : (k : List ℕ) (y : ℕ) → IsHalfKey k → y < 2 ^ 64 → m.forward k (m.backward k y) ≡ y
