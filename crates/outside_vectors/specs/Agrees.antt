-- Whether a cipher's two maps agree with a vector.
use Rattle.std.specs.Prelude.{ℕ, Bool, ◌&&◌, List, length, ◌==◌}
use Rattle.cipher.specs.Scheme.{Scheme}
use Rattle.half_cipher.specs.Maps.{HalfMaps}

-- k is a key, under which x is enciphered to y, and y deciphered to x
abbrev pub agrees : Scheme → List ℕ → ℕ → ℕ → Bool
agrees s k x y = length k == s.key_len && (s.enc k x == y && s.dec k y == x)

abbrev pub agrees_half : HalfMaps → List ℕ → ℕ → ℕ → Bool
agrees_half m k x y = m.forward k x == y && m.backward k y == x
