-- The sizes that wrap and unwrap take.
use Rattle.std.specs.Prelude.{ℕ, Bool, true, ◌&&◌, List, length, Some, None, Option, ◌==◌, nat_le}
use Rattle.cipher.specs.Scheme.{Scheme}

abbrev pub header_sized : Option (List ℕ) → Bool
header_sized None = true
header_sized (Some h) = nat_le (length h) 1024

-- a header and a text of these sizes
abbrev pub message_sized : Option (List ℕ) → List ℕ → Bool
message_sized h x = header_sized h && nat_le (length x) 4096

-- .. and a tag buffer
abbrev pub buffers_sized : Option (List ℕ) → List ℕ → List ℕ → Bool
buffers_sized h t x = header_sized h && (length t == 16 && nat_le (length x) 4096)

-- .. and a key of the scheme's length
abbrev pub sized : Scheme → List ℕ → Option (List ℕ) → List ℕ → List ℕ → Bool
sized s k h t x = buffers_sized h t x && length k == s.key_len
