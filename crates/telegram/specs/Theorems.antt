-- What is proved of the format.
use Rattle.std.specs.Prelude.{◌≡◌, ℕ, List, Ok}
use Rattle.block.specs.Bytes.{AllBytes}
use Rattle.telegram.specs.Format.{Parts, Sized, written, reading}
use Rattle.telegram.specs.declared.kind.Kind.{Kind}
use Rattle.telegram.specs.Kind.{kind_byte}
use Rattle.telegram.specs.Header.{Heading, Fits, header_bytes, header_reading}

pub record FormatLaws : Type 0 where
  -- what is written reads back, ..
  pub reads_back : (p : Parts) → Sized p → reading (written p) ≡ Ok p
  pub header_reads_back : (h : Heading) → Fits h → header_reading (header_bytes h) ≡ Ok h
  -- .. and what is read is written back, byte for byte
  pub writes_back : (b : List ℕ) (p : Parts) → AllBytes b → reading b ≡ Ok p → written p ≡ b
  pub header_writes_back : (b : List ℕ) (h : Heading) → AllBytes b → header_reading b ≡ Ok h → header_bytes h ≡ b
  -- only what has the sizes of a telegram reads
  pub reads_sized : (b : List ℕ) (p : Parts) → reading b ≡ Ok p → Sized p
  -- each byte is one kind
  pub one_kind : (k j : Kind) → kind_byte k ≡ kind_byte j → k ≡ j
