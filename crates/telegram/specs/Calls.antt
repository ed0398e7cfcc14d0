-- What the calls answer and leave.
use Rattle.std.specs.Prelude.{◌≡◌, ℕ, ◌+◌, Bool, cond, ◌&&◌, List, length, take, drop, Ok, Err, Result, ◌==◌, nat_le}
use Rattle.telegram.specs.declared.fault.TelegramFault.{TelegramFault}
use Rattle.telegram.specs.declared.fault.TelegramFault.TheVariants.{Lengths}
use Rattle.telegram.specs.declared.parts.Fields.{Fields}
use Rattle.telegram.specs.declared.parts.Places.{Places}
use Rattle.telegram.specs.Format.{Parts, written, reading}
use Rattle.telegram.specs.Header.{Heading, header_bytes, header_reading}
use Rattle.telegram.specs.Places.{Lies, layout}

-- ---- reading

abbrev pub parts_of : Fields → Parts
parts_of f = record { header = f.header.now; tag = f.tag.now; ciphertext = f.ciphertext.now }

-- b was read as the fields f
pub record Read (b : List ℕ) (f : Fields) : Type 0 where
  pub reads : reading b ≡ Ok (parts_of f)
  pub lies : Lies b (parts_of f) f.places
  -- what was read is written back to the same bytes
  pub rewrites : written (parts_of f) ≡ b

-- ---- writing

-- a header written over out, which has its length
abbrev pub header_writing : Heading → List ℕ → Result (List ℕ) TelegramFault
header_writing h out = cond (nat_le (length h.note) 1018 && length out == 6 + length h.note) (Ok (header_bytes h)) (Err Lengths)

-- n bytes hold the frame with a header of h bytes, and leave a message of a size that is taken
abbrev pub roomy : ℕ → ℕ → Bool
roomy h n = nat_le h 1024 && (nat_le (21 + h) n && nat_le n (21 + h + 4096))

-- a header, with the tag and the ciphertext that stand in out
abbrev pub around : Heading → List ℕ → Parts
around h out =
    let n = length (header_bytes h) in
    record {
      header = header_bytes h;
      tag = take 16 (drop (5 + n) out);
      ciphertext = drop (21 + n) out;
    }

-- the frame written in out
abbrev pub framing : Heading → List ℕ → Result (List ℕ) TelegramFault
framing h out = cond (roomy (length (header_bytes h)) (length out)) (Ok (written (around h out))) (Err Lengths)

-- the frame with the header h was written in out, which is b then
pub record Framed (h : Heading) (out : List ℕ) (at : Places) (b : List ℕ) : Type 0 where
  pub frames : framing h out ≡ Ok b
  pub lies : Lies b (around h out) at
  -- what was written reads back
  pub reads : reading b ≡ Ok (around h out)
  pub heads : header_reading (header_bytes h) ≡ Ok h

-- the places in a telegram with a note of k bytes and a message of m
abbrev pub placing : ℕ → ℕ → Result Places TelegramFault
placing k m = cond (nat_le k 1018 && nat_le m 4096) (Ok (layout (6 + k) m)) (Err Lengths)
