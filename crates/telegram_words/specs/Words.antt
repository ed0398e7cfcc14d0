-- What is told of a telegram, one part to a line.
use Rattle.std.specs.Prelude.{ℕ, cond, List, ◌++◌, length, Ok, Err, codes, decimal, Result, ◌==◌}
use Rattle.lines.specs.Hex.{encoded}
use Rattle.telegram.specs.declared.fault.TelegramFault.{TelegramFault}
use Rattle.telegram.specs.Answers.{refusal, words}
use Rattle.telegram.specs.Format.{Parts, reading}
use Rattle.telegram.specs.declared.parts.Places.{Places}
use Rattle.telegram.specs.Header.{Heading, header_reading}
use Rattle.telegram.specs.Places.{layout}

-- a kind by its name, or by its number
abbrev pub text_of_kind : ℕ → List ℕ
text_of_kind kind = cond (kind == 0) (codes "measurement") (cond (kind == 1) (codes "key") (decimal kind))

-- `gauge: 3`, `serial: 1` and `kind: key`
abbrev pub text_of_head : Heading → List ℕ
text_of_head h = codes "gauge: " ++ (decimal h.gauge ++ (codes "\nserial: " ++ (decimal h.serial ++ (codes "\nkind: " ++ text_of_kind h.kind))))

-- `name: at 21, length 16: 00..`, in hex
abbrev pub text_of_part : List ℕ → ℕ → List ℕ → List ℕ
text_of_part name start bytes = name ++ (codes ": at " ++ (decimal start ++ (codes ", length " ++ (decimal (length bytes) ++ (codes ": " ++ encoded bytes)))))

-- `refused NUMBER telegram: words`
abbrev pub refused_fields : TelegramFault → List ℕ
refused_fields fault = codes "refused " ++ (decimal (refusal fault) ++ (codes " telegram: " ++ words fault))

-- the parts, with where each starts; the note stands behind the header's six other bytes
abbrev pub text_of_parts : Parts → Places → Heading → List ℕ
text_of_parts p at h =
    text_of_head h
    ++ (codes "\n" ++ (text_of_part (codes "note") 9 h.note
    ++ (codes "\n" ++ (text_of_part (codes "tag") at.tag.start p.tag
    ++ (codes "\n" ++ text_of_part (codes "ciphertext") at.ciphertext.start p.ciphertext)))))

abbrev pub headed_fields : Parts → Result Heading TelegramFault → List ℕ
headed_fields p (Ok h) = text_of_parts p (layout (length p.header) (length p.ciphertext)) h
headed_fields p (Err fault) = refused_fields fault

abbrev pub parts_fields : Result Parts TelegramFault → List ℕ
parts_fields (Ok p) = headed_fields p (header_reading p.header)
parts_fields (Err fault) = refused_fields fault

-- of the bytes b
abbrev pub fields_answer : List ℕ → List ℕ
fields_answer b = parts_fields (reading b)
