-- What a line is answered, under a cipher's scheme s; n is the line's number.
use Rattle.std.specs.Prelude.{ℕ, cond, List, replicate, Some, None, Ok, Err, Option, Result}
use Rattle.block.specs.Bytes.{bytes}
use Rattle.cipher.specs.Scheme.{Scheme}
use Rattle.lines.specs.declared.fault.LineFault.{LineFault}
use Rattle.lines.specs.Lines.{ToWrap, ToUnwrap, wrap_line, unwrap_line}
use Rattle.mode.specs.Sealing.{Sealed, sealed, opened}
use Rattle.seal.specs.declared.fault.SealFault.TheVariants.{Size, Mismatch}
use Rattle.seal.specs.Sizes.{sized}
use Rattle.seal.specs.Wrapping.{given}
use Rattle.answers.specs.Texts.{sealed_text, opened_text, refused_text, malformed_text}

-- the buffer that a tag is written into
abbrev pub no_tag : List ℕ
no_tag = replicate 16 0

abbrev pub sealed_reply : Sealed → List ℕ
sealed_reply c = sealed_text (bytes 16 c.tag) c.text

-- to a message that was read: what it seals to, where the sizes are taken
abbrev pub wrap_reply : Scheme → ToWrap → List ℕ
wrap_reply s w = cond (sized s w.key w.header no_tag w.message) (sealed_reply (sealed s w.key w.header w.message)) (refused_text Size)

abbrev pub opened_reply : Option (List ℕ) → List ℕ
opened_reply (Some m) = opened_text m
opened_reply None = refused_text Mismatch

-- to a ciphertext that was read: what it opens to, where the sizes are taken
abbrev pub unwrap_reply : Scheme → ToUnwrap → List ℕ
unwrap_reply s u = cond (sized s u.key u.header u.tag u.ciphertext) (opened_reply (opened s u.key u.header (given u.tag u.ciphertext))) (refused_text Size)

-- `to` answers what was read; a line that is not read is answered by its number and what is wrong
abbrev pub reply : {X : Type 0} → ℕ → (X → List ℕ) → Result X LineFault → List ℕ
reply n to (Ok x) = to x
reply n to (Err fault) = malformed_text n fault

-- to the line KEY HEADER MESSAGE
abbrev pub wrap_answer : Scheme → ℕ → List ℕ → List ℕ
wrap_answer s n line = reply n (wrap_reply s) (wrap_line line)

-- to the line KEY HEADER TAG CIPHERTEXT
abbrev pub unwrap_answer : Scheme → ℕ → List ℕ → List ℕ
unwrap_answer s n line = reply n (unwrap_reply s) (unwrap_line line)
