-- What an answer says after a step that failed.
use Rattle.std.proofs.Common.{◌≡◌, ℕ, ◌<◌, false, List, [], ◌∷◌, length, Some, Ok, Err, codes, refl, ap, ◌∙◌, arith}
use Rattle.std.specs.Str.{bytes_eq}
use Rattle.std.proofs.lemmas.Bool.{cond-false}
use Rattle.lines.specs.declared.fault.Field.TheVariants.{Header}
use Rattle.lines.specs.declared.fault.Form.TheVariants.{Wrap, Unwrap}
use Rattle.lines.specs.declared.fault.LineFault.TheVariants.{TooManyFields}
use Rattle.lines.specs.Answers.{and_then}
use Rattle.lines.specs.Hex.{reading}
use Rattle.lines.specs.Lines.{header_reading, wrap_fields, unwrap_fields}

header_is_hex : (text : List ℕ) → bytes_eq text (codes "absent") ≡ false → header_reading text ≡ and_then (reading Header text) (λ bs. Ok (Some bs))
header_is_hex text e = cond-false _ _ _ e

pub header_read : (text bs : List ℕ) → bytes_eq text (codes "absent") ≡ false → reading Header text ≡ Ok bs → header_reading text ≡ Ok (Some bs)
header_read text bs e h = header_is_hex text e ∙ ap (λ a. and_then a (λ bs. Ok (Some bs))) h

-- A field too many.
pub wrap_fourth : (k h m : List ℕ) (more : List (List ℕ)) → 0 < length more → wrap_fields (k ∷ h ∷ m ∷ more) ≡ Err (TooManyFields Wrap)
wrap_fourth k h m [] l = absurd (omega arith)
wrap_fourth k h m (x ∷ xs) l = refl

pub unwrap_fifth : (k h t c : List ℕ) (more : List (List ℕ)) → 0 < length more → unwrap_fields (k ∷ h ∷ t ∷ c ∷ more) ≡ Err (TooManyFields Unwrap)
unwrap_fifth k h t c [] l = absurd (omega arith)
unwrap_fifth k h t c (x ∷ xs) l = refl
