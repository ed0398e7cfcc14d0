-- What the two forms of a line ask for.
use Rattle.std.specs.Prelude.{ℕ, cond, List, [], ◌∷◌, Some, None, Ok, Err, vec_items, codes, Option, Result}
use Rattle.std.specs.Option.{option_map}
use Rattle.std.specs.Str.{bytes_eq}
use Rattle.lines.specs.declared.fault.Field.TheVariants.{Key, Header, Message, Tag, Ciphertext}
use Rattle.lines.specs.declared.fault.Form.TheVariants.{Wrap, Unwrap}
use Rattle.lines.specs.declared.fault.LineFault.{LineFault}
use Rattle.lines.specs.declared.fault.LineFault.TheVariants.{TooFewFields, TooManyFields}
use Rattle.lines.specs.declared.request.WrapRequest.{WrapRequest}
use Rattle.lines.specs.declared.request.UnwrapRequest.{UnwrapRequest}
use Rattle.lines.specs.Answers.{and_then}
use Rattle.lines.specs.Blanks.{fields}
use Rattle.lines.specs.Hex.{reading}

-- the bytes of a message to wrap
pub record ToWrap : Type 0 where
  pub key : List ℕ
  pub header : Option (List ℕ)
  pub message : List ℕ

-- the bytes of a message to unwrap
pub record ToUnwrap : Type 0 where
  pub key : List ℕ
  pub header : Option (List ℕ)
  pub tag : List ℕ
  pub ciphertext : List ℕ

abbrev pub to_wrap : WrapRequest → ToWrap
to_wrap r = record { key = vec_items r.key; header = option_map vec_items r.header; message = vec_items r.message }

abbrev pub to_unwrap : UnwrapRequest → ToUnwrap
to_unwrap r = record { key = vec_items r.key; header = option_map vec_items r.header; tag = vec_items r.tag; ciphertext = vec_items r.ciphertext }

-- a header is bytes in hex, or the word `absent` for none
abbrev pub header_reading : List ℕ → Result (Option (List ℕ)) LineFault
header_reading text = cond (bytes_eq text (codes "absent")) (Ok None) (and_then (reading Header text) (λ bs. Ok (Some bs)))

abbrev pub wrap_bytes : List ℕ → List ℕ → List ℕ → Result ToWrap LineFault
wrap_bytes k h m =
    and_then (reading Key k) (λ key.
    and_then (header_reading h) (λ header.
    and_then (reading Message m) (λ message.
    Ok (record { key = key; header = header; message = message }))))

abbrev pub wrap_fields : List (List ℕ) → Result ToWrap LineFault
wrap_fields [] = Err (TooFewFields Wrap)
wrap_fields (k ∷ []) = Err (TooFewFields Wrap)
wrap_fields (k ∷ h ∷ []) = Err (TooFewFields Wrap)
wrap_fields (k ∷ h ∷ m ∷ []) = wrap_bytes k h m
wrap_fields (k ∷ h ∷ m ∷ x ∷ xs) = Err (TooManyFields Wrap)

-- what the line KEY HEADER MESSAGE asks for
abbrev pub wrap_line : List ℕ → Result ToWrap LineFault
wrap_line line = wrap_fields (fields line)

abbrev pub unwrap_bytes : List ℕ → List ℕ → List ℕ → List ℕ → Result ToUnwrap LineFault
unwrap_bytes k h t c =
    and_then (reading Key k) (λ key.
    and_then (header_reading h) (λ header.
    and_then (reading Tag t) (λ tag.
    and_then (reading Ciphertext c) (λ ciphertext.
    Ok (record { key = key; header = header; tag = tag; ciphertext = ciphertext })))))

abbrev pub unwrap_fields : List (List ℕ) → Result ToUnwrap LineFault
unwrap_fields [] = Err (TooFewFields Unwrap)
unwrap_fields (k ∷ []) = Err (TooFewFields Unwrap)
unwrap_fields (k ∷ h ∷ []) = Err (TooFewFields Unwrap)
unwrap_fields (k ∷ h ∷ t ∷ []) = Err (TooFewFields Unwrap)
unwrap_fields (k ∷ h ∷ t ∷ c ∷ []) = unwrap_bytes k h t c
unwrap_fields (k ∷ h ∷ t ∷ c ∷ x ∷ xs) = Err (TooManyFields Unwrap)

-- what the line KEY HEADER TAG CIPHERTEXT asks for
abbrev pub unwrap_line : List ℕ → Result ToUnwrap LineFault
unwrap_line line = unwrap_fields (fields line)
