-- A vector of the mode holds of a scheme: each of its lines is answered as it says.
use Rattle.std.specs.Prelude.{◌≡◌, string_bytes}
use Rattle.answers.specs.Replies.{unwrap_answer, wrap_answer}
use Rattle.cipher.specs.Scheme.{Scheme}
use Rattle.outside_vectors.specs.declared.messages.MessageVector.{MessageVector}

pub record Holds (s : Scheme) (v : MessageVector) : Type 0 where
  pub sealed : wrap_answer s 1 (string_bytes v.sealed.line) ≡ string_bytes v.sealed.answer
  pub opened : unwrap_answer s 1 (string_bytes v.opened.line) ≡ string_bytes v.opened.answer
  pub damaged : unwrap_answer s 1 (string_bytes v.damaged.line) ≡ string_bytes v.damaged.answer
