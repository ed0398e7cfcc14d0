-- The lines that are answered.
use Rattle.std.specs.Prelude.{ℕ, List, ◌++◌, codes, decimal}
use Rattle.lines.specs.declared.fault.LineFault.{LineFault}
use Rattle.lines.specs.Hex.{encoded}
use Rattle.lines.specs.Words.{fault_text}
use Rattle.seal.specs.declared.fault.SealFault.{SealFault}
use Rattle.seal.specs.Answers.{refusal, words}

-- `accepted TAG CIPHERTEXT`, in hex
abbrev pub sealed_text : List ℕ → List ℕ → List ℕ
sealed_text tag ciphertext = codes "accepted " ++ (encoded tag ++ (codes " " ++ encoded ciphertext))

-- `accepted MESSAGE`, in hex
abbrev pub opened_text : List ℕ → List ℕ
opened_text message = codes "accepted " ++ encoded message

-- `refused NUMBER seal: words`
abbrev pub refused_text : SealFault → List ℕ
refused_text fault = codes "refused " ++ (decimal (refusal fault) ++ (codes " seal: " ++ words fault))

-- `malformed line N: words`
abbrev pub malformed_text : ℕ → LineFault → List ℕ
malformed_text n fault = codes "malformed line " ++ (decimal n ++ (codes ": " ++ fault_text fault))
