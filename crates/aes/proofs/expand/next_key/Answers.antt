use Rattle.std.proofs.Common.{ℕ, List, [], ◌∷◌, get_or, ap, ◌∙◌, arith}
use lib.Bits.{bit_xor}
use Rattle.aes.specs.Columns.{unpack}
use Rattle.aes.proofs.Expansion.{next_is}
use Rattle.aes.proofs.expand.next_key.Goals as goal

-- the words, where x is added to the first
chain : List ℕ → ℕ → List ℕ
chain w x =
    let a = bit_xor (get_or w 0 0) x in
    let b = bit_xor (get_or w 1 0) a in
    let c = bit_xor (get_or w 2 0) b in a ∷ b ∷ c ∷ bit_xor (get_or w 3 0) c ∷ []

pub returns : goal.returns
unfolding chain
returns c = ap (λ (x : ℕ). unpack (chain c.args.w.0 x)) c.turned.ensures ∙ next_is c.args.rcon (omega arith) c.args.w.0
