use Rattle.std.proofs.Common.{ℕ, List, get_or, ap, rules}
use Rattle.fips197.specs.State.{IsState}
use Rattle.aes_tables.specs.Words.{word}
use Rattle.aes.proofs.Unpacked.{words_are}
use Rattle.aes.proofs.columns.ColumnsFromArrayU816.from.Goals as goal

pub returns : goal.returns
unfolding word
returns c =
    let b : IsState c.args.bytes = record { long = search rules; all = λ k h. search rules } in
    let at = λ (i : ℕ). ap (λ (xs : List ℕ). get_or xs i 0) c.be_words.ensures in
    words_are _ c.args.bytes b (at 0, at 1, at 2, at 3)
