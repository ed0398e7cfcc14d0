use Rattle.std.proofs.Common.{map, take, [], ◌∷◌, ◌++◌, sym, ap, ◌∙◌, ap₂, rules}
use lib.Bits.{bit_xor}
use Rattle.block.specs.Bytes.{spelled}
use Rattle.block.specs.Num.{num}
use Rattle.mode.specs.Hash.{poly}
use Rattle.mode.proofs.Hashes.{poly_none, poly_turn}
use Rattle.mode.proofs.Pads.{blocks_cut, blocks_more, padded-whole, padded_part}
use Rattle.mode.proofs.hash.polynomial.Goals as goal

pub loop-block-init : goal.loop-block-init
loop-block-init g c = sym (poly_none (g.M.Multiplier.element c.args.multiplier.now))

pub loop-block-preserved : goal.loop-block-preserved
loop-block-preserved g c =
    let l = g.M.Multiplier.element c.args.multiplier.now in
    let cs = c.as_chunks.result.0.now in
    let i = c.loop-block.block-index in
    poly_turn l (map spelled (take i cs)) (num c.loop-block.sum) (num c.from_bytes.result) (num c.bitxor-sum.result) (search rules)
    c.loop-block.invariant (c.bitxor-sum.ensures ∙ ap (λ x. bit_xor x (num c.from_bytes.result)) c.times.ensures)
    ∙ ap (λ b. poly l (map spelled (take i cs) ++ (b ∷ []))) c.from_bytes.ensures
    ∙ ap (poly l) (sym (blocks_more cs i c.loop-block-test.true))

pub returns-then-not-is_whole : goal.returns-then-not-is_whole
returns-then-not-is_whole g c =
    let l = g.M.Multiplier.element c.args.multiplier.now in
    let cs = c.as_chunks.result.0.now in
    let i = c.loop-block.block-index in
    poly_turn l (map spelled (take i cs)) (num c.loop-block.sum) (num c.filled.result) (num c.bitxor-sum-then-not-is_whole.result) (search rules)
    c.loop-block.invariant (c.bitxor-sum-then-not-is_whole.ensures ∙ ap (λ x. bit_xor x (num c.filled.result)) c.times-then-not-is_whole.ensures)
    ∙ ap₂ (λ bs b. poly l (bs ++ (b ∷ []))) (blocks_cut c.args.text.now cs i c.as_chunks.ensures.front c.loop-block-test.false) c.filled.ensures
    ∙ ap (poly l) (sym (padded_part c.args.text.now c.as_chunks.result.1.now c.as_chunks.ensures.back (sym c.if-not-is_whole.ensures)))

pub returns-else-not-is_whole : goal.returns-else-not-is_whole
returns-else-not-is_whole g c =
    let l = g.M.Multiplier.element c.args.multiplier.now in
    c.loop-block.invariant
    ∙ ap (poly l) (blocks_cut c.args.text.now c.as_chunks.result.0.now c.loop-block.block-index c.as_chunks.ensures.front c.loop-block-test.false)
    ∙ ap (poly l) (sym (padded-whole c.args.text.now (sym c.if-not-is_whole.ensures)))
