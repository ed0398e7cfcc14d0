use Rattle.std.proofs.Common.{◌≡◌, ℕ, ◌+◌, ◌-◌, List, ◌∷◌, ◌++◌, map, take, refl, ap, ◌∙◌, arith}
use Rattle.std.proofs.lemmas.List.{take_all, append-nil}
use Rattle.fips197.specs.KeyExpansion.{expand, round_keys_of}
use Rattle.aes.specs.declared.columns.Columns.{Columns}
use Rattle.aes.specs.Columns.{state_of}
use Rattle.aes.proofs.Expansion.{after, after_none, after_more, expand_is, made_more}
use Rattle.aes.proofs.expand.expand.Goals as goal

pub loop-next-init : goal.loop-next-init
loop-next-init c = refl

pub loop-next-preserved : goal.loop-next-preserved
loop-next-preserved c =
    let keys = c.loop-next.next-items in
    let i = c.loop-next.next-index in
    let next = c.next_key-key.result in
    made_more keys i next (after (10 - (i + 1)) c.doubled-rcon.result (state_of next)) (omega arith)
    ∙ ap (λ (ks : List (List ℕ)). map state_of (take i keys) ++ ks)
    (after_more (10 - (i + 1)) (10 - i) c.loop-next.rcon c.doubled-rcon.result (state_of c.loop-next.key) (state_of next) (omega arith) c.doubled-rcon.ensures c.next_key-key.ensures)
    ∙ c.loop-next.invariant

pub returns : goal.returns
unfolding round_keys_of
returns c =
    let keys = c.loop-next.next-items in
    let end : c.loop-next.next-index ≡ 10 = omega arith in
    let whole : take 10 keys ≡ keys = take_all 10 keys (omega arith) in
    let made : map state_of keys ≡ after 10 1 (state_of c.from-key.result) = rw (end, whole, after_none, append-nil) at c.loop-next.invariant in
    ap (λ (ks : List Columns). state_of c.from-key.result ∷ map state_of ks) (append-nil keys)
    ∙ ap (λ (ks : List (List ℕ)). state_of c.from-key.result ∷ ks) made
    ∙ expand_is 10 1 (state_of c.from-key.result) ∙ ap (expand 10 1) c.from-key.ensures
