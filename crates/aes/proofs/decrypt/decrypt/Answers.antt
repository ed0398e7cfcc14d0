use Rattle.std.proofs.Common.{◌≡◌, List, [], ◌∷◌, map, take, drop, refl, sym, ap, ◌∙◌, arith, drop_of_length-le}
use Rattle.std.proofs.lemmas.List.{map-append}
use Rattle.fips197.specs.State.{inv_mix_columns, add_round_key}
use Rattle.fips197.proofs.Rounds.{inv_middle, inv_middle-push}
use Rattle.aes.specs.declared.columns.Columns.{Columns}
use Rattle.aes.specs.Columns.{state_of}
use Rattle.aes.proofs.Turns.{inv_cipher_of}
use Rattle.aes.proofs.decrypt.decrypt.Goals as goal

pub loop-key-init : goal.loop-key-init
loop-key-init c = refl

pub loop-key-preserved : goal.loop-key-preserved
loop-key-preserved c =
    let rest = c.next.new.self.iter.rest.now in
    let key = c.in-Some.key.now in
    let t = state_of c.loop-key.t in
    let mixed = c.inv_mix_columns-t.ensures ∙ ap inv_mix_columns (c.bitxor.ensures ∙ ap (add_round_key (state_of key)) c.turned.ensures) in
    ap (inv_middle (map state_of rest)) mixed
    ∙ sym (ap (λ (ks : List Columns). inv_middle (map state_of ks) t) c.in-Some.ensures.steps
    ∙ ap (λ (ks : List (List _)). inv_middle ks t) (map-append state_of rest (key ∷ []))
    ∙ inv_middle-push (map state_of rest) (state_of key) t)
    ∙ c.loop-key.invariant

pub returns : goal.returns
returns c =
    let keys = take 9 (drop 1 c.args.keys.now) in
    let t = state_of c.loop-key.t in
    let all : c.into_iter-key-iterator.result.iter.rest.now ≡ keys = cc in
    let none_left : c.loop-key.key-iterator.iter.rest.now ≡ [] = drop_of_length-le c.loop-key.key-iterator.iter.rest.now {i = 0} (omega (arith, c.in-None.ensures.steps.0)) in
    let done : t ≡ inv_middle (map state_of keys) (state_of c.bitxor-t.result) = rw (none_left, all) at c.loop-key.invariant in
    c.bitxor-2.ensures ∙ ap (add_round_key _) c.turned-2.ensures
    ∙ inv_cipher_of c.args.keys.now c.told-keys (state_of c.args.s) t (done ∙ ap (inv_middle (map state_of keys)) c.bitxor-t.ensures)
