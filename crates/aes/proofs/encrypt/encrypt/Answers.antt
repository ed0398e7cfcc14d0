use Rattle.std.proofs.Common.{◌≡◌, ◌+◌, List, [], map, get_or, take, drop, refl, sym, ap, ◌∙◌, drop_of_length-le}
use Rattle.std.proofs.lemmas.List.{at_drop_more}
use Rattle.fips197.specs.State.{add_round_key, shift_rows, sub_bytes}
use Rattle.fips197.proofs.Rounds.{middle}
use Rattle.aes.specs.declared.columns.Columns.{Columns}
use Rattle.aes.specs.Columns.{state_of}
use Rattle.aes.proofs.Turns.{cipher_of}
use Rattle.aes.proofs.encrypt.encrypt.Goals as goal

pub loop-key-init : goal.loop-key-init
loop-key-init c = refl

pub loop-key-preserved : goal.loop-key-preserved
loop-key-preserved c =
    let keys = take 9 (drop 1 c.args.keys.now) in
    let i = c.loop-key.key-index in
    let added = c.bitxor-t-in-loop-key.ensures ∙ ap (add_round_key (state_of (get_or keys i (record { 0 = [] })))) c.round.ensures in
    ap (middle (map state_of (drop (i + 1) keys))) added
    ∙ sym (at_drop_more (λ (ks : List Columns). middle (map state_of ks) (state_of c.loop-key.t)) keys i (record { 0 = [] }) c.loop-key-test.true)
    ∙ c.loop-key.invariant

pub returns : goal.returns
returns c =
    let keys = take 9 (drop 1 c.args.keys.now) in
    let t = state_of c.loop-key.t in
    let none_left : drop c.loop-key.key-index keys ≡ [] = drop_of_length-le keys c.loop-key-test.false in
    let done : t ≡ middle (map state_of keys) (state_of c.bitxor-t.result) = rw none_left at c.loop-key.invariant in
    let last : state_of c.bitxor.result ≡ add_round_key (state_of (get_or c.args.keys.now 10 (record { 0 = [] }))) (shift_rows (sub_bytes t)) = cc in
    last ∙ cipher_of c.args.keys.now c.told-keys (state_of c.args.s) t (done ∙ ap (middle (map state_of keys)) c.bitxor-t.ensures)
