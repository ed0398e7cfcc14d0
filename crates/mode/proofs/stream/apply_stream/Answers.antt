use lib.Bits.{bit_xor}
use Rattle.std.proofs.Common.{◌≡◌, ℕ, ◌+◌, ◌-◌, ◌*◌, take, drop, ap, ◌∙◌, arith}
use Rattle.block.specs.Bytes.{bytes}
use Rattle.block.specs.Num.{num}
use Rattle.block.proofs.Spelling.{length-bytes}
use Rattle.mode.specs.Stream.{xors, stream, count, streamed}
use Rattle.mode.proofs.Streams.{done, done_none, done_all, count_is, covers, stream_at, block_turn}
use Rattle.mode.proofs.stream.apply_stream.Goals as goal

pub loop-i-init : goal.loop-i-init
loop-i-init g c = done_none c.args.text.now _

pub loop-i-preserved : goal.loop-i-preserved
loop-i-preserved g c =
    let e = (g.C.Cipher.scheme c.args.cipher.now).enc (g.C.Cipher.loaded c.args.cipher.now) in
    let s = num c.args.start in
    let xs = c.args.text.now in
    let i = c.loop-i.i in
    let n = count xs in
    let count-is-end = count_is xs in
    let next : 16 * i + 16 ≡ 16 * (i + 1) = omega arith in
    let key = c.to_bytes-key.ensures ∙ ap (bytes 16) (c.encipher.ensures ∙ ap e c.counter.ensures) in
    block_turn xs (stream e s 0 n) (bytes 16 (e (bit_xor s (i + 1)))) (stream e s (i + 1) (n - (i + 1))) (16 * i)
    (omega arith) (covers e s xs) (length-bytes 16 (e (bit_xor s (i + 1)))) (stream_at e s i n (omega arith))
    c.loop-i.text c.xor_into.new.part (c.min-end.result - 16 * i) (omega arith) c.loop-i.invariant
    (c.xor_into.ensures ∙ ap (xors (take (c.min-end.result - 16 * i) (drop (16 * i) c.loop-i.text))) key)
    ∙ ap (λ (m : ℕ). done m xs (stream e s 0 n)) next

pub returns : goal.returns
unfolding streamed
returns g c =
    let count-is-end = count_is c.args.text.now in
    c.loop-i.invariant ∙ done_all (16 * c.loop-i.i) c.args.text.now _ (omega arith)
