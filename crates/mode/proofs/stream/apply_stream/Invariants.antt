use Rattle.std.proofs.Common.{◌≡◌, ◌*◌}
use Rattle.block.specs.Num.{num}
use Rattle.mode.specs.Stream.{stream, count}
use Rattle.mode.proofs.Streams.{done}
use Rattle.mode.proofs.stream.apply_stream.Given as goal

-- the blocks so far are under the stream
abbrev pub invariant-loop-i : goal.invariant-loop-i
invariant-loop-i g l =
    l.text ≡ done (16 * l.i) l.initial.text (stream ((g.C.Cipher.scheme l.cipher).enc (g.C.Cipher.loaded l.cipher)) (num l.start) 0 (count l.initial.text))
