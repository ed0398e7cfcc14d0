use Rattle.std.proofs.Common.{ℕ, ◌+◌, ◌-◌, List, ◌++◌, length, drop, ap, ◌∙◌, arith, length-drop, length-take-le}
use borrow.Rule.Slice.PartMut.{put_mid}
use Rattle.block.specs.Num.{num}
use Rattle.mode.specs.Keys.{keys}
use Rattle.mode.specs.Sealing.{sealed_with}
use Rattle.telegram.specs.Header.{Heading, header_bytes}
use Rattle.telegram.specs.Kind.{kind_byte}
use Rattle.station.proofs.Written.{telegram_written}
use Rattle.station.proofs.outgoing.Outgoing.write.Goals as goal

pub returns : goal.returns
returns g c =
    let k = keys g.C.Cipher g.M.Multiplier c.args.hbs.now in
    let h : Heading = record { gauge = c.args.gauge; serial = c.args.serial; kind = kind_byte c.args.self.now.kind; note = c.args.self.now.note.now } in
    let out = c.args.out.now in
    let n = length (header_bytes h) in
    let framed = c.in_ok-places.ensures in
    let at = c.in_ok-places.places in
    let front = c.split_at_mut-front.result.0.now in
    let text = c.seal-sealed.new.text in
    let copied = c.copy_from_slice.ensures.after in
    ap (λ (tag : List ℕ). put_mid at.tag.start (at.tag.end - at.tag.start) front tag ++ text) (c.copy_from_slice-2.ensures.after ∙ c.to_bytes.ensures)
    ∙ telegram_written k h c.args.self.now.message.now out c.write_frame.new.out at (num c.seal-sealed.result) front text
    (length-take-le 16 (drop (5 + n) out) (omega (arith, length-drop (5 + n) out, c.requires)))
    (omega (arith, c.seal-sealed.auto.text, ap length copied, length-drop (21 + n) out, c.requires))
    framed.frames framed.lies.places c.split_at_mut-front.ensures.front (c.seal-sealed.ensures ∙ ap (sealed_with k _) copied)
