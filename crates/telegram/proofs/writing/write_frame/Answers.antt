use Rattle.std.proofs.Common.{[], ◌∷◌, get_or, ap, arith, ◌∙◌}
use Rattle.telegram.specs.Header.{heading}
use Rattle.telegram.proofs.Frames.{framed}
use Rattle.telegram.proofs.writing.write_frame.Goals as goal

pub returns : goal.returns
returns c =
    let header_len = c.in_ok-size.ensures in
    let sizes = c.in_ok-sizes.ensures in
    framed (heading c.args.header.now) c.args.out.now c.in_ok-sizes.sizes.header c.in_ok-sizes.sizes.message
    (omega arith) (omega arith) (omega arith) c.in_ok-sizes.sizes.message_short c.put.ensures.serial
    c.from-places.result _ _ _ c.from-places.ensures
    (c.copy_from_slice.ensures.after ∙ ap (λ r. 1 ∷ get_or r 0 0 ∷ get_or r 1 0 ∷ []) c.length_bytes.ensures) c.put.ensures.writes
    (c.copy_from_slice-2.ensures.after ∙ c.length_bytes-2.ensures)
