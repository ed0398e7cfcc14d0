use Rattle.std.proofs.Common.{length, ap, ◌∙◌, ap₂}
use Rattle.block.specs.Bytes.{spelled}
use Rattle.telegram.specs.Calls.{parts_of}
use Rattle.telegram.specs.Format.{Parts}
use Rattle.telegram.specs.Header.{Heading, headed, heading}
use Rattle.telegram.specs.Places.{layout}
use Rattle.telegram.proofs.Laws.{reads_sized}
use Rattle.telegram.specs.declared.parts.Places.{Places}
use Rattle.station.proofs.Telling.{reads, heads, written_long}
use Rattle.station.proofs.incoming.Incoming.read.Goals as goal

pub unwrap-requires : goal.unwrap-requires
unwrap-requires c =
    let sized = reads_sized c.args.buffer.now (parts_of c.in_ok-parts.parts) c.in_ok-parts.ensures.reads in
    c.try_into.ensures.0 sized.tag

pub invariant_of-result : goal.invariant_of-result
invariant_of-result c =
    let sized = reads_sized c.args.buffer.now (parts_of c.in_ok-parts.parts) c.in_ok-parts.ensures.reads in
    record { header_sized = sized.header; message_short = sized.ciphertext }

pub returns : goal.returns
returns c =
    let b = c.args.buffer.now in
    let f = c.in_ok-parts.parts in
    let read = c.in_ok-parts.ensures in
    let tells = reads b (parts_of f) read.reads in
    let sized = reads_sized b (parts_of f) read.reads in
    let header = ap (λ (p : Parts). p.header) tells.2 in
    let told = heads f.header.now (heading c.in_ok-told.told) c.in_ok-told.ensures.reads ∙ ap headed header in
    let tag = rw c.unwrap.ensures at c.try_into.ensures.1 in
    record {
      version = tells.0;
      lengths = tells.1;
      gauge = ap (λ (h : Heading). h.gauge) told;
      serial = ap (λ (h : Heading). h.serial) told;
      kind = ap (λ (h : Heading). h.kind) told;
      header_len = ap length header;
      message_len = ap (λ (p : Parts). length p.ciphertext) tells.2;
      tag = c.from_bytes.ensures ∙ ap spelled (tag.same ∙ ap (λ (p : Parts). p.tag) tells.2);
      places = read.lies.places ∙ ap₂ layout (ap length header) (ap (λ (p : Parts). length p.ciphertext) tells.2);
      header = read.lies.header ∙ header;
      there = read.lies.ciphertext ∙ ap (λ (p : Parts). p.ciphertext) tells.2;
      ends = ap (λ (p : Places). p.ciphertext.end) read.lies.places ∙ written_long (parts_of f) sized.tag ∙ ap length read.rewrites;
    }
