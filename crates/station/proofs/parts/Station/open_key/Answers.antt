use Rattle.std.proofs.Common.{◌≡◌, length, sym, ap, ◌∙◌, rules}
use Rattle.std.specs.List.{between}
use Rattle.std.specs.Option.{option_copied_mut}
use Rattle.std.proofs.lemmas.Result.{err_from_is_err_and}
use Rattle.station.specs.Answers.{refusal}
use Rattle.station.specs.State.{running, wait, waiting}
use Rattle.station.proofs.Opens.{key_accepted, key_refused, message_long, message_there, ordered, own_stays, part_short, waits}
use Rattle.station.proofs.parts.Station.open_key.Goals as goal

pub returns-in_err-incoming : goal.returns-in_err-incoming
returns-in_err-incoming g c =
    let s = running g.C.Cipher g.M.Multiplier c.args.self.now.hbs c.in_ok-ledger.ledger.now in
    let admit = c.in_err-incoming.ensures.admits in
    let from = err_from_is_err_and c.from_residual-in_err-incoming.result c.from_residual-in_err-incoming.ensures.1 in
    rw (sym c.as_mut.ensures.value ∙ ap option_copied_mut c.in_ok-ledger.ensures.ok_part)
    (key_refused s c.args.buffer.now _ admit.moves (refusal c.in_err-incoming.field-0.0) admit.answers (simp (from.1, from.2)) (search rules))

pub new-requires : goal.new-requires
new-requires g c =
    let s = running g.C.Cipher g.M.Multiplier c.args.self.now.hbs c.in_ok-ledger.ledger.now in
    let opens = c.in_ok-incoming.ensures.admits.answers in
    part_short c.args.buffer.now c.in_ok-incoming.incoming opens.told s opens.passed
    (g.met.C.Cipher.lawful c.args.self.now.hbs.cipher).few c.contents.result.now

pub returns : goal.returns
returns g c =
    let s = running g.C.Cipher g.M.Multiplier c.args.self.now.hbs c.in_ok-ledger.ledger.now in
    let b = c.args.buffer.now in
    let i = c.in_ok-incoming.incoming in
    let admit = c.in_ok-incoming.ensures.admits in
    let opens = admit.answers in
    let m = opens.message in
    let t = running g.C.Cipher g.M.Multiplier c.args.self.now.hbs c.admit.new.self in
    let left = c.contents.ensures ∙ opens.leaves in
    let long = message_long b i opens.told m c.contents.result.now left (ap length c.contents.ensures ∙ admit.long) in
    let key : between i.places.ciphertext.start i.places.ciphertext.end c.contents.result.now ≡ m =
    ap (between i.places.ciphertext.start i.places.ciphertext.end) left ∙ message_there b i opens.told m long in
    rw (sym c.as_mut.ensures.value ∙ ap option_copied_mut c.in_ok-ledger.ensures.ok_part)
    (key_accepted s b t admit.moves opens.passed m opens.opens
    (ordered b i opens.told s _ (own_stays s b t admit.moves opens.passed)) (search rules)
    (waiting c.new.result) (c.new.ensures ∙ ap (wait i.gauge i.serial) key ∙ waits b i opens.told s m))
