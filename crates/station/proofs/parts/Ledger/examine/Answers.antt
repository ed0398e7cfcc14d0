use Rattle.std.proofs.Common.{ℕ, leb, refl, ap, ◌∙◌, ap₂}
use Rattle.std.proofs.lemmas.Result.{err_from_is_err_and}
use Rattle.station.specs.State.{last_of, running}
use Rattle.station.specs.Use.{counted}
use Rattle.station.proofs.Admits.{stops_8, stops_9, stops_10, stops_12, stops_13, passes_all}
use Rattle.station.proofs.parts.Ledger.examine.Goals as goal

pub returns-then-is_unwanted : goal.returns-then-is_unwanted
returns-then-is_unwanted g c =
    let s = running g.C.Cipher g.M.Multiplier c.args.hbs.now c.args.self.now in
    let told = c.in_ok-incoming.ensures in
    stops_8 s c.args.wanted c.args.buffer.now c.in_ok-incoming.incoming told refl (c.if-is_unwanted.ensures c.args.buffer.now told)

pub returns-in_err-sender : goal.returns-in_err-sender
returns-in_err-sender g c =
    let s = running g.C.Cipher g.M.Multiplier c.args.hbs.now c.args.self.now in
    let told = c.in_ok-incoming.ensures in
    let from = err_from_is_err_and c.from_residual-in_err-sender.result c.from_residual-in_err-sender.ensures.1 in
    simp (from.1, from.2, c.in_err-sender.ensures.1) (stops_9 s c.args.wanted c.args.buffer.now c.in_ok-incoming.incoming told refl (c.if-is_unwanted.ensures c.args.buffer.now told) c.in_err-sender.ensures.0)

pub returns-then-is_barred : goal.returns-then-is_barred
returns-then-is_barred g c =
    let s = running g.C.Cipher g.M.Multiplier c.args.hbs.now c.args.self.now in
    let told = c.in_ok-incoming.ensures in
    stops_10 s c.args.wanted c.args.buffer.now c.in_ok-incoming.incoming told refl (c.if-is_unwanted.ensures c.args.buffer.now told) c.in_ok-sender.ensures.0 c.if-is_barred.ensures

pub returns-then-is_stale : goal.returns-then-is_stale
returns-then-is_stale g c =
    let s = running g.C.Cipher g.M.Multiplier c.args.hbs.now c.args.self.now in
    let told = c.in_ok-incoming.ensures in
    let old = c.if-is_stale.ensures ∙ ap (λ (n : ℕ). leb c.in_ok-incoming.incoming.serial (last_of n s.gauges)) c.in_ok-sender.ensures.1 in
    stops_12 s c.args.wanted c.args.buffer.now c.in_ok-incoming.incoming told refl (c.if-is_unwanted.ensures c.args.buffer.now told) c.in_ok-sender.ensures.0 c.if-is_barred.ensures old

pub returns-in_err-wear : goal.returns-in_err-wear
returns-in_err-wear g c =
    let s = running g.C.Cipher g.M.Multiplier c.args.hbs.now c.args.self.now in
    let told = c.in_ok-incoming.ensures in
    let from = err_from_is_err_and c.from_residual-in_err-wear.result c.from_residual-in_err-wear.ensures.1 in
    let fresh = c.if-is_stale.ensures ∙ ap (λ (n : ℕ). leb c.in_ok-incoming.incoming.serial (last_of n s.gauges)) c.in_ok-sender.ensures.1 in
    simp (from.1, from.2, c.in_err-wear.ensures.1)
    (stops_13 s c.args.wanted c.args.buffer.now c.in_ok-incoming.incoming told refl (c.if-is_unwanted.ensures c.args.buffer.now told) c.in_ok-sender.ensures.0 c.if-is_barred.ensures fresh c.in_err-wear.ensures.0)

pub returns : goal.returns
returns g c =
    let s = running g.C.Cipher g.M.Multiplier c.args.hbs.now c.args.self.now in
    let told = c.in_ok-incoming.ensures in
    let fresh = c.if-is_stale.ensures ∙ ap (λ (n : ℕ). leb c.in_ok-incoming.incoming.serial (last_of n s.gauges)) c.in_ok-sender.ensures.1 in
    record {
      passed = passes_all s c.args.wanted c.args.buffer.now c.in_ok-incoming.incoming told refl (c.if-is_unwanted.ensures c.args.buffer.now told) c.in_ok-sender.ensures.0 c.if-is_barred.ensures fresh c.in_ok-wear.ensures.0;
      told = told;
      sender = c.in_ok-sender.ensures.1;
      wear = c.in_ok-wear.ensures.1 ∙ ap₂ (λ h m. counted h m s.used) told.header_len told.message_len;
    }
