use Rattle.std.proofs.Common.{◌≡◌, [], refl, rules}
use Rattle.sms_relay_run.specs.Sending.{SendsFor}
use Rattle.sms_relay_run.proofs.Relaying.{sent_as, stands_as}
use Rattle.sms_relay_run.proofs.centre.relay_started.Goals as goal

pub returns-in-Ok : goal.returns-in-Ok
returns-in-Ok c = λ unit handsets_are frame_is named relays.
    let given = c.in-Ok.ensures.given in
    let call = given.3 in
    let none : c.new.result.rows ≡ [] = rw c.new.ensures refl in
    let represents = stands_as c.args.centre c.args.from c.args.now unit _ c.args.handsets.now _ given.0 c.rows_for-rows.ensures.rows handsets_are none given.2 in
    let met = call.met in
    let sent : SendsFor c.args.from c.args.frame.now c.args.to call.shown.now c.in-Ok.relayed = search rules in
    sent_as c.args.centre c.args.from c.args.frame.now c.args.now unit c.args.to call.shown.now given.0 c.in-Ok.relayed sent call.shows represents frame_is named relays
