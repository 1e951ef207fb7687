use Rattle.std.proofs.Common.{sym, subst}
use Rattle.std.specs.Prelude.{OnOk}
use Rattle.sms_play.specs.growth.Growth.{IsCentreEvent}
use Rattle.sms_play.specs.Meeting.{meeting_of}
use Rattle.sms_player.proofs.playing.Fitting.{anyhow, fits_as}
use Rattle.sms_script.specs.declared.event.Act.{Act}
use Rattle.sms_player.proofs.playing.Playing.act.Goals as goal

pub returns-in-Submit-clause-fit : goal.returns-in-Submit-clause-fit
returns-in-Submit-clause-fit c = λ play shown. fits_as c.submitted.result c.args.event c.args.act.now _ play c.in-Submit.is tt

pub returns-in-Query-clause-fit : goal.returns-in-Query-clause-fit
returns-in-Query-clause-fit c = λ play shown. fits_as c.queried.result c.args.event c.args.act.now _ play c.in-Query.is tt

pub returns-in-Cancel-clause-fit : goal.returns-in-Cancel-clause-fit
returns-in-Cancel-clause-fit c = λ play shown. fits_as c.cancelled.result c.args.event c.args.act.now _ play c.in-Cancel.is tt

pub returns-in-Write-clause-fit : goal.returns-in-Write-clause-fit
returns-in-Write-clause-fit c = λ play shown. fits_as c.written.result c.args.event c.args.act.now _ play c.in-Write.is tt

pub returns-in-Delete-clause-fit : goal.returns-in-Delete-clause-fit
returns-in-Delete-clause-fit c = λ play shown. fits_as c.deleted.result c.args.event c.args.act.now _ play c.in-Delete.is tt

pub returns-in-Discard-clause-fit : goal.returns-in-Discard-clause-fit
returns-in-Discard-clause-fit c = λ play shown. fits_as c.discarded.result c.args.event c.args.act.now _ play c.in-Discard.is tt

pub returns-in-Deliver-clause-fit : goal.returns-in-Deliver-clause-fit
returns-in-Deliver-clause-fit c = λ play shown. subst (λ (a : Act). OnOk c.delivered.result (IsCentreEvent (meeting_of c.args.event a play))) (sym c.in-Deliver.is) (c.delivered.ensures.fit play shown)

pub returns-in-Tick-clause-fit : goal.returns-in-Tick-clause-fit
returns-in-Tick-clause-fit c = λ play shown.
    anyhow c.ticked.result (IsCentreEvent (meeting_of c.args.event c.args.act.now play))
    (subst (λ (a : Act). IsCentreEvent (meeting_of c.args.event a play)) (sym c.in-Tick.is) (c.ticked.ensures.fit play))
