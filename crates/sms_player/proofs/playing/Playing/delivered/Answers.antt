use Rattle.std.proofs.Common.{ap, Option, sym, subst}
use Rattle.std.specs.Prelude.{OnOk}
use Rattle.sms_play.specs.growth.Growth.{IsCentreEvent}
use Rattle.sms_play.specs.PlayState.{frame_at}
use Rattle.sms_play.specs.Meeting.{delivered}
use Rattle.sms_player.specs.playing.Playing.{Hands, LeadsTo, carried_out}
use Rattle.sms_player.specs.declared.playing.acts.Handed.{Handed}
use Rattle.sms_player.proofs.playing.Handing.{among_at, handed_is, none_handed}
use Rattle.sms_script.specs.declared.report.rows.FrameRow.{FrameRow}
use Rattle.sms_script.specs.declared.event.Act.TheVariants.{Deliver}
use Rattle.sms_player.proofs.playing.Playing.delivered.Goals as goal

pub returns-in-Ok-Some-clause-leads : goal.returns-in-Ok-Some-clause-leads
returns-in-Ok-Some-clause-leads c = λ play shown.
    let is = handed_is (frame_at c.args.number play.bag) c.in-Ok-Some.handed (subst (λ (o : Option Handed). Hands o (frame_at c.args.number play.bag)) c.in-Ok-Some.field-0-is (c.in-Ok-Some.ensures play shown)) in
    subst (λ (o : Option FrameRow). LeadsTo c.hand_over.result c.hand_over.new.self (carried_out c.args.stop c.args.event (Deliver c.args.number) (delivered c.args.event o play) play)) (sym is.1.0)
    (c.hand_over.ensures.leads play is.0 c.args.number shown (among_at c.args.number play.bag is.0 is.1.0) is.1.1)

pub returns-in-Ok-None-clause-leads : goal.returns-in-Ok-None-clause-leads
returns-in-Ok-None-clause-leads c = λ play shown.
    ap (λ (o : Option FrameRow). carried_out c.args.stop c.args.event (Deliver c.args.number) (delivered c.args.event o play) play) (none_handed (frame_at c.args.number play.bag) (subst (λ (o : Option Handed). Hands o (frame_at c.args.number play.bag)) c.in-Ok-None.field-0-is (c.in-Ok-None.ensures play shown)))

pub returns-in-Ok-Some-clause-fit : goal.returns-in-Ok-Some-clause-fit
returns-in-Ok-Some-clause-fit c = λ play shown.
    let is = handed_is (frame_at c.args.number play.bag) c.in-Ok-Some.handed (subst (λ (o : Option Handed). Hands o (frame_at c.args.number play.bag)) c.in-Ok-Some.field-0-is (c.in-Ok-Some.ensures play shown)) in
    subst (λ (o : Option FrameRow). OnOk c.hand_over.result (IsCentreEvent (delivered c.args.event o play))) (sym is.1.0)
    (c.hand_over.ensures.fit play is.0 shown (among_at c.args.number play.bag is.0 is.1.0) is.1.1)
