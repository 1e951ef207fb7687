use Rattle.std.proofs.Common.{sym, subst}
use Rattle.std.specs.Prelude.{OnOk}
use Rattle.sms_play.specs.growth.Growth.{IsFit}
use Rattle.sms_play.specs.PlayedEvent.{played}
use Rattle.sms_player.proofs.playing.Fitting.{anyhow}
use Rattle.sms_player.specs.playing.Playing.{LeadsTo}
use Rattle.sms_script.specs.declared.event.WorldEvent.{WorldEvent}
use Rattle.sms_player.proofs.playing.Playing.play.Goals as goal

pub returns-in-Whole-clause-leads : goal.returns-in-Whole-clause-leads
returns-in-Whole-clause-leads c = λ play shown. subst (λ (e : WorldEvent). LeadsTo c.act.result c.act.new.self (played c.args.number e play)) (sym c.in-Whole.is) (c.act.ensures.leads play shown)

pub returns-in-Stopped-clause-leads : goal.returns-in-Stopped-clause-leads
returns-in-Stopped-clause-leads c = λ play shown. subst (λ (e : WorldEvent). LeadsTo c.act-in-Stopped.result c.act-in-Stopped.new.self (played c.args.number e play)) (sym c.in-Stopped.is) (c.act-in-Stopped.ensures.leads play shown)

pub returns-in-Restart-clause-leads : goal.returns-in-Restart-clause-leads
returns-in-Restart-clause-leads c = λ play shown. subst (λ (e : WorldEvent). LeadsTo c.restart.result c.restart.new.self (played c.args.number e play)) (sym c.in-Restart.is) (c.restart.ensures play shown)

pub returns-in-Whole-clause-fit : goal.returns-in-Whole-clause-fit
returns-in-Whole-clause-fit c = λ play shown. subst (λ (e : WorldEvent). OnOk c.act.result (IsFit c.args.number e play)) (sym c.in-Whole.is) (c.act.ensures.fit play shown)

pub returns-in-Stopped-clause-fit : goal.returns-in-Stopped-clause-fit
returns-in-Stopped-clause-fit c = λ play shown. subst (λ (e : WorldEvent). OnOk c.act-in-Stopped.result (IsFit c.args.number e play)) (sym c.in-Stopped.is) (c.act-in-Stopped.ensures.fit play shown)

pub returns-in-Restart-clause-fit : goal.returns-in-Restart-clause-fit
returns-in-Restart-clause-fit c = λ play shown. anyhow c.restart.result (IsFit c.args.number c.args.event.now play) (subst (λ (e : WorldEvent). IsFit c.args.number e play) (sym c.in-Restart.is) tt)
