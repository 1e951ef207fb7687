use Rattle.std.proofs.Common.{subst}
use Rattle.std.specs.Prelude.{OnOk}
use Rattle.sms_handset.specs.declared.refusal.Refusal.TheVariants.{NoEntry}
use Rattle.sms_play.specs.PlayState.{answer}
use Rattle.sms_play.specs.PlayedEvent.{party_restarted}
use Rattle.sms_player.specs.playing.Plays.{Represents}
use Rattle.sms_player.proofs.playing.Outcomes.{answered_next}
use Rattle.sms_player.proofs.playing.Halting.{handset_done, met_refused, none_stopped}
use Rattle.sms_script.specs.declared.report.answers.Answered.{Answered}
use Rattle.sms_script.specs.declared.report.answers.Answered.TheVariants.{Stopped}
use Rattle.sms_player.proofs.playing.Playing.no_entry.Goals as goal

pub returns-in-None : goal.returns-in-None
returns-in-None c = λ play party act e shown first same owners refused.
    handset_done c.answer.result c.args.event act e party play c.answer.new.self c.args.stop c.in-None.is
    (met_refused c.answer.result c.args.event e party play c.answer.new.self NoEntry refused
    (subst (λ (a : Answered). OnOk c.answer.result (Represents (answer c.args.event a play) c.answer.new.self)) c.refused_as.ensures
    (answered_next play c.args.self.now shown c.answer.result c.answer.new.self c.args.event c.refused_as.result c.answer.ensures)))

pub returns-in_ok-restart_handset-in-Some : goal.returns-in_ok-restart_handset-in-Some
returns-in_ok-restart_handset-in-Some c = λ play party act e shown first same owners refused.
    none_stopped c.answer-in-Some.result c.args.event act e party play c.answer-in-Some.new.self c.args.place c.args.stop _ NoEntry c.in-Some.is same first refused
    (answered_next (party_restarted party play) c.restart_handset.new.self (c.in_ok-restart_handset-in-Some.ensures play party shown first) c.answer-in-Some.result c.answer-in-Some.new.self c.args.event Stopped c.answer-in-Some.ensures)
