use Rattle.std.proofs.Common.{List, sym, ◌∙◌, subst}
use Rattle.std.specs.Prelude.{OnOk}
use Rattle.sms_play.specs.PlayState.{Party, answer}
use Rattle.sms_play.specs.HandsetSide.{happened}
use Rattle.sms_player_handset.specs.declared.played.HandsetOutcome.{HandsetOutcome}
use Rattle.sms_player.specs.playing.Plays.{Represents}
use Rattle.sms_player.specs.playing.Places.{IsFirstAt}
use Rattle.sms_player.specs.playing.Playing.{MeetsAs}
use Rattle.sms_player.proofs.playing.Outcomes.{answered_next}
use Rattle.sms_player.proofs.playing.Halting.{met_done, met_refused}
use Rattle.sms_script.specs.declared.report.answers.Answered.{Answered}
use Rattle.sms_player.proofs.playing.Playing.handset_meets.Goals as goal

pub returns-in-Done : goal.returns-in-Done
returns-in-Done c = λ play party shown first.
    let met = subst (λ (m : HandsetOutcome). MeetsAs m party play c.commit_handset.new.self (happened c.args.happening.now party.core)) c.in-Done.is (c.in_ok-met.ensures.meets play party shown first) in
    met_done c.done.result c.args.event c.args.happening.now party play c.done.new.self met.0 c.is_owners.result met.1.0 c.is_owners.ensures
    (c.done.ensures play party met.0 c.args.place first met.1.2 (c.digits-number.ensures ∙ c.number_at.ensures party (subst (λ (ps : List Party). IsFirstAt c.args.place party ps) (sym shown.parties) first)) met.1.1)

pub returns-in-Refused : goal.returns-in-Refused
returns-in-Refused c = λ play party shown first.
    let met = subst (λ (m : HandsetOutcome). MeetsAs m party play c.commit_handset.new.self (happened c.args.happening.now party.core)) c.in-Refused.is (c.in_ok-met.ensures.meets play party shown first) in
    met_refused c.answer.result c.args.event c.args.happening.now party play c.answer.new.self c.in-Refused.refusal met.0
    (subst (λ (a : Answered). OnOk c.answer.result (Represents (answer c.args.event a play) c.answer.new.self)) c.refused_as.ensures
    (answered_next play c.commit_handset.new.self met.1 c.answer.result c.answer.new.self c.args.event c.refused_as.result c.answer.ensures))
