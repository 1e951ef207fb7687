use Rattle.std.proofs.Common.{Bool, sym, subst}
use Rattle.std.specs.Prelude.{OnOk, if◌then◌else◌}
use Rattle.sms_play.specs.PlayState.{answer}
use Rattle.sms_player.specs.playing.Plays.{Represents}
use Rattle.sms_player.proofs.playing.Outcomes.{answered_next}
use Rattle.sms_script.specs.declared.report.answers.Answered.TheVariants.{Stopped}
use Rattle.sms_player.proofs.playing.Playing.answer_stop.Goals as goal

pub returns-then-is_answered : goal.returns-then-is_answered
returns-then-is_answered c = λ play shown.
    subst (λ (b : Bool). OnOk c.answer.result (Represents (if b then answer c.args.event Stopped play else play) c.answer.new.self)) (sym c.if-is_answered.true)
    (answered_next play c.args.self.now shown c.answer.result c.answer.new.self c.args.event Stopped c.answer.ensures)

pub returns-else-is_answered : goal.returns-else-is_answered
returns-else-is_answered c = λ play shown.
    subst (λ (b : Bool). Represents (if b then answer c.args.event Stopped play else play) c.args.self.now) (sym c.if-is_answered.false) shown
