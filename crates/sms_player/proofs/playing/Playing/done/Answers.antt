use Rattle.std.proofs.Common.{Bool, sym, subst}
use Rattle.std.specs.Prelude.{OnOk, if◌then◌else◌}
use Rattle.sms_play.specs.PlayState.{answer}
use Rattle.sms_play.specs.HandsetSide.{done}
use Rattle.sms_player.specs.playing.Plays.{Represents}
use Rattle.sms_player.proofs.playing.Outcomes.{answered_next}
use Rattle.sms_player.proofs.playing.Showing.{frames_out}
use Rattle.sms_script.specs.declared.report.answers.Answered.TheVariants.{Done}
use Rattle.sms_player.proofs.playing.Playing.done.Goals as goal

pub returns-then-is_owners : goal.returns-then-is_owners
returns-then-is_owners c = λ play party d place first shown is same.
    let out = frames_out play place party first d c.args.self.now c.sent_up.new.self shown c.args.number c.args.frames is same c.in_ok-sent_up.ensures in
    subst (λ (b : Bool). OnOk c.answer.result (Represents (if b then answer c.args.event Done (done party d play) else done party d play) c.answer.new.self)) (sym c.if-is_owners.true)
    (answered_next (done party d play) c.sent_up.new.self out c.answer.result c.answer.new.self c.args.event Done c.answer.ensures)

pub returns-else-is_owners : goal.returns-else-is_owners
returns-else-is_owners c = λ play party d place first shown is same.
    let out = frames_out play place party first d c.args.self.now c.sent_up.new.self shown c.args.number c.args.frames is same c.in_ok-sent_up.ensures in
    subst (λ (b : Bool). Represents (if b then answer c.args.event Done (done party d play) else done party d play) c.sent_up.new.self) (sym c.if-is_owners.false) out
