use Rattle.std.proofs.Common.{◌≡◌, ◌<◌, true, false, refl, sym, ◌∙◌, arith}
use Rattle.smpp_session.specs.Windows.{is_among, free_number}
use Rattle.smpp_session.proofs.FreeNumbers.{found_free, passed_over}
use Rattle.smpp_session.proofs.conversation.Conversation.free_number.Goals as goal

pub loop-passed-init : goal.loop-passed-init
unfolding free_number
loop-passed-init c = refl

pub returns-then-not-contains : goal.returns-then-not-contains
returns-then-not-contains c =
    let fits : c.loop-passed._passed < 10 = omega arith in
    let free : is_among c.loop-passed.number c.args.self.now.unanswered ≡ false = sym c.if-not-contains.ensures in
    sym (found_free c.loop-passed._passed c.loop-passed.number c.args.self.now.next_number c.args.self.now.unanswered fits free) ∙ c.loop-passed.invariant

pub loop-passed-preserved : goal.loop-passed-preserved
loop-passed-preserved c =
    let fits : c.loop-passed._passed < 10 = omega arith in
    let waits : is_among c.loop-passed.number c.args.self.now.unanswered ≡ true = sym c.if-not-contains.ensures in
    sym (passed_over c.loop-passed._passed c.loop-passed.number c.number_after-number.result c.args.self.now.next_number c.args.self.now.unanswered fits waits c.number_after-number.ensures) ∙ c.loop-passed.invariant
