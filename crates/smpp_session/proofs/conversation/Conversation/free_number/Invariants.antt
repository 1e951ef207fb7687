use Rattle.std.proofs.Common.{◌≡◌, ◌-◌}
use Rattle.smpp_session.specs.Windows.{numbers_from, first_free, free_number}
use Rattle.smpp_session.proofs.conversation.Conversation.free_number.Given as goal

abbrev pub invariant-loop-passed : goal.invariant-loop-passed
invariant-loop-passed l =
    first_free l.self.next_number l.self.unanswered (numbers_from (10 - l._passed) l.number) ≡ free_number l.self.next_number l.self.unanswered
