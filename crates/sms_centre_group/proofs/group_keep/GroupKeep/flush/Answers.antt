use Rattle.std.proofs.Common.{inl, ◌∙◌}
use Rattle.sms_centre_group.specs.Grouping.{held_in, store_of}
use Rattle.sms_centre_group.proofs.Joining.{flush_ends, flush_stops, spans_idle}
use Rattle.sms_centre_group.proofs.group_keep.GroupKeep.flush.Goals as goal

pub returns-then-is_empty-clause-outcome : goal.returns-then-is_empty-clause-outcome
returns-then-is_empty-clause-outcome g c = λ base rows honest spans.
    spans_idle (g.K.RowStore.state c.args.self.now.store) (held_in c.args.self.now) base rows (c.is_empty.ensures.0 c.if-is_empty.true) spans

pub returns-then-is_empty-clause-stop : goal.returns-then-is_empty-clause-stop
returns-then-is_empty-clause-stop g c = λ base rows honest spans leaves left may. inl (leaves left may)

pub returns-clause-outcome : goal.returns-clause-outcome
returns-clause-outcome g c = λ base rows honest spans.
    flush_ends (g.K.RowStore.state c.commit-committed.new.self.store) (held_in c.args.self.now) (held_in c.commit-committed.new.self) c.take-changes.result base rows
    (c.commit-committed.ensures.held ∙ c.take-changes.ensures.none) c.take-changes.ensures.changes spans.1 c.commit-committed.result (c.commit-committed.ensures.outcome base honest spans.0)

pub returns-clause-stop : goal.returns-clause-stop
returns-clause-stop g c = λ base rows honest spans leaves left may.
    flush_stops (held_in c.args.self.now) c.take-changes.result base rows left c.take-changes.ensures.changes spans.1 (c.commit-committed.ensures.stop base honest spans.0 left may)
