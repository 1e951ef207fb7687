use Rattle.std.proofs.Common.{List, sym, ap, subst}
use Rattle.sms_centre_messages.specs.references.ReferenceIndex.{Barred}
use Rattle.sms_centre_messages.specs.references.Moves.{ArePartRemovals, AreRemovals}
use Rattle.sms_centre_messages.specs.message_index.MessageIndex.{Represents, Matches}
use Rattle.sms_centre_rows.specs.declared.messages.bar.BarRow.{BarRow}
use Rattle.sms_centre_rows.specs.declared.messages.message.MessageRow.{MessageRow}
use Rattle.sms_centre_rows.specs.declared.messages.part.PartRow.{PartRow}
use Rattle.sms_centre_rows.specs.messages.Messages.{message_key}
use Rattle.sms_centre_queue.specs.queues.Plan.{IsAdopted}
use Rattle.sms_rows.specs.declared.table.change.Change.{Change}
use Rattle.sms_rows.specs.table.Table.{all_applied}
use Rattle.sms_centre_rows.specs.declared.waiting.revision.Revision.{Revision}
use Rattle.sms_centre.specs.plans.NextState.{NextStateOf}
use Rattle.sms_centre.proofs.Forgotten.{centre_forgets, messages_removed, parts_are_removed, reference_index_forgets}
use Rattle.sms_centre.proofs.plans.Adopted.{Moved, centre_after, reference_index_after}
use Rattle.sms_centre.proofs.plans.event_outcome.EventOutcome.adopt.Goals as goal

pub returns-clause-centre : goal.returns-clause-centre
returns-clause-centre c = λ event core setup is planned was.
    let next_state = c.next_state.view_is in
    centre_after event core c.args.self is planned setup c.args.moment.now c.next_state.inside.moment c.args.messages.now c.adopt-2.new.self c.args.queues.now c.adopt-3.new.self c.args.reports.now c.next_state.inside.reports c.args.sessions.now.rows c.next_state.inside.sessions.rows was
    (ap (λ (l : NextStateOf). l.moment) next_state)
    (subst (λ (l : NextStateOf). (ms : List MessageRow) (ps others : List PartRow) → Represents c.args.messages.now ms ps → Matches l.messages ps others → Represents c.adopt-2.new.self (all_applied message_key c.args.self.changes.messages ms) others) next_state c.adopt-2.ensures)
    (subst (λ (l : NextStateOf). IsAdopted l.queues c.adopt-3.new.self) next_state c.adopt-3.ensures)
    (ap (λ (l : NextStateOf). l.reports) next_state) (ap (λ (l : NextStateOf). l.sessions) next_state)

pub returns-clause-reference_index : goal.returns-clause-reference_index
returns-clause-reference_index c = λ event core setup is planned was holds.
    reference_index_after event core c.args.self is planned setup c.args.moment.now c.args.messages.now c.args.queues.now c.args.reports.now c.args.sessions.now.rows c.args.reference_index.now c.adopt.new.self was holds
    (subst (λ (m : List (Change MessageRow)). Moved c.args.reference_index.now c.adopt.new.self m c.args.self.changes.parts c.args.self.changes.bars) c.as_slice.ensures
    (subst (λ (r : List (Revision PartRow)). Moved c.args.reference_index.now c.adopt.new.self c.as_slice.result.now r c.args.self.changes.bars) c.as_slice-2.ensures
    (subst (λ (b : List (Change BarRow)). Moved c.args.reference_index.now c.adopt.new.self c.as_slice.result.now c.as_slice-2.result.now b) c.as_slice-3.ensures c.adopt.ensures.moved)))

pub returns-clause-forgotten : goal.returns-clause-forgotten
returns-clause-forgotten c = λ before from most core setup planned was.
    let next_state = c.next_state.view_is in
    centre_forgets before from most core c.args.self planned setup c.args.moment.now c.next_state.inside.moment c.args.messages.now c.adopt-2.new.self c.args.queues.now c.adopt-3.new.self c.args.reports.now c.next_state.inside.reports c.args.sessions.now.rows c.next_state.inside.sessions.rows was
    (ap (λ (l : NextStateOf). l.moment) next_state)
    (subst (λ (l : NextStateOf). (ms : List MessageRow) (ps others : List PartRow) → Represents c.args.messages.now ms ps → Matches l.messages ps others → Represents c.adopt-2.new.self (all_applied message_key c.args.self.changes.messages ms) others) next_state c.adopt-2.ensures)
    (subst (λ (l : NextStateOf). IsAdopted l.queues c.adopt-3.new.self) next_state c.adopt-3.ensures)
    (ap (λ (l : NextStateOf). l.reports) next_state) (ap (λ (l : NextStateOf). l.sessions) next_state)

pub returns-clause-reference_index_forgets : goal.returns-clause-reference_index_forgets
returns-clause-reference_index_forgets c = λ before from most core setup planned was holds.
    reference_index_forgets before from most core c.args.self planned was.sound c.args.reference_index.now c.adopt.new.self holds
    (subst (λ (b : List (Change BarRow)). Barred b c.args.reference_index.now c.adopt.new.self) c.as_slice-3.ensures
    (c.adopt.ensures.kept
    (subst (λ (m : List (Change MessageRow)). AreRemovals m) (sym c.as_slice.ensures) (messages_removed before from most core c.args.self planned))
    (subst (λ (r : List (Revision PartRow)). ArePartRemovals r) (sym c.as_slice-2.ensures) (parts_are_removed before from most core c.args.self planned))))
