use Rattle.std.proofs.Common.{ℕ, sym, subst}
use Rattle.sms_centre_rows.specs.declared.messages.message.MessageRow.{MessageRow}
use Rattle.sms_centre_rows.specs.messages.Messages.{put_message, put_priority}
use Rattle.sms_centre_messages.specs.message_index.MessageIndex.{DraftRepresents as RepresentsMessages}
use Rattle.sms_centre_spec.specs.Submitting.{message_of}
use Rattle.sms_centre_draft.specs.CentreDraft.{Represents, CentreDraftOf}
use Rattle.sms_centre_draft.proofs.Entering.{entered_represented}
use Rattle.sms_centre_draft.proofs.centre_draft.CentreDraft.enter.Goals as goal

pub returns : goal.returns
returns c = λ d represents below is told.
    let w : CentreDraftOf = record { setup = c.self.inside.setup.now; moment = c.self.inside.moment; messages = c.self.inside.messages; queues = c.self.inside.queues; reports = c.self.inside.reports; bindings = c.self.inside.bindings; answer = c.self.inside.answer } in
    let was : Represents d w = subst (λ (x : CentreDraftOf). Represents d x) (sym c.self.view_is) represents in
    let u = c.args.submission.now in
    entered_represented d w c.args.id c.args.split u c.put_priority.new.self was below is told
    (subst (λ (n : ℕ). RepresentsMessages c.put_priority.new.self (put_priority (record { id = c.args.id; priority = n }) (put_message (message_of c.args.id w.moment c.args.split u) d.store.messages))) c.level-priority.ensures.value
    (c.in_ok-put_priority.ensures (put_message (message_of c.args.id w.moment c.args.split u) d.store.messages)
    (subst (λ (r : MessageRow). RepresentsMessages c.put_message.new.self (put_message r d.store.messages)) c.in_ok-row.ensures (c.in_ok-put_message.ensures d.store.messages was.messages))))
