use Rattle.std.proofs.Common.{sym, subst}
use Rattle.sms_centre_rows.specs.declared.messages.message.MessageRow.{MessageRow}
use Rattle.sms_centre_rows.specs.messages.Messages.{ended, put_message}
use Rattle.sms_centre_messages.specs.message_index.MessageIndex.{DraftRepresents as RepresentsMessages}
use Rattle.sms_centre_spec.specs.Draft.{with_message}
use Rattle.sms_centre_draft.specs.CentreDraft.{Represents, CentreDraftOf, all_waiting}
use Rattle.sms_centre_draft.proofs.OthersWaiting.{ended_waits}
use Rattle.sms_centre_draft.proofs.RepresentedMoves.{ended_represented}
use Rattle.sms_centre_draft.proofs.centre_draft.CentreDraft.put_ended.Goals as goal

pub returns : goal.returns
returns c = λ d represents there pending.
    let w : CentreDraftOf = record { setup = c.self.inside.setup.now; moment = c.self.inside.moment; messages = c.self.inside.messages; queues = c.self.inside.queues; reports = c.self.inside.reports; bindings = c.self.inside.bindings; answer = c.self.inside.answer } in
    let was : Represents d w = subst (λ (x : CentreDraftOf). Represents d x) (sym c.self.view_is) represents in
    ended_represented d w c.args.message.now c.args.state c.put_message.new.self c.withdraw.new.self was there pending
    (subst (λ (r : MessageRow). RepresentsMessages c.put_message.new.self (put_message r d.store.messages)) c.in_ok-row.ensures (c.in_ok-put_message.ensures d.store.messages was.messages))
    (c.in_ok-withdraw.ensures d.store.allocations d.links (all_waiting d.store) (all_waiting (with_message (ended c.args.state d.store.moment c.args.message.now) d.store)) was.queues
    (ended_waits d.store c.args.message.now c.args.state was.consistent.held there))
