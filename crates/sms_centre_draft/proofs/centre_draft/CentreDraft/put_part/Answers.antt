use Rattle.std.proofs.Common.{ℕ, List, false, sym, ◌∙◌, ap, subst}
use Rattle.sms_rows.specs.table.Table.{put}
use Rattle.sms_centre_rows.specs.declared.messages.part.PartRow.{PartRow}
use Rattle.sms_centre_rows.specs.messages.Messages.{put_part}
use Rattle.sms_centre_messages.specs.message_index.MessageIndex.{DraftRepresents as RepresentsMessages}
use Rattle.sms_centre_rows.specs.waiting.Keys.{queued_key}
use Rattle.sms_centre_rows.specs.waiting.References.{handset_of}
use Rattle.sms_centre_queue.specs.queues.Representing.{Waits}
use Rattle.sms_centre_spec.specs.Draft.{handsets_in, with_given}
use Rattle.sms_centre_spec.specs.Submitting.{put_part_of}
use Rattle.sms_centre_draft.specs.CentreDraft.{Represents, CentreDraftOf, all_waiting}
use Rattle.sms_centre_draft.proofs.Entering.{given_represented, given_waits}
use Rattle.sms_centre_draft.proofs.centre_draft.CentreDraft.put_part.Goals as goal

pub returns : goal.returns
returns c = λ d represents can few next.
    let w : CentreDraftOf = record { setup = c.self.inside.setup.now; moment = c.self.inside.moment; messages = c.self.inside.messages; queues = c.self.inside.queues; reports = c.self.inside.reports; bindings = c.self.inside.bindings; answer = c.self.inside.answer } in
    let was : Represents d w = subst (λ (x : CentreDraftOf). Represents d x) (sym c.self.view_is) represents in
    let u = c.args.submission.now in
    let b = c.args.body.now in
    let h = handset_of u.handset (handsets_in d.store) in
    let after = all_waiting (put_part_of c.args.id u c.args.number b c.args.reference (with_given h c.args.reference d.store)) in
    given_represented d w c.args.id u c.args.number b c.args.reference c.put_part.new.self c.give.new.self was can few next
    (subst (λ (r : PartRow). RepresentsMessages c.put_part.new.self (put_part r d.store.messages))
    (c.part_of-row.ensures ∙ ap (λ (t : List ℕ). record { id = c.args.id; number = c.args.number; reference = c.args.reference; tpdu = t; key = b.key; progress = record { is_done = false; attempts = 0; due = u.due } }) c.in_ok-tpdu.ensures.is)
    (c.in_ok-put_part.ensures d.store.messages was.messages))
    (c.in_ok-give.ensures d.store.allocations d.links (all_waiting d.store) after was.queues
    (subst (λ (k : ℕ). Waits u.handset (put queued_key (record { id = c.args.id; number = c.args.number; reference = c.args.reference; priority = k; due = u.due })) (all_waiting d.store) after) (sym c.level-priority.ensures.value)
    (given_waits d.store c.args.id u c.args.number b c.args.reference was.consistent.held can few)))
