use Rattle.std.proofs.Common.{◌≡◌, true, false, sym, ◌∙◌, subst}
use Rattle.sms_rows.specs.table.Keys.{pair_key}
use Rattle.sms_rows.specs.table.Table.{without}
use Rattle.sms_centre_rows.specs.declared.messages.parts.PartEntry.{PartEntry}
use Rattle.sms_centre_rows.specs.waiting.Keys.{queued_key}
use Rattle.sms_centre_queue.specs.queues.Representing.{Waits}
use Rattle.sms_centre_spec.specs.Draft.{with_part_at}
use Rattle.sms_centre_draft.specs.CentreDraft.{Represents, CentreDraftOf, all_waiting}
use Rattle.sms_centre_draft.proofs.MovesWaiting.{part_done_waits}
use Rattle.sms_centre_draft.proofs.RepresentedMoves.{part_far_represented}
use Rattle.sms_centre_draft.proofs.centre_draft.CentreDraft.part_done.Goals as goal

pub returns : goal.returns
returns c = λ d p represents there is of done.
    let w : CentreDraftOf = record { setup = c.self.inside.setup.now; moment = c.self.inside.moment; messages = c.self.inside.messages; queues = c.self.inside.queues; reports = c.self.inside.reports; bindings = c.self.inside.bindings; answer = c.self.inside.answer } in
    let was : Represents d w = subst (λ (x : CentreDraftOf). Represents d x) (sym c.self.view_is) represents in
    let m = c.args.message.now in
    let q = c.args.progress.now in
    part_far_represented d w p q c.amend_part.new.self c.remove.new.self was there (λ e. let bad : true ≡ false = sym done ∙ e in absurd cc)
    (c.in_ok-amend_part.ensures d.store.messages p was.messages there is)
    (c.in_ok-remove.ensures d.store.allocations d.links (all_waiting d.store) (all_waiting (with_part_at p q d.store)) was.queues
    (subst (λ (e : PartEntry). Waits m.handset (without queued_key (pair_key e.id e.number)) (all_waiting d.store) (all_waiting (with_part_at p q d.store))) is
    (part_done_waits d.store p q m was.consistent.held there of done)))
