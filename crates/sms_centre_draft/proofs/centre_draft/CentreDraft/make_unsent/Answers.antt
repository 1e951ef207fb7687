use Rattle.std.proofs.Common.{true, refl, sym, subst}
use Rattle.sms_centre_rows.specs.declared.reports.report.ReportKind.TheVariants.{Unsent}
use Rattle.sms_centre_spec.specs.Draft.{messages_in}
use Rattle.sms_centre_draft.specs.CentreDraft.{Represents, CentreDraftOf}
use Rattle.sms_centre_draft.proofs.RepresentedMoves.{quiet_represented}
use Rattle.sms_centre_draft.proofs.centre_draft.CentreDraft.make_unsent.Goals as goal

pub returns : goal.returns
returns c = λ d state represents can.
    let w : CentreDraftOf = record { setup = c.self.inside.setup.now; moment = c.self.inside.moment; messages = c.self.inside.messages; queues = c.self.inside.queues; reports = c.self.inside.reports; bindings = c.self.inside.bindings; answer = c.self.inside.answer } in
    let was : Represents d w = subst (λ (x : CentreDraftOf). Represents d x) (sym c.self.view_is) represents in
    quiet_represented d w c.args.message.now state Unsent true c.make_unsent.new.self was can refl
    (c.in_ok-make_unsent.ensures (messages_in d.store) d.store.reports was.reports can.none)
