use Rattle.std.proofs.Common.{false, refl, sym, subst}
use Rattle.sms_centre_rows.specs.declared.reports.report.ReportKind.TheVariants.{Receipt}
use Rattle.sms_centre_spec.specs.Draft.{messages_in}
use Rattle.sms_centre_draft.specs.CentreDraft.{Represents, CentreDraftOf}
use Rattle.sms_centre_draft.proofs.RepresentedMoves.{account_told, quiet_represented}
use Rattle.sms_centre_draft.proofs.centre_draft.CentreDraft.make_receipt.Goals as goal

pub returns : goal.returns
returns c = λ d state represents can is.
    let w : CentreDraftOf = record { setup = c.self.inside.setup.now; moment = c.self.inside.moment; messages = c.self.inside.messages; queues = c.self.inside.queues; reports = c.self.inside.reports; bindings = c.self.inside.bindings; answer = c.self.inside.answer } in
    let was : Represents d w = subst (λ (x : CentreDraftOf). Represents d x) (sym c.self.view_is) represents in
    quiet_represented d w c.args.message.now state Receipt false c.make_receipt.new.self was can refl
    (c.in_ok-make_receipt.ensures (messages_in d.store) d.store.reports was.reports can.none (account_told state c.args.message.now c.args.account.now d.store can is))
