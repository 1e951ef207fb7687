use Rattle.std.proofs.Common.{sym, subst}
use Rattle.sms_centre_messages.specs.message_index.MessageIndex.{DraftRepresents as RepresentsMessages}
use Rattle.sms_centre_reports.specs.open_reports.OpenReportsDraft.{DraftRepresents}
use Rattle.sms_centre_draft.specs.CentreDraft.{CentreDraftOf}
use Rattle.sms_centre_draft.proofs.centre_draft.CentreDraft.forget_one.Goals as goal

pub returns-clause-messages : goal.returns-clause-messages
returns-clause-messages c = λ m h. c.in_ok-take_out.ensures m (subst (λ (x : CentreDraftOf). RepresentsMessages x.messages m) (sym c.self.view_is) h)

pub returns-clause-reports : goal.returns-clause-reports
returns-clause-reports c = λ ms t h e can.
    c.in_ok-remove_report.ensures ms t (subst (λ (x : CentreDraftOf). DraftRepresents ms x.reports t) (sym c.self.view_is) h) e can
