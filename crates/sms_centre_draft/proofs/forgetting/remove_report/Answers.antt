use Rattle.std.proofs.Common.{◌≡◌, ℕ, Option, Some, None, subst}
use Rattle.sms_centre_rows.specs.reports.Reports.{report_of, reports_of}
use Rattle.sms_centre_draft.specs.Forgetting.{place_of}
use Rattle.sms_centre_draft.proofs.MessagesGo.{none_removed, removed_ok}
use Rattle.sms_centre_draft.proofs.forgetting.remove_report.Goals as goal

pub returns-in-Some : goal.returns-in-Some
returns-in-Some c = λ ms t h e can.
    removed_ok ms c.args.id c.in-Some.place c.remove.new.self t c.remove.result (subst (λ (o : Option ℕ). o ≡ place_of (report_of c.args.id (reports_of t))) c.in-Some.is e) can
    (λ r. c.remove.ensures ms t r h)

pub returns-in-None : goal.returns-in-None
returns-in-None c = λ ms t h e can.
    none_removed ms c.args.id c.args.reports.now t (subst (λ (o : Option ℕ). o ≡ place_of (report_of c.args.id (reports_of t))) c.in-None.is e) h
