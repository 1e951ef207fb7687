use Rattle.std.proofs.Common.{subst, sym}
use Rattle.sms_centre_reports.specs.open_reports.OpenReportsDraft.{OpenReportsDraftOf, DraftRepresents}
use Rattle.sms_centre_reports.proofs.open_reports.Moves.{unsent_made}
use Rattle.sms_centre_reports.proofs.open_reports.draft.OpenReportsDraft.make_unsent.Goals as goal

pub returns : goal.returns
returns c = λ ms t tells none.
    unsent_made ms (record { current = c.self.inside.reports; changes = c.self.inside.changes.items; made = c.self.inside.made.rows }) c.note.new.self t c.args.id c.args.made c.in_ok-place.place c.made_row-row.result c.give_place.new.self
    c.in_ok-place.ensures.place c.made_row-row.ensures c.in_ok-place.ensures.next c.in_ok-note.ensures (subst (λ (p : OpenReportsDraftOf). DraftRepresents ms p t) (sym c.self.view_is) tells) none
