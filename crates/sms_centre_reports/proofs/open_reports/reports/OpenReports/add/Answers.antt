use Rattle.sms_centre_reports.proofs.open_reports.Moves.{row_added}
use Rattle.sms_centre_reports.proofs.open_reports.reports.OpenReports.add.Goals as goal

pub returns : goal.returns
returns c = λ ms rows represents lower none account.
    row_added ms c.args.self.now c.keep.new.self c.set_next_after.new.self rows c.args.row.now c.args.account.now c.in_ok-keep.ensures c.in_ok-set_next_after.ensures represents lower none account
