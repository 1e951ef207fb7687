use Rattle.std.proofs.Common.{◌≡◌, ◌∷◌, ◌++◌, ◌+◌, [], ℕ, List, suc, add-one, subst, sym, ◌∙◌, ap, drop, take}
use Rattle.std.proofs.Math.Seq.{split_at, take-suc}
use Rattle.sms_centre_rows.specs.declared.reports.report.ReportRow.{ReportRow}
use Rattle.sms_centre_rows.specs.reports.SoundReports.{SoundReports}
use Rattle.sms_centre_reports.specs.open_reports.OpenReports.{Represents}
use Rattle.sms_centre_reports.proofs.open_reports.Rebuilding.{read_on}
use Rattle.sms_centre_reports.proofs.open_reports.reports.OpenReports.recover.Goals as goal

pub loop-row-init : goal.loop-row-init
loop-row-init c = c.new-reports.ensures c.args.messages.now

pub loop-row-preserved : goal.loop-row-preserved
loop-row-preserved c =
    let i : ℕ = c.loop-row.row-index in
    let rows : List ReportRow = c.args.rows.now in
    let row : ReportRow = c.row-item.result in
    let done : List ReportRow = take c.loop-row.row-index c.args.rows.now in
    let rest : List ReportRow = drop (suc c.loop-row.row-index) c.args.rows.now in
    let whole : rows ≡ done ++ row ∷ rest = split_at rows i row c.loop-row-test.true ∙ ap (λ (r : ReportRow). done ++ r ∷ rest) (sym c.row-item.is) in
    let more : take (i + 1) rows ≡ done ++ row ∷ [] = ap (λ (n : ℕ). take n rows) (add-one i) ∙ take-suc rows i row c.loop-row-test.true ∙ ap (λ (r : ReportRow). done ++ r ∷ []) (sym c.row-item.is) in
    subst (λ (rs : List ReportRow). Represents c.args.messages.now c.add.new.self rs) (sym more)
    (read_on c.args.messages.now row done rest (subst (λ (rs : List ReportRow). SoundReports c.args.messages.now rs) whole c.requires.reports) c.account_name-account.result.now c.loop-row.reports c.add.new.self
    (λ name e. c.account_name-account.ensures name e) c.loop-row.invariant
    (λ lower none account. c.in_ok-add.ensures c.args.messages.now done c.loop-row.invariant lower none account))
