use Rattle.std.proofs.Common.{◌≡◌, ℕ, suc, refl, subst, inl, inr}
use Rattle.sms_base.specs.Among.{Among}
use Rattle.sms_centre_rows.specs.declared.report_lines.ReportedMessage.{ReportedMessage}
use Rattle.sms_centre_rows.specs.declared.report_lines.MessageState.TheVariants.{Enroute}
use Rattle.sms_world.specs.wrong_reports.Literals.{line}
use Rattle.sms_script.specs.declared.report.answers.Answered.TheVariants.{Accepted}
use Rattle.sms_world.specs.headline.PlainReport.{Appears}
use Rattle.sms_world.specs.wrong_reports.Literals.{both_reports}
use Rattle.sms_world.specs.wrong_reports.Tried.{NumberLaw}

-- the second event cannot have made message 1, which has a line before it
not_second : (before : ℕ) → 2 ≡ suc before → Appears both_reports 2 1 → ⊥
not_second before e a = a.new (subst (λ (k : ℕ). (m : ReportedMessage) × (Among m (both_reports k).table × (m.id ≡ 1))) (one a.before a.next) (line Enroute, (inl refl, refl)))
  where
    one : (k : ℕ) → 2 ≡ suc k → 1 ≡ k
    one k q = cc

pub refused : NumberLaw
refused a = let n = a.named (record { event = 2; answered = Accepted 1 }) 1 (inr (inl refl)) refl in not_second 1 refl n.appears
