use Rattle.std.proofs.Common.{◌≡◌, ℕ, List, [], ◌∷◌, refl, sym, ap, inl, inr, ⊎_elim}
use Rattle.sms_base.specs.Among.{Among}
use Rattle.sms_centre_rows.specs.declared.report_lines.ReportedMessage.{ReportedMessage}
use Rattle.sms_centre_rows.specs.declared.report_lines.MessageState.{MessageState}
use Rattle.sms_centre_rows.specs.declared.report_lines.MessageState.TheVariants.{Enroute, Final}
use Rattle.sms_base.specs.declared.final_state.FinalState.TheVariants.{Deleted}
use Rattle.sms_world.proofs.wrong_reports.Apart.{enroute_is_not_deleted}
use Rattle.smpp_pdu.specs.declared.status.CommandStatus.TheVariants.{ESME_RCANCELFAIL, ESME_ROK}
use Rattle.sms_script.specs.declared.report.answers.Answered.TheVariants.{Status}
use Rattle.sms_world.specs.wrong_reports.Literals.{name, id_one, line}
use Rattle.sms_world.specs.headline.PlainReport.{IsChanged}
use Rattle.sms_world.specs.wrong_reports.Tried.{CancelLaw, RefusedCancelLaw}

unchanged : (id : ℕ) → id ≡ 1 → IsChanged id (Final Deleted) (line Enroute ∷ []) (line Enroute ∷ []) → ⊥
unchanged id e c = ⊎_elim
    (λ (p : (1 ≡ id) × (line Enroute ≡ record (line Enroute) { state = Final Deleted })). enroute_is_not_deleted (ap (λ (z : ReportedMessage). z.state) p.1))
    (λ (p : ((1 ≡ id) → ⊥) × (line Enroute ≡ line Enroute)). p.0 (sym e)) c.0

only_one : (m : ReportedMessage) → Among m (line Enroute ∷ []) → m.id ≡ 1
only_one m i = ⊎_elim (λ (e : m ≡ line Enroute). ap (λ (z : ReportedMessage). z.id) e) (λ (n : ⊥). absurd n) i

pub refused : CancelLaw
refused q = let x = (q 1 name id_one refl).0 (inr (inl refl)) in unchanged x.line.id (only_one x.line x.among) x.deleted

refusal : Status ESME_RCANCELFAIL ≡ Status ESME_ROK → ⊥
refusal e = absurd cc

abbrev first_state : List ReportedMessage → MessageState
first_state [] = Enroute
first_state (m ∷ lines) = m.state

pub deletes : RefusedCancelLaw
deletes q =
    enroute_is_not_deleted (sym (ap first_state ((q 1 name id_one refl).1 (Status ESME_RCANCELFAIL) (inr (inl refl)) refusal)))
