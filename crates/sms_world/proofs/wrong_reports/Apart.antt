use Rattle.std.proofs.Common.{◌≡◌, [], ◌∷◌, ap, ⊎_elim}
use Rattle.sms_base.specs.Among.{Among}
use Rattle.sms_centre_rows.specs.declared.report_lines.ReportedMessage.{ReportedMessage}
use Rattle.sms_centre_rows.specs.declared.report_lines.MessageState.{MessageState}
use Rattle.sms_centre_rows.specs.declared.report_lines.MessageState.TheVariants.{Enroute, Final}
use Rattle.sms_base.specs.declared.final_state.FinalState.TheVariants.{Delivered, Expired, Deleted}
use Rattle.sms_world.specs.wrong_reports.Literals.{line}

pub delivered_is_not_expired : Final Delivered ≡ Final Expired → ⊥
delivered_is_not_expired e = absurd cc

pub enroute_is_not_delivered : Enroute ≡ Final Delivered → ⊥
enroute_is_not_delivered e = absurd cc

pub enroute_is_not_deleted : Enroute ≡ Final Deleted → ⊥
enroute_is_not_deleted e = absurd cc

-- a list of one has that one
pub the_one : {A : Type 0} (a x : A) → Among x (a ∷ []) → x ≡ a
the_one a x i = ⊎_elim (λ (e : x ≡ a). e) (λ (n : ⊥). absurd n) i

-- the only line has that state
pub only_line : (m : ReportedMessage) (s : MessageState) → Among m (line s ∷ []) → m.state ≡ s
only_line m s i = ap (λ (z : ReportedMessage). z.state) (the_one (line s) m i)
