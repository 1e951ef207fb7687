use Rattle.std.proofs.Common.{refl, sym, ◌∙◌, inl, inr}
use Rattle.sms_centre_rows.specs.declared.report_lines.MessageState.TheVariants.{Enroute, Final}
use Rattle.sms_base.specs.declared.final_state.FinalState.TheVariants.{Delivered}
use Rattle.sms_world.proofs.wrong_reports.Apart.{enroute_is_not_delivered, only_line}
use Rattle.sms_world.specs.wrong_reports.Literals.{name, id_one}
use Rattle.sms_world.specs.wrong_reports.Tried.{QueryLaw}

pub refused : QueryLaw
refused q = let f = q 1 name id_one (Final Delivered) refl (inr (inl refl)) in
    enroute_is_not_delivered (sym (only_line f.line Enroute f.among) ∙ f.state)
