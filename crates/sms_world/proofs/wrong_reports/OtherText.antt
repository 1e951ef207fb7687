use Rattle.std.proofs.Common.{◌≡◌, [], ◌∷◌, refl, sym, ◌∙◌, ap, inl, ⊎_elim}
use Rattle.sms_base.specs.Among.{Among}
use Rattle.sms_centre_rows.specs.declared.report_lines.MessageState.TheVariants.{Final}
use Rattle.sms_base.specs.declared.final_state.FinalState.TheVariants.{Delivered}
use Rattle.sms_tpdu.specs.MoreMessages.{compared}
use Rattle.sms_world.proofs.wrong_reports.Read.{part, first_part, is_read, octets_are}
use Rattle.sms_world.specs.wrong_reports.Literals.{line, other_text, reports, given, accepted, other_octets, hello_octets, deliver, handset}
use Rattle.sms_intake.specs.PartTexts.{deliver_octets}
use Rattle.sms_world.specs.headline.PlainReport.{compared_line}
use Rattle.sms_intake.specs.declared.submission.Submission.{Submission}
use Rattle.sms_script.specs.declared.report.rows.AcceptedRow.{AcceptedRow}
use Rattle.sms_script.specs.declared.report.rows.GivenRow.{GivenRow}
use Rattle.sms_world.specs.wrong_reports.Tried.{OtherTextLaw}

differ : deliver hello_octets ≡ deliver other_octets → ⊥
differ e = absurd cc

only_given : (g : GivenRow) → Among g (given ∷ []) → g.moment ≡ 946684800
only_given g i = ⊎_elim (λ (e : g ≡ given). ap (λ (z : GivenRow). z.moment) e) (λ (n : ⊥). absurd n) i

pub refused : OtherTextLaw
unfolding compared
refused d =
    let w = d.lines (line (Final Delivered)) (inl refl) refl in
    let r = is_read (reports other_text) (line (Final Delivered)) w.of_event in
    let a = w.each 1 part (first_part w.of_event.origin r) in
    let u : Submission = w.of_event.origin.submission in
    let row : AcceptedRow = record { handset = handset; reference = a.given.reference; tpdu = deliver_octets a.given.moment u part } in
    ⊎_elim
    (λ (p : (row ≡ compared_line (accepted other_octets)) × ((Among row []) → ⊥)).
    differ (sym (octets_are u a.given.moment (only_given a.given a.among) r.asked_by) ∙ ap (λ (z : AcceptedRow). z.tpdu) p.0))
    (λ (p : ((row ≡ compared_line (accepted other_octets)) → ⊥) × ⊥). p.1) a.once
