-- The report of a script that is played to the end, and other reports of it.
use Rattle.std.proofs.Common.{◌≡◌, List, [], ◌∷◌, true, false, refl, sym, ◌∙◌, ap, inl, Result, Ok, Err}
use Rattle.sms_base.specs.Reading.{◌>>=◌}
use Rattle.sms_base.specs.declared.final_state.FinalState.TheVariants.{Delivered}
use Rattle.sms_play.specs.PlayState.{PlayState}
use Rattle.sms_play.specs.Playing.{play_of, report_of}
use Rattle.sms_script.specs.declared.play_fault.PlayFault.{PlayFault}
use Rattle.sms_script.specs.declared.report.Report.{Report}
use Rattle.sms_script.specs.declared.report.answers.Answer.{Answer}
use Rattle.sms_centre_rows.specs.declared.report_lines.MessageState.{MessageState}
use Rattle.sms_centre_rows.specs.declared.report_lines.ReportedMessage.{ReportedMessage}
use Rattle.sms_centre_rows.specs.declared.report_lines.MessageState.TheVariants.{Enroute, Final}
use Rattle.sms_world.proofs.Everything.{everything}
use Rattle.sms_world.proofs.headline.HeadlineHolds.{headline_is}
use Rattle.sms_world.proofs.wrong_reports.BrokenPremises.{reused}
use Rattle.sms_world.specs.headline.Headline.{Headline}
use Rattle.sms_world.specs.headline.TypedEvents.{AreTyped}
use Rattle.sms_world.specs.wrong_plays.Played.{LateAloneLaw, LateFrameLaw, NoReceiptLaw, NotAnsweredLaw, OtherReportLaw, RightFreshLaw, RightReportLaw, RightTimelyLaw, StaleAloneLaw, again, plays, report}
use Rattle.sms_world.specs.wrong_reports.Literals.{receipt, setup}

typed : AreTyped plays
typed = record { good = (tt, (tt, (tt, tt))); texts = (tt, (tt, (tt, tt))) }

abbrev Reports : Result Report PlayFault → Report → Type 0
Reports found r = found ≡ Ok r

is_played : Reports (play_of setup plays) report
unfolding everything
is_played = refl

pub right_report : RightReportLaw
right_report = headline_is setup plays report typed is_played

pub right_timely : RightTimelyLaw
unfolding everything
right_timely = (refl, (refl, (refl, tt)))

pub right_fresh : RightFreshLaw
unfolding everything
right_fresh = (refl, (refl, (refl, tt)))

inside : (r s : Report) → Reports (Ok r) s → r ≡ s
inside r s e = cc

-- whatever has the headline is that report
only : (r : Report) → Headline setup plays r → report ≡ r
only r h =
    let led : Reports (play_of setup plays) (report_of h.play) = ap (λ (c : Result PlayState PlayFault). c >>= (λ (d : PlayState). Ok (report_of d))) h.leads in
    inside report (report_of h.play) (sym is_played ∙ led) ∙ sym h.is_of

abbrev first_state : List ReportedMessage → MessageState
first_state [] = Enroute
first_state (m ∷ lines) = m.state

other_line : Final Delivered ≡ Enroute → ⊥
other_line e = absurd cc

pub other_state : OtherReportLaw
other_state h = other_line (ap (λ (r : Report). first_state r.table) (only _ h))

no_line : receipt ∷ [] ≡ [] → ⊥
no_line e = absurd cc

pub no_receipt : NoReceiptLaw
no_receipt h = no_line (ap (λ (r : Report). r.receipts) (only _ h))

abbrev answers_in : Result PlayState PlayFault → List Answer
answers_in (Ok c) = c.answers
answers_in (Err fault) = []

answered : (a : Answer) → a ∷ [] ≡ [] → ⊥
answered a e = absurd cc

pub not_answered : NotAnsweredLaw
unfolding everything
not_answered e = answered _ (ap answers_in e)

no_truth : false ≡ true → ⊥
no_truth e = absurd cc

pub late_frame : LateFrameLaw
unfolding everything
late_frame all = no_truth all.0

pub late_alone : LateAloneLaw
unfolding everything
late_alone both = no_truth (both.1 (λ u i n. absurd i))

pub stale_alone : StaleAloneLaw
unfolding everything
stale_alone both = reused (both.0 refl again (inl refl)).0
