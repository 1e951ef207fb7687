use Rattle.std.proofs.Common.{arith, ◌≡◌, ℕ, zero, suc, refl, sym, subst, inl, inr, ◌<◌}
use Rattle.std.specs.Prelude.{◌≤◌}
use Rattle.sms_script.specs.declared.event.Act.TheVariants.{Submit}
use Rattle.sms_script.specs.declared.event.StopPoint.TheVariants.{After}
use Rattle.sms_script.specs.declared.event.WorldEvent.TheVariants.{Stopped, Whole}
use Rattle.sms_centre_rows.specs.declared.report_lines.MessageState.TheVariants.{Enroute}
use Rattle.sms_centre_rows.specs.declared.report_lines.ReportedMessage.{ReportedMessage}
use Rattle.sms_concat.specs.Cutting.{split_of}
use Rattle.sms_world.specs.headline.PlainReport.{Appears, IsOfApplication, IsOfEvent, Stays}
use Rattle.sms_world.specs.wrong_reports.Literals.{asked, line, nothing, setup, stopped, stopping, unanswered}
use Rattle.sms_world.specs.wrong_reports.Tried.{TrueStopLaw}
use Rattle.sms_world.proofs.wrong_reports.GoodReport.{asked_by, origin}
use Rattle.sms_world.proofs.wrong_reports.RightReports.{none_before}
use Rattle.sms_world.proofs.wrong_reports.Apart.{the_one}

appears : Appears stopped 1 1
appears = record { before = 0; next = refl; new = λ h. absurd h.1.0; there = (line Enroute, (inl refl, refl)) }

not_whole : Stopped After (Submit asked) ≡ Whole (Submit asked) → ⊥
not_whole q = absurd cc

of_application : IsOfApplication setup (stopping After) stopped 1 1 origin
unfolding split_of
of_application = record {
  event = Stopped After (Submit asked);
  at = refl;
  asked = asked;
  does = inr refl;
  answered = λ e. absurd (not_whole e);
  submission = asked_by;
  reference = 0;
  parts = refl;
  given_at = refl;
}

one_of_one : 1 ≤ 1
one_of_one = omega arith

of_event : IsOfEvent setup (stopping After) stopped (line Enroute)
of_event = record { number = 1; within = one_of_one; appears = appears; origin = origin; makes = inl of_application; from = refl; to = refl }

none_more : (n : ℕ) → suc n < 1 → ⊥
none_more n l = omega (arith, l)

stay : (n : ℕ) → n < 1 → Stays (stopped n) (stopped (suc n))
stay zero l = none_before nothing unanswered refl refl
stay (suc n) l = absurd (none_more n l)

pub has_it : TrueStopLaw
has_it = record {
  ascending = (λ x i. absurd i, tt);
  of_events = λ m i. subst (λ (z : ReportedMessage). IsOfEvent setup (stopping After) stopped z) (sym (the_one (line Enroute) m i)) of_event;
  stay = stay;
}
