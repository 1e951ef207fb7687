use Rattle.std.proofs.Common.{◌≡◌, ℕ, zero, suc, refl, ◌∙◌, inl, ⊎_elim, Some}
use Rattle.sms_script.specs.declared.event.Act.{Act}
use Rattle.sms_script.specs.declared.event.Act.TheVariants.{Deliver, Submit}
use Rattle.sms_script.specs.declared.event.StopPoint.TheVariants.{After, Before}
use Rattle.sms_script.specs.declared.event.WorldEvent.{WorldEvent}
use Rattle.sms_script.specs.declared.event.WorldEvent.TheVariants.{Stopped, Whole}
use Rattle.sms_centre_rows.specs.declared.report_lines.MessageState.TheVariants.{Enroute}
use Rattle.sms_world.specs.headline.PlainReport.{IsOfApplication, IsOfOwner}
use Rattle.sms_world.specs.headline.PlainScript.{Does}
use Rattle.sms_world.specs.headline.PlainWords.{numbered}
use Rattle.sms_world.specs.wrong_reports.Literals.{asked, line, setup, stopped, stopping}
use Rattle.sms_world.specs.wrong_reports.Tried.{StoppedLaw}

the_event : (n : ℕ) (e : WorldEvent) → numbered n (stopping Before) ≡ Some e → Stopped Before (Submit asked) ≡ e
the_event zero e q = absurd cc
the_event (suc zero) e q = cc
the_event (suc (suc n)) e q = absurd cc

not_whole : (act : Act) → Stopped Before (Submit asked) ≡ Whole act → ⊥
not_whole act q = absurd cc

not_behind : (act : Act) → Stopped Before (Submit asked) ≡ Stopped After act → ⊥
not_behind act q = absurd cc

does_nothing : (e : WorldEvent) (act : Act) → Stopped Before (Submit asked) ≡ e → Does e act → ⊥
does_nothing e act q d = ⊎_elim (λ (w : e ≡ Whole act). not_whole act (q ∙ w)) (λ (s : e ≡ Stopped After act). not_behind act (q ∙ s)) d

pub refused : StoppedLaw
refused m =
    let o = m.of_events (line Enroute) (inl refl) in
    ⊎_elim
    (λ (a : IsOfApplication setup (stopping Before) stopped o.number 1 o.origin). does_nothing a.event (Submit a.asked) (the_event o.number a.event a.at) a.does)
    (λ (w : IsOfOwner setup (stopping Before) stopped o.number 1 o.origin). does_nothing w.event (Deliver w.number) (the_event o.number w.event w.at) w.does)
    o.makes
