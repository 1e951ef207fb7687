use Rattle.std.proofs.Common.{◌≡◌, ℕ, zero, suc, [], ◌∷◌, refl, ◌∙◌, inl, ⊎_elim, Some}
use Rattle.sms_script.specs.declared.event.Act.{Act}
use Rattle.sms_script.specs.declared.event.Act.TheVariants.{Deliver, Submit}
use Rattle.sms_script.specs.declared.event.StopPoint.TheVariants.{After}
use Rattle.sms_script.specs.declared.event.WorldEvent.{WorldEvent}
use Rattle.sms_script.specs.declared.event.WorldEvent.TheVariants.{Stopped, Whole}
use Rattle.sms_script.specs.declared.report.answers.Answered.TheVariants.{Accepted}
use Rattle.sms_centre_rows.specs.declared.report_lines.MessageState.TheVariants.{Enroute}
use Rattle.sms_world.specs.headline.PlainReport.{IsAnswered, IsOfApplication, IsOfOwner}
use Rattle.sms_world.specs.headline.PlainWords.{numbered}
use Rattle.sms_world.specs.wrong_reports.Literals.{line, setup, stopped, submits}
use Rattle.sms_world.specs.wrong_reports.Tried.{UnansweredLaw}

the_event : (n : ℕ) (e : WorldEvent) → numbered n (submits ∷ []) ≡ Some e → submits ≡ e
the_event zero e q = absurd cc
the_event (suc zero) e q = cc
the_event (suc (suc n)) e q = absurd cc

not_stopped : (act : Act) → submits ≡ Stopped After act → ⊥
not_stopped act q = absurd cc

no_frame : (k : ℕ) → submits ≡ Whole (Deliver k) → ⊥
no_frame k q = absurd cc

none_answered : (n k : ℕ) → IsAnswered (stopped n) k (Accepted 1) → ⊥
none_answered zero k i = absurd i
none_answered (suc n) k i = absurd i

pub refused : UnansweredLaw
refused m =
    let o = m.of_events (line Enroute) (inl refl) in
    ⊎_elim
    (λ (a : IsOfApplication setup (submits ∷ []) stopped o.number 1 o.origin).
    ⊎_elim (λ (w : a.event ≡ Whole (Submit a.asked)). none_answered o.number o.number (a.answered w))
    (λ (s : a.event ≡ Stopped After (Submit a.asked)). not_stopped (Submit a.asked) (the_event o.number a.event a.at ∙ s)) a.does)
    (λ (f : IsOfOwner setup (submits ∷ []) stopped o.number 1 o.origin).
    ⊎_elim (λ (w : f.event ≡ Whole (Deliver f.number)). no_frame f.number (the_event o.number f.event f.at ∙ w))
    (λ (s : f.event ≡ Stopped After (Deliver f.number)). not_stopped (Deliver f.number) (the_event o.number f.event f.at ∙ s)) f.does)
    o.makes
