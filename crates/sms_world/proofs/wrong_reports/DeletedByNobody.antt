use Rattle.std.proofs.Common.{arith, ◌≡◌, ℕ, List, [], ◌∷◌, refl, ap, inl, ⊎_elim, Some, ◌<◌}
use Rattle.sms_base.specs.Among.{Among}
use Rattle.sms_centre_rows.specs.declared.report_lines.ReportedMessage.{ReportedMessage}
use Rattle.sms_centre_rows.specs.declared.report_lines.MessageState.TheVariants.{Enroute, Final}
use Rattle.sms_base.specs.declared.final_state.FinalState.TheVariants.{Deleted}
use Rattle.sms_world.specs.wrong_reports.Literals.{line, events}
use Rattle.sms_world.specs.headline.PlainScript.{Does}
use Rattle.sms_world.specs.headline.PlainWords.{numbered}
use Rattle.sms_script.specs.declared.event.Act.TheVariants.{Cancel}
use Rattle.sms_script.specs.declared.event.StopPoint.TheVariants.{After}
use Rattle.sms_script.specs.declared.event.WorldEvent.{WorldEvent}
use Rattle.sms_script.specs.declared.event.WorldEvent.TheVariants.{Whole, Stopped}
use Rattle.sms_world.specs.wrong_reports.Tried.{DeletedLaw}

not_there : Among (line (Final Deleted)) (line Enroute ∷ []) → ⊥
not_there i = ⊎_elim (λ (e : line (Final Deleted) ≡ line Enroute). differ (ap (λ (z : ReportedMessage). z.state) e)) (λ (n : ⊥). absurd n) i
  where
    differ : Final Deleted ≡ Enroute → ⊥
    differ e = absurd cc

second : 1 < 3
second = omega arith

no_cancel : (w : WorldEvent) (a b : List ℕ) → numbered 2 events ≡ Some w → Does w (Cancel a b) → ⊥
no_cancel w a b e d = ⊎_elim (λ (q : w ≡ Whole (Cancel a b)). absurd cc) (λ (q : w ≡ Stopped After (Cancel a b)). absurd cc) d

pub refused : DeletedLaw
refused d = let x = d 1 (line (Final Deleted)) second (inl refl) refl not_there in no_cancel x.0 x.1 x.2 x.3.0 x.3.1
