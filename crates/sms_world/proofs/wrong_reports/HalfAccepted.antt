use Rattle.std.proofs.Common.{Bool, ◌≡◌, ℕ, zero, suc, List, [], ◌∷◌, refl, sym, ◌∙◌, ap, subst, inl, ⊎_elim, Option, Some, None, Ok}
use Rattle.sms_base.specs.Among.{Among}
use Rattle.sms_concat.specs.Cutting.{filled, split_of}
use Rattle.sms_concat.specs.declared.content.Content.{Content}
use Rattle.sms_alphabet.specs.declared.scheme.Coding.TheVariants.{Octets}
use Rattle.sms_base.specs.declared.holder.Holder.TheVariants.{Part}
use Rattle.sms_intake.specs.PartTexts.{bodies_under, deliver_octets}
use Rattle.sms_intake.specs.SmppText.{plain_text, text_in}
use Rattle.sms_intake.specs.declared.submission.SinglePart.{SinglePart}
use Rattle.sms_intake.specs.declared.submission.Submission.{Submission}
use Rattle.sms_intake.specs.declared.submission.Text.{Text}
use Rattle.sms_intake.specs.declared.submission.Text.TheVariants.{Whole as WholeText}
use Rattle.sms_script.specs.Requests.{submit_of}
use Rattle.sms_script.specs.declared.event.Act.TheVariants.{Submit, Write}
use Rattle.sms_script.specs.declared.event.StopPoint.TheVariants.{After}
use Rattle.sms_script.specs.declared.event.Submission.{Submission as ScriptSubmission}
use Rattle.sms_script.specs.declared.event.WorldEvent.{WorldEvent}
use Rattle.sms_script.specs.declared.event.WorldEvent.TheVariants.{Stopped, Whole}
use Rattle.sms_centre_rows.specs.declared.report_lines.MessageState.TheVariants.{Final}
use Rattle.sms_script.specs.declared.report.Report.{Report}
use Rattle.sms_script.specs.declared.report.rows.AcceptedRow.{AcceptedRow}
use Rattle.sms_script.specs.declared.report.rows.GivenRow.{GivenRow}
use Rattle.sms_base.specs.declared.final_state.FinalState.TheVariants.{Delivered}
use Rattle.sms_world.specs.headline.PlainReport.{IsAcceptedOnce, IsOfApplication, IsOfEvent, IsOfOwner, Origin, compared_line}
use Rattle.sms_world.specs.headline.PlainScript.{Does, IsAskedBy}
use Rattle.sms_world.specs.headline.PlainWords.{numbered}
use Rattle.sms_world.specs.wrong_reports.Literals.{accepted, given, half, half_reports, handset, hello_octets, line, long_asked, long_events, setup, zeros, second_given}
use Rattle.sms_world.specs.wrong_reports.Tried.{SplitLaw}
use Rattle.sms_world.proofs.wrong_reports.Read.{inside, answers}

abbrev content : Content
content = record { coding = Octets; dcs = 4; units = zeros 141 }

-- ---- the text has a second part, whatever its reference

abbrev IsSome : Option SinglePart → Type 0
IsSome None = ⊥
IsSome (Some b) = Unit {0}

some_is : (o : Option SinglePart) → IsSome o → (b : SinglePart) × (o ≡ Some b)
some_is None i = absurd i
some_is (Some b) i = (b, refl)

second : (reference : ℕ) → IsSome (numbered 2 (bodies_under reference (WholeText content)))
unfolding split_of filled
second reference = tt

-- ---- the event

no_write : (k : ℕ) (w : WorldEvent) (h to : List ℕ) (r : Bool) (t : List ℕ) → numbered k long_events ≡ Some w → Does w (Write h to r t) → ⊥
no_write zero w h to r t e d = absurd cc
no_write (suc zero) w h to r t e d = ⊎_elim (λ (q : w ≡ Whole (Write h to r t)). absurd cc) (λ (q : w ≡ Stopped After (Write h to r t)). absurd cc) d
no_write (suc (suc n)) w h to r t e d = absurd cc

one_submit : (k : ℕ) (w : WorldEvent) (s : ScriptSubmission) → numbered k long_events ≡ Some w → Does w (Submit s) → long_asked ≡ s
one_submit zero w s e d = absurd cc
one_submit (suc zero) w s e d = ⊎_elim (λ (q : w ≡ Whole (Submit s)). cc) (λ (q : w ≡ Stopped After (Submit s)). absurd cc) d
one_submit (suc (suc n)) w s e d = absurd cc

text_is : (t : Text) → answers (text_in (submit_of long_asked)) (Ok t) → WholeText content ≡ t
unfolding plain_text split_of filled
text_is t f = inside (WholeText content) t f

parts_of : (after : ℕ → Report) (n id : ℕ) (o : Origin) → IsOfApplication setup long_events after n id o → (reference : ℕ) × (bodies_under reference (WholeText content) ≡ o.parts)
parts_of after n id o a =
    let by : IsAskedBy setup long_asked o.submission = subst (λ (s : ScriptSubmission). IsAskedBy setup s o.submission) (sym (one_submit n a.event a.asked a.at a.does)) a.submission in
    (a.reference, ap (λ (t : Text). bodies_under a.reference t) (text_is o.submission.text by.text) ∙ sym a.parts)

its_parts : (o : IsOfEvent setup long_events half_reports (line (Final Delivered))) → (reference : ℕ) × (bodies_under reference (WholeText content) ≡ o.origin.parts)
its_parts o = ⊎_elim
    (λ (a : IsOfApplication setup long_events half_reports o.number 1 o.origin). parts_of half_reports o.number 1 o.origin a)
    (λ (w : IsOfOwner setup long_events half_reports o.number 1 o.origin).
    absurd (no_write o.origin.given_at w.writing w.frame.handset w.to w.report w.text w.written_at w.writes))
    o.makes

-- ---- nothing under its reference was accepted

first_is_not : Part 1 1 ≡ Part 1 2 → ⊥
first_is_not q = absurd cc

reference_one : (g : GivenRow) → Among g (given ∷ second_given ∷ []) → g.holder ≡ Part 1 2 → 1 ≡ g.reference
reference_one g i h = ⊎_elim
    (λ (e : g ≡ given). absurd (first_is_not (ap (λ (z : GivenRow). z.holder) (sym e) ∙ h)))
    (λ (j : Among g (second_given ∷ [])). ⊎_elim (λ (e : g ≡ second_given). ap (λ (z : GivenRow). z.reference) (sym e)) (λ (n : ⊥). absurd n) j) i

one_is_not_zero : ◌≡◌ {A = ℕ} 1 0 → ⊥
one_is_not_zero q = absurd cc

not_accepted : (u : Submission) (b : SinglePart) → IsAcceptedOnce half (line (Final Delivered)) 2 u b → ⊥
not_accepted u b a =
    let row : AcceptedRow = record { handset = handset; reference = a.given.reference; tpdu = deliver_octets a.given.moment u b } in
    ⊎_elim
    (λ (p : (row ≡ compared_line (accepted hello_octets)) × ((Among row []) → ⊥)).
    one_is_not_zero (reference_one a.given a.among a.holder ∙ ap (λ (z : AcceptedRow). z.reference) p.0))
    (λ (p : ((row ≡ compared_line (accepted hello_octets)) → ⊥) × ⊥). p.1) a.once

pub refused : SplitLaw
refused d =
    let w = d.lines (line (Final Delivered)) (inl refl) refl in
    let p = its_parts w.of_event in
    let b = some_is (numbered 2 (bodies_under p.0 (WholeText content))) (second p.0) in
    not_accepted w.of_event.origin.submission b.0 (w.each 2 b.0 (ap (λ (ps : List SinglePart). numbered 2 ps) (sym p.1) ∙ b.1))
