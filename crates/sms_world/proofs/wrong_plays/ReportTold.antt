-- A STATUS-REPORT that says what its message does, and such as are of another, or go to another handset.
use Rattle.std.proofs.Common.{arith, ◌≡◌, ℕ, List, [], ◌∷◌, refl, sym, ◌∙◌, ap, subst, inl, inr, ⊎_elim, Some, Result, Ok}
use Rattle.std.specs.Prelude.{◌⊎◌}
use Rattle.sms_base.specs.Among.{Among}
use Rattle.sms_base.specs.declared.carried.Carried.{Carried}
use Rattle.sms_base.specs.declared.carried.Kind.TheVariants.{Data}
use Rattle.sms_base.specs.declared.final_state.FinalState.TheVariants.{Delivered}
use Rattle.sms_base.specs.declared.holder.Holder.TheVariants.{Report as ReportHolder}
use Rattle.sms_centre_rows.specs.declared.messages.message.MessageRow.{MessageRow}
use Rattle.sms_script.specs.declared.report.rows.FrameRow.{FrameRow}
use Rattle.sms_tpdu.specs.TpduReading.{down_at}
use Rattle.sms_tpdu.specs.declared.carrier.Carrier.TheVariants.{InData}
use Rattle.sms_tpdu.specs.declared.down.Down.{Down as DownOf}
use Rattle.sms_tpdu.specs.declared.down.Down.TheVariants.{StatusReport}
use Rattle.sms_tpdu.specs.declared.fault.TpduFault.{TpduFault}
use Rattle.sms_tpdu.specs.declared.status_report.StatusReport.{StatusReport as StatusReportOf}
use Rattle.sms_world.proofs.wrong_plays.StatusRead.{carried, reads, says}
use Rattle.sms_world.specs.headline.ReportClaims.{SaysOf}
use Rattle.sms_world.specs.headline.SeenFrames.{octets_down}
use Rattle.sms_world.specs.wrong_plays.Plays.{frame_to, from_application, from_writer}
use Rattle.sms_world.specs.wrong_plays.Told.{RightToldLaw, ToRecipientLaw, ToldEarlyLaw, ToldOfNoneLaw, pending}
use Rattle.sms_world.specs.wrong_reports.Literals.{handset, writer}
use Rattle.std.specs.Prelude.{length}
use Rattle.std.proofs.lemmas.Option.{none-some}

abbrev IsTold : FrameRow → Carried → StatusReportOf → Type 0
IsTold f x s =
    (m : MessageRow)
    × (Among m (from_application ∷ from_writer ∷ []) × (x.tag ≡ ReportHolder m.id) × (f.handset ≡ m.source.digits) × SaysOf m s)

same_carried : (x : Carried) → Some carried ≡ Some x → carried ≡ x
same_carried x e = cc

abbrev Reads : Result DownOf TpduFault → StatusReportOf → Type 0
Reads found s = found ≡ Ok (StatusReport s)

same_says : (s : StatusReportOf) → Reads (Ok (StatusReport says)) s → says ≡ s
same_says s e = cc

says_two : SaysOf from_writer says
says_two = record { reference = refl; recipient = refl; submitted = refl; done = refl; state = Delivered; ended = refl; status = refl }

told_of : (x : Carried) (s : StatusReportOf) → carried ≡ x → says ≡ s → IsTold (frame_to writer) x s
told_of x s ex es =
    subst (λ (z : Carried). IsTold (frame_to writer) z s) ex
    (subst (λ (z : StatusReportOf). IsTold (frame_to writer) carried z) es (from_writer, (inr (inl refl), refl, refl, says_two)))

told_by : (f : FrameRow) (x : Carried) (s : StatusReportOf) → frame_to writer ≡ f → f.carried ≡ Some x → x.kind ≡ Data
    → down_at InData (octets_down x.kind f.octets) ≡ Ok (StatusReport s) → IsTold f x s
told_by f x s e c k d =
    let ex : carried ≡ x = same_carried x (ap (λ (z : FrameRow). z.carried) e ∙ c) in
    let octets : down_at InData (octets_down Data (frame_to writer).octets) ≡ down_at InData (octets_down x.kind f.octets) =
    ap (λ (z : FrameRow). down_at InData (octets_down Data z.octets)) e ∙ ap (λ (z : Carried). down_at InData (octets_down z.kind f.octets)) ex in
    let es : says ≡ s = same_says s (sym reads ∙ (octets ∙ d)) in
    subst (λ (z : FrameRow). IsTold z x s) e (told_of x s ex es)

pub right_told : RightToldLaw
right_told f x s i d c k reading = ⊎_elim (λ (e : f ≡ frame_to writer). told_by f x s (sym e) c k reading) (λ (n : ⊥). absurd n) i

number : (a b : ℕ) → ReportHolder a ≡ ReportHolder b → a ≡ b
number a b e = cc

pub to_recipient : ToRecipientLaw
to_recipient say =
    let x = say (frame_to handset) carried says (inl refl) refl refl refl reads in
    ⊎_elim
    (λ (e : x.0 ≡ from_application). let q : 2 ≡ 1 = number 2 1 (x.1.1 ∙ ap (λ (m : MessageRow). ReportHolder m.id) e) in let l : ⊥ = omega (arith, q) in l)
    (λ (o : (x.0 ≡ from_writer) ⊎ ⊥). ⊎_elim
    (λ (e : x.0 ≡ from_writer).
    let q : 12 ≡ 11 = ap (λ (h : List ℕ). length h) (x.1.2 ∙ ap (λ (m : MessageRow). m.source.digits) e) in let l : ⊥ = omega (arith, q) in l)
    (λ (n : ⊥). n) o)
    x.1.0

pub told_of_none : ToldOfNoneLaw
told_of_none say =
    let x = say (frame_to writer) carried says (inl refl) refl refl refl reads in
    ⊎_elim
    (λ (e : x.0 ≡ from_application). let q : 2 ≡ 1 = number 2 1 (x.1.1 ∙ ap (λ (m : MessageRow). ReportHolder m.id) e) in let l : ⊥ = omega (arith, q) in l)
    (λ (n : ⊥). n)
    x.1.0

pub told_early : ToldEarlyLaw
told_early say =
    let x = say (frame_to writer) carried says (inl refl) refl refl refl reads in
    ⊎_elim
    (λ (e : x.0 ≡ pending from_writer). none-some x.1.3.state (sym (ap (λ (m : MessageRow). m.state) e) ∙ x.1.3.ended))
    (λ (n : ⊥). n)
    x.1.0
