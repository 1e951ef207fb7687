-- What the one submission of the small script is, read from its words.
use Rattle.std.proofs.Common.{◌≡◌, ℕ, zero, suc, List, [], ◌∷◌, Bool, false, refl, sym, ◌∙◌, ap, subst, ⊎_elim, Some, None, Ok, Result}
use Rattle.sms_centre_rows.specs.declared.report_lines.ReportedMessage.{ReportedMessage}
use Rattle.sms_world.specs.wrong_reports.Literals.{asked, account, events, hello, hello_octets, deliver, setup, source}
use Rattle.sms_base.specs.HandsetNumber.{own_address}
use Rattle.sms_intake.specs.SmppText.{plain_text, text_in}
use Rattle.sms_concat.specs.Cutting.{split_of}
use Rattle.sms_base.specs.StampWriting.{clock_at}
use Rattle.sms_intake.specs.PartTexts.{bodies_under, deliver_octets}
use Rattle.sms_script.specs.Requests.{submit_of}
use Rattle.sms_world.specs.headline.PlainReport.{IsOfApplication, IsOfOwner, IsOfEvent, Origin}
use Rattle.sms_world.specs.headline.PlainScript.{Does, IsAskedBy}
use Rattle.sms_world.specs.headline.PlainWords.{numbered}
use Rattle.sms_alphabet.specs.declared.scheme.Coding.TheVariants.{Septets}
use Rattle.sms_concat.specs.declared.content.Content.{Content}
use Rattle.sms_intake.specs.declared.submission.SinglePart.{SinglePart}
use Rattle.sms_intake.specs.declared.submission.Submission.{Submission}
use Rattle.sms_intake.specs.declared.submission.Text.{Text}
use Rattle.sms_intake.specs.declared.submission.Text.TheVariants.{Whole as WholeText}
use Rattle.sms_script.specs.declared.event.Act.TheVariants.{Submit, Write}
use Rattle.sms_script.specs.declared.setup.AccountSetup.{AccountSetup}
use Rattle.sms_script.specs.declared.report.Report.{Report}
use Rattle.sms_script.specs.declared.event.StopPoint.TheVariants.{After}
use Rattle.sms_script.specs.declared.event.Submission.{Submission as ScriptSubmission}
use Rattle.sms_script.specs.declared.event.WorldEvent.{WorldEvent}
use Rattle.sms_script.specs.declared.event.WorldEvent.TheVariants.{Whole, Stopped}
use Rattle.sms_base.specs.declared.address.Address.{Address}
use Rattle.smpp_pdu.specs.declared.status.CommandStatus.{CommandStatus}
use Rattle.sms_base.specs.declared.wish.Wish.{Wish}
use Rattle.sms_base.specs.declared.wish.Wish.TheVariants.{Always}
use Rattle.sms_world.proofs.wrong_reports.Apart.{the_one}

abbrev pub content : Content
content = record { coding = Septets; dcs = 0; units = hello }

abbrev pub part : SinglePart
part = record { header_indicator = false; data_coding_scheme = 0; length = 5; octets = hello_octets; key = None }

-- ---- the text

pub text_reads : text_in (submit_of asked) ≡ Ok (WholeText content)
unfolding plain_text split_of
text_reads = refl

pub parts_read : (reference : ℕ) → bodies_under reference (WholeText content) ≡ part ∷ []
unfolding split_of
parts_read reference = refl

abbrev pub answers : Result Text CommandStatus → Result Text CommandStatus → Type 0
answers a b = a ≡ b

-- ---- the event

no_write : (k : ℕ) (w : WorldEvent) (h to : List ℕ) (r : Bool) (t : List ℕ) → numbered k events ≡ Some w → Does w (Write h to r t) → ⊥
no_write zero w h to r t e d = absurd cc
no_write (suc zero) w h to r t e d = ⊎_elim (λ (q : w ≡ Whole (Write h to r t)). absurd cc) (λ (q : w ≡ Stopped After (Write h to r t)). absurd cc) d
no_write (suc (suc zero)) w h to r t e d = ⊎_elim (λ (q : w ≡ Whole (Write h to r t)). absurd cc) (λ (q : w ≡ Stopped After (Write h to r t)). absurd cc) d
no_write (suc (suc (suc zero))) w h to r t e d = ⊎_elim (λ (q : w ≡ Whole (Write h to r t)). absurd cc) (λ (q : w ≡ Stopped After (Write h to r t)). absurd cc) d
no_write (suc (suc (suc (suc n)))) w h to r t e d = absurd cc

one_submit : (k : ℕ) (w : WorldEvent) (s : ScriptSubmission) → numbered k events ≡ Some w → Does w (Submit s) → asked ≡ s
one_submit zero w s e d = absurd cc
one_submit (suc zero) w s e d = ⊎_elim (λ (q : w ≡ Whole (Submit s)). cc) (λ (q : w ≡ Stopped After (Submit s)). absurd cc) d
one_submit (suc (suc zero)) w s e d = ⊎_elim (λ (q : w ≡ Whole (Submit s)). absurd cc) (λ (q : w ≡ Stopped After (Submit s)). absurd cc) d
one_submit (suc (suc (suc zero))) w s e d = ⊎_elim (λ (q : w ≡ Whole (Submit s)). absurd cc) (λ (q : w ≡ Stopped After (Submit s)). absurd cc) d
one_submit (suc (suc (suc (suc n)))) w s e d = absurd cc

pub inside : (s t : Text) → answers (Ok s) (Ok t) → s ≡ t
inside s t q = cc

text_is : (t : Text) → answers (text_in (submit_of asked)) (Ok t) → WholeText content ≡ t
unfolding plain_text split_of
text_is t f = inside (WholeText content) t f

-- it is asked for, and has that part
pub record IsRead (o : Origin) : Type 0 where
  pub asked_by : IsAskedBy setup asked o.submission
  pub parts : part ∷ [] ≡ o.parts

of_application : (after : ℕ → Report) (n id : ℕ) (o : Origin) → IsOfApplication setup events after n id o → IsRead o
unfolding split_of
of_application after n id o a =
    let by : IsAskedBy setup asked o.submission = subst (λ (s : ScriptSubmission). IsAskedBy setup s o.submission) (sym (one_submit n a.event a.asked a.at a.does)) a.submission in
    record {
      asked_by = by;
      parts = ap (λ (t : Text). bodies_under a.reference t) (text_is o.submission.text by.text) ∙ sym a.parts;
    }

pub is_read : (after : ℕ → Report) (m : ReportedMessage) (o : IsOfEvent setup events after m) → IsRead o.origin
is_read after m o = ⊎_elim
    (λ (a : IsOfApplication setup events after o.number m.id o.origin). of_application after o.number m.id o.origin a)
    (λ (w : IsOfOwner setup events after o.number m.id o.origin). absurd (no_write o.origin.given_at w.writing w.frame.handset w.to w.report w.text w.written_at w.writes))
    o.makes

pub first_part : (o : Origin) → IsRead o → numbered 1 o.parts ≡ Some part
first_part o r = ap (λ (ps : List SinglePart). numbered 1 ps) (sym r.parts)

-- ---- its octets

octets_by : (u : Submission) (w : Wish) (p : Bool) (a : Address) (i moment : ℕ) → u.wish ≡ w → u.reply_path ≡ p → u.source ≡ a → u.protocol_identifier ≡ i → moment ≡ 946684800
    → deliver_octets moment u part ≡ deliver_octets 946684800 (record u { wish = w; reply_path = p; source = a; protocol_identifier = i }) part
octets_by u w p a i moment ew ep ea ei em =
    ap (λ (z : ℕ). deliver_octets z u part) em
    ∙ ap (λ (z : Wish). deliver_octets 946684800 (record u { wish = z }) part) ew
    ∙ ap (λ (z : Bool). deliver_octets 946684800 (record u { wish = w; reply_path = z }) part) ep
    ∙ ap (λ (z : Address). deliver_octets 946684800 (record u { wish = w; reply_path = p; source = z }) part) ea
    ∙ ap (λ (z : ℕ). deliver_octets 946684800 (record u { wish = w; reply_path = p; source = a; protocol_identifier = z }) part) ei

-- they are those of `hello`
pub octets_are : (u : Submission) (moment : ℕ) → moment ≡ 946684800 → IsAskedBy setup asked u → deliver_octets moment u part ≡ deliver hello_octets
unfolding clock_at
octets_are u moment em a =
    octets_by u Always false (own_address source) 0 moment a.wish a.reply_path
    (a.source ∙ ap (λ (z : AccountSetup). own_address z.number) (the_one account a.account a.among)) a.protocol_identifier em
