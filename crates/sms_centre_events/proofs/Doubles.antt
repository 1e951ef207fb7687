-- A SUBMIT that is a duplicate, told by the TP-MRs that are pending.
use Rattle.std.proofs.Common.{◌≡◌, ℕ, List, [], ◌∷◌, Bool, refl, ◌∙◌, ap}
use Rattle.std.specs.Prelude.{◌&&◌, ◌||◌}
use Rattle.std.specs.Str.{bytes_eq}
use Rattle.sms_base.specs.declared.originator.Originator.{Originator}
use Rattle.sms_base.specs.declared.originator.Originator.TheVariants.{Application, Handset}
use Rattle.sms_centre_rows.specs.declared.messages.message.MessageRow.{MessageRow}
use Rattle.sms_centre_rows.specs.messages.Messages.{is_pending}
use Rattle.sms_centre_messages.specs.references.ReferenceIndex.{has_pending, is_from_handset}
use Rattle.sms_intake.specs.declared.submission.Submission.{Submission}
use Rattle.sms_centre_spec.specs.Receiving.{is_of_reference, is_pending_double}

same_reference : (n : ℕ) (o : Originator) → is_of_reference (Handset n) o ≡ is_from_handset n o
same_reference n (Application account) = refl
same_reference n (Handset m) = refl

pub double_pending : (u : Submission) (n : ℕ) (ms : List MessageRow) → u.originator ≡ Handset n → is_pending_double u ms ≡ has_pending u.source.digits u.handset n ms
double_pending u n [] e = refl
double_pending u n (m ∷ ms) e =
    ap (λ (o : Originator). (is_pending m && (is_of_reference o m.originator && (bytes_eq u.source.digits m.source.digits && bytes_eq u.handset m.handset))) || is_pending_double u ms) e
    ∙ ap (λ (b : Bool). (is_pending m && (b && (bytes_eq u.source.digits m.source.digits && bytes_eq u.handset m.handset))) || is_pending_double u ms) (same_reference n m.originator)
    ∙ ap (λ (b : Bool). (is_pending m && (is_from_handset n m.originator && (bytes_eq u.source.digits m.source.digits && bytes_eq u.handset m.handset))) || b) (double_pending u n ms e)
