-- The content of a submit_sm that passed all checks has units of its coding, which its scheme names.
use Rattle.std.proofs.Common.{◌≡◌, ℕ, List, length, take, drop, Option, Some, None, Ok, Err, subst, ap, ◌∙◌}
use Rattle.std.specs.Prelude.{nat_le}
use Rattle.std.proofs.lemmas.Bool.{cond_both}
use Rattle.sms_base.specs.Reading.{only_if}
use Rattle.sms_base.proofs.Steps.{bind_ok, ok_is}
use Rattle.sms_alphabet.specs.declared.concat_key.ConcatKey.{ConcatKey}
use Rattle.sms_concat.specs.declared.content.Content.{Content}
use Rattle.sms_alphabet.specs.HeaderGrammar.{header_at}
use Rattle.sms_concat.specs.Splitting.{split_of}
use Rattle.sms_concat.specs.UserData.{capacity, data_length, header_of}
use Rattle.smpp_pdu.specs.declared.message.Message.{Message}
use Rattle.smpp_pdu.specs.declared.status.CommandStatus.{CommandStatus}
use Rattle.smpp_pdu.specs.declared.status.CommandStatus.TheVariants.{ESME_RINVMSGLEN}
use Rattle.smpp_pdu.specs.declared.tlv.Tlvs.{Tlvs}
use Rattle.sms_intake.specs.declared.submission.CentreAccount.{CentreAccount}
use Rattle.sms_intake.specs.declared.submission.Submission.{Submission}
use Rattle.sms_intake.specs.declared.submission.Text.{Text}
use Rattle.sms_intake.specs.declared.submission.Text.TheVariants.{Single, Whole}
use Rattle.sms_intake.specs.PartBodies.{body_behind}
use Rattle.sms_intake.specs.SmppIntake.{are_whole, content_at, due_in, from_pdu, front_in, has_header, header_read, header_size, headed_text, judged_in, limit_in, plain_text, sar_key, single_behind, splits, submission_for, text_in, text_of, whole_of}
use Rattle.sms_centre_spec.proofs.SmppFits.{IsContent, content_fits}

-- so of a text that is not behind a header
abbrev pub IsText : Text → Type 0
IsText (Whole content) = IsContent content
IsText (Single part) = Unit {0}

single_is : (header : List ℕ) (key : Option ConcatKey) (c : Content) (t : Text) → single_behind header key c ≡ Ok t → IsText t
single_is header key c t e =
    cond_both (nat_le (data_length c.coding (length header) (length c.units)) (capacity c.coding)) (Ok (Single (body_behind header key c))) (Err ESME_RINVMSGLEN) (λ r. r ≡ Ok t → IsText t)
    (λ room f. let is : IsText (Single (body_behind header key c)) = tt in subst (λ (y : Text). IsText y) (ok_is {E = CommandStatus} (Single (body_behind header key c)) t f) is)
    (λ room f. absurd cc) e

whole_is : (dc : ℕ) (octets : List ℕ) (c : Content) (t : Text) → content_at dc octets ≡ Ok c → whole_of c ≡ Ok t → IsText t
whole_is dc octets c t is e =
    cond_both (splits (split_of c 0)) (Ok (Whole c)) (Err ESME_RINVMSGLEN) (λ r. r ≡ Ok t → IsText t)
    (λ s f. subst (λ (y : Text). IsText y) (ok_is {E = CommandStatus} (Whole c) t f) (content_fits dc octets c is))
    (λ s f. absurd cc) e

headed_is : (dc : ℕ) (octets : List ℕ) (t : Text) → headed_text dc octets ≡ Ok t → IsText t
unfolding headed_text
headed_is dc octets t e =
    let a = bind_ok (header_read (header_at octets)) _ t e in
    let b = bind_ok (content_at dc (drop (header_size octets) octets)) _ t a.2 in
    let w = bind_ok (only_if (are_whole b.0.coding b.0.units) ESME_RINVMSGLEN) _ t b.2 in
    single_is (take (header_size octets) octets) a.0 b.0 t w.2

keyed_is : (key : Option ConcatKey) (c : Content) (dc : ℕ) (octets : List ℕ) (t : Text) → content_at dc octets ≡ Ok c → text_of key c ≡ Ok t → IsText t
keyed_is None c dc octets t e f = whole_is dc octets c t e f
keyed_is (Some key) c dc octets t e f = single_is (header_of (Some key)) (Some key) c t f

plain_is : (dc : ℕ) (v : Tlvs) (octets : List ℕ) (t : Text) → plain_text dc v octets ≡ Ok t → IsText t
unfolding plain_text
plain_is dc v octets t e =
    let a = bind_ok (content_at dc octets) _ t e in
    let w = bind_ok (only_if (are_whole a.0.coding a.0.units) ESME_RINVMSGLEN) _ t a.2 in
    keyed_is (sar_key v.sar_msg_ref_num v.sar_total_segments v.sar_segment_seqnum) a.0 dc octets t a.1 w.2

text_is : (m : Message) (t : Text) → text_in m ≡ Ok t → IsText t
text_is m t e =
    cond_both (has_header m) _ _ (λ r. r ≡ Ok t → IsText t) (λ h f. headed_is m.data_coding _ t f) (λ h f. plain_is m.data_coding m.tlvs _ t f) e

pub pdu_is : (account : CentreAccount) (now : ℕ) (m : Message) (u : Submission) → from_pdu account now m ≡ Ok u → IsText u.text
unfolding from_pdu judged_in
pdu_is account now m u e =
    let judged = bind_ok (judged_in account now m) _ u e in
    let front = bind_ok (front_in account m) _ judged.0 judged.1 in
    let text = bind_ok (text_in m) _ judged.0 front.2 in
    let limit = bind_ok (limit_in now m.validity_period) _ judged.0 text.2 in
    let due = bind_ok (due_in now limit.0 m.schedule_delivery_time) _ judged.0 limit.2 in
    let same = ap (λ j. submission_for account m j) (ok_is {E = CommandStatus} _ judged.0 due.2) ∙ ok_is {E = CommandStatus} _ u judged.2 in
    subst (λ (x : Submission). IsText x.text) same (text_is m text.0 text.1)
