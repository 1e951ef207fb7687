-- A text that was split: what its submission becomes, and that it stays so.
use Rattle.std.proofs.Common.{◌≡◌, inl, inr, ℕ, List, true, false, Option, Some, None, Result, Ok, Err, refl, sym, ◌∙◌, ap, subst, ◌<◌, arith}
use Rattle.std.proofs.lemmas.Bool.{cond_both}
use Rattle.smpp_pdu.specs.declared.message.Message.{Message as Pdu}
use Rattle.smpp_pdu.specs.declared.status.CommandStatus.{CommandStatus}
use Rattle.smpp_pdu.specs.declared.status.CommandStatus.TheVariants.{ESME_RSUBMITFAIL}
use Rattle.sms_base.specs.Among.{Among}
use Rattle.sms_rows.proofs.table.Tables.{found_among, found_key, row_at_put}
use Rattle.sms_concat.specs.declared.content.Content.{Content}
use Rattle.sms_intake.specs.declared.submission.CentreAccount.{CentreAccount}
use Rattle.sms_intake.specs.declared.submission.Submission.{Submission}
use Rattle.sms_intake.specs.declared.submission.Text.{Text}
use Rattle.sms_intake.specs.declared.submission.Text.TheVariants.{Whole}
use Rattle.sms_intake.specs.PartBodies.{is_long}
use Rattle.sms_intake.specs.SmppIntake.{from_pdu}
use Rattle.sms_centre_rows.specs.declared.messages.message.MessageRow.{MessageRow}
use Rattle.sms_centre_rows.specs.declared.messages.part.PartRow.{PartRow}
use Rattle.sms_centre_rows.specs.messages.Messages.{ended, message_at, message_key}
use Rattle.sms_centre_spec.specs.declared.event.CentreEvent.TheVariants.{Submit}
use Rattle.sms_centre_spec.specs.Draft.{Draft, Store, draft_of, messages_in, parts_in, rows_of}
use Rattle.sms_centre_spec.specs.MessageNumbers.{next_number}
use Rattle.sms_centre_spec.specs.Requests.{account_at, accepted, refused, submission_received, submit_by}
use Rattle.sms_centre_spec.specs.Consistent.{IsSubmission}
use Rattle.sms_centre_spec.specs.Submitted.{AccountGives}
use Rattle.sms_centre_spec.specs.Shares.{unless_too_much}
use Rattle.sms_centre_spec.specs.Submitting.{accept, is_reference_taken, message_of}
use Rattle.sms_centre_spec.proofs.NextNumbers.{below_next_number}
use Rattle.sms_centre_spec.proofs.PduFits.{event_gives}
use Rattle.sms_centre_spec.proofs.SoundAccepted.{sound_steady}
use Rattle.sms_centre_spec.proofs.SoundStores.{SoundStore, store_sound}
use Rattle.sms_centre_spec.proofs.Stages.{IfThere, unless_kept}
use Rattle.sms_world.specs.split_messages_stay.SplitLaws.{StaysLaw, TextLaw}
use Rattle.sms_world.specs.headline.SplitClaims.{IsSplitOf}
use Rattle.sms_world.proofs.split_messages_stay.MadeParts.{Accepts, accept_leads}
use Rattle.sms_world.proofs.split_messages_stay.Places.{text_cut}
use Rattle.sms_world.proofs.split_messages_stay.SameParts.{same_parts, split_stays}
use Rattle.sms_world.proofs.split_messages_stay.SplitParts.{stored_of}
use Rattle.sms_centre_spec.proofs.TextContents.{IsText, pdu_is}
use Rattle.sms_world.proofs.split_messages_stay.KeptMessages.{IsLasting, said_on}

-- ---- it stays

-- the message is that content, split
abbrev pub IsSplitAs : Content → ℕ → MessageRow → List PartRow → Type 0
IsSplitAs content reference m parts = IsSplitOf m content reference parts

pub split_lasts : (content : Content) (reference : ℕ) → IsLasting (IsSplitAs content reference)
split_lasts content reference = record {
  ends = λ f n m ps k. split_stays m (ended f n m) content reference ps ps refl refl k (same_parts m.id ps);
  parts = λ m ps qs same k. split_stays m m content reference ps qs refl refl k same;
}

pub stays_split : StaysLaw
stays_split event c m content reference sound is there k =
    said_on m.id (IsSplitAs content reference) (split_lasts content reference) event c sound is (m, (there, k))

-- ---- it becomes so

-- the message of that number, if there is one, is the content, split
abbrev pub Becomes : ℕ → Content → Store → Type 0
Becomes id content s = (m : MessageRow) → message_at id (messages_in s) ≡ Some m → (reference : ℕ) × ((m.split_reference ≡ Some reference) × IsSplitOf m content reference (parts_in s))

same_content : (t : Text) (a b : Content) → t ≡ Whole a → t ≡ Whole b → a ≡ b
same_content t a b x y = let e : Whole a ≡ Whole b = sym x ∙ y in cc

module _ (u : Submission) (content : Content) (text : u.text ≡ Whole content) (long : is_long u.text ≡ true) (is : IsText u.text) (fit : IsSubmission u) (s : Store) (sound : SoundStore s) where
  abbrev number : ℕ
  number = next_number (rows_of s)

  none_there : Becomes number content s
  none_there m at =
      let low = below_next_number (rows_of s) m sound.consistent.message_keys (found_among message_key number m (messages_in s) at) in
      let own : m.id ≡ number = found_key message_key number m (messages_in s) at in
      absurd (let l : ⊥ = omega (arith, low, own) in l)

  new_one : (e : Store) → SoundStore e → Accepts u s e → Becomes number content e
  new_one e after (inr (short, a)) m at = let bad : true ≡ false = sym long ∙ short in absurd cc
  new_one e after (inl (r, (l, a))) m at =
      let row : MessageRow = message_of number s.moment (Some r) u in
      let both : Some row ≡ Some m = sym (ap (λ (ms : List MessageRow). message_at number ms) a.messages ∙ row_at_put message_key row (messages_in s)) ∙ at in
      let same : row ≡ m = cc in
      let cut = text_cut r u.text long (fit.some r) in
      let few : (p : PartRow) → Among p (parts_in e) → p.number < 256 = λ p among. (after.consistent.held.parts.numbers p among).1 in
      let one : IsText (Whole cut.content) = subst (λ (t : Text). IsText t) cut.whole is in
      let own : IsSplitOf row cut.content r (parts_in e) = stored_of row u r (parts_in e) fit refl few cut a.made one in
      let its : cut.content ≡ content = same_content u.text cut.content content cut.whole text in
      subst (λ (x : MessageRow). (reference : ℕ) × ((x.split_reference ≡ Some reference) × IsSplitOf x content reference (parts_in e))) same
      (r, (refl, subst (λ (y : Content). IsSplitOf row y r (parts_in e)) its own))

  came : (o : Option Store) (d : Draft) → d.store ≡ s → IfThere SoundStore o → IfThere (Accepts u s) o → Becomes number content (accepted number o d).store
  came None d e after a = subst (λ (x : Store). Becomes number content x) (sym e) none_there
  came (Some z) d e after a = new_one z after a

pub text_arrived : (r : Result Submission CommandStatus) (d : Draft) (u : Submission) (content : Content) → r ≡ Ok u → SoundStore d.store → u.text ≡ Whole content → is_long u.text ≡ true → IsText u.text → IsSubmission u
    → Becomes (next_number (rows_of d.store)) content (submission_received r d).store
text_arrived (Err status) d u content e sound text long is fit = absurd cc
text_arrived (Ok v) d u content e sound text long is fit =
    let same : u ≡ v = cc in
    let s : Store = d.store in
    let n : ℕ = next_number (rows_of s) in
    let o : Option Store = accept u s in
    let keeps : IfThere SoundStore (unless_too_much u o) = unless_kept (IfThere SoundStore) u o tt (sound_steady.accepted u s sound fit) in
    let leads : IfThere (Accepts u s) (unless_too_much u o) = unless_kept (IfThere (Accepts u s)) u o tt (accept_leads u s sound fit) in
    let took : Becomes n content (accepted n (unless_too_much u o) d).store = came u content text long is fit s sound (unless_too_much u o) d refl keeps leads in
    subst (λ (w : Submission). Becomes n content (submission_received (Ok w) d).store) same
    (cond_both (is_reference_taken u s) (refused ESME_RSUBMITFAIL d) (accepted n (unless_too_much u o) d) (λ (x : Draft). Becomes n content x.store)
    (λ t. none_there u content text long is fit s sound) (λ t. took))

pub text_by : (o : Option CentreAccount) (pdu : Pdu) (d : Draft) (account : CentreAccount) (u : Submission) (content : Content) → o ≡ Some account → from_pdu account d.store.moment pdu ≡ Ok u → SoundStore d.store → u.text ≡ Whole content
    → is_long u.text ≡ true → AccountGives o d.store.moment pdu → Becomes (next_number (rows_of d.store)) content (submit_by o pdu d).store
text_by None pdu d account u content e read sound text long g = absurd cc
text_by (Some a) pdu d account u content e read sound text long g =
    let same : account ≡ a = cc in
    let mine : from_pdu a d.store.moment pdu ≡ Ok u = subst (λ (x : CentreAccount). from_pdu x d.store.moment pdu ≡ Ok u) same read in
    text_arrived (from_pdu a d.store.moment pdu) d u content mine sound text long (pdu_is a d.store.moment pdu u mine) (g u mine)

pub text_is_split : TextLaw
text_is_split place pdu c account u content sound at read text long m there =
    text_by (account_at place c.rows.setup.accounts) pdu (draft_of c) account u content at read (store_sound c.rows c.moment sound.rows sound.now sound.moment) text long
    (event_gives (Submit place pdu) c sound tt) m there
