-- A message that comes of a submit_sm is the submission that the PDU reads as.
use Rattle.std.proofs.Common.{◌≡◌, ◌⊎◌, inl, inr, ℕ, ◌<◌, List, Option, Some, None, Result, Ok, Err, refl, sym, ◌∙◌, ap, subst, ⊎_elim}
use Rattle.std.proofs.lemmas.Bool.{cases_eq, cond-false, cond-true, cond_both}
use Rattle.smpp_pdu.specs.declared.message.Message.{Message as Pdu}
use Rattle.smpp_pdu.specs.declared.status.CommandStatus.{CommandStatus}
use Rattle.smpp_pdu.specs.declared.status.CommandStatus.TheVariants.{ESME_RSUBMITFAIL}
use Rattle.sms_base.specs.Among.{Among}
use Rattle.sms_rows.proofs.table.Tables.{row_at_put, row_at_put_other}
use Rattle.sms_intake.specs.declared.submission.CentreAccount.{CentreAccount}
use Rattle.sms_intake.specs.declared.submission.Submission.{Submission}
use Rattle.sms_intake.specs.PartBodies.{is_long}
use Rattle.sms_intake.specs.SmppIntake.{from_pdu}
use Rattle.sms_centre_rows.specs.declared.messages.message.MessageRow.{MessageRow}
use Rattle.sms_centre_rows.specs.declared.messages.part.PartRow.{PartRow}
use Rattle.sms_centre_rows.specs.messages.Messages.{message_at, message_key}
use Rattle.sms_centre_spec.specs.declared.event.CentreEvent.TheVariants.{Submit}
use Rattle.sms_centre_spec.specs.Draft.{Draft, Store, draft_of, messages_in, parts_in, rows_of}
use Rattle.sms_centre_spec.specs.MessageNumbers.{next_number}
use Rattle.sms_centre_spec.specs.Requests.{account_at, accepted, refused, submission_received, submit_by}
use Rattle.sms_centre_spec.specs.Consistent.{IsSubmission}
use Rattle.sms_centre_spec.specs.Submitted.{AccountGives}
use Rattle.sms_centre_spec.specs.Shares.{unless_too_much}
use Rattle.sms_centre_spec.specs.Submitting.{accept, is_reference_taken, message_of}
use Rattle.sms_centre_spec.proofs.PduFits.{event_gives}
use Rattle.sms_centre_spec.proofs.SoundAccepted.{sound_steady}
use Rattle.sms_centre_spec.proofs.SoundStores.{SoundStore, store_sound}
use Rattle.sms_centre_spec.proofs.Stages.{IfThere, unless_kept}
use Rattle.sms_world.proofs.split_messages_stay.MadeParts.{Accepts, IsAccepted, accept_leads}
use Rattle.sms_world.specs.submissions_stay.SubmittedLaws.{MadeLaw}
use Rattle.sms_world.specs.headline.Origins.{IsSubmitted, split_under}
use Rattle.sms_world.proofs.submissions_stay.Delivers.{each_part, only_parts}

-- a message of the one store stood in the other, or is that submission
abbrev IsOldOr : Submission → Store → Store → Type 0
IsOldOr u s e = (m : MessageRow) → message_at m.id (messages_in e) ≡ Some m → (message_at m.id (messages_in s) ≡ Some m) ⊎ IsSubmitted u m (parts_in e)

module _ (u : Submission) (s e : Store) (fit : IsSubmission u) (after : SoundStore e) where
  abbrev id : ℕ
  id = next_number (rows_of s)

  row_is : (split : Option ℕ) (reference : ℕ) → split ≡ split_under u reference → IsAccepted u s split reference e → IsSubmitted u (message_of id s.moment split u) (parts_in e)
  row_is split reference under a =
      let few : (p : PartRow) → Among p (parts_in e) → p.number < 256 = λ p among. (after.consistent.held.parts.numbers p among).1 in
      record {
        originator = refl;
        source = refl;
        handset = refl;
        protocol_identifier = refl;
        wish = refl;
        limit = refl;
        reference = reference;
        split = under;
        few = fit.few reference;
        each = each_part id u reference (parts_in e) fit few a.made;
        only = only_parts id u reference (parts_in e) fit few a.made;
      }

  each_is : (split : Option ℕ) (reference : ℕ) → split ≡ split_under u reference → IsAccepted u s split reference e → IsOldOr u s e
  each_is split reference under a m at =
      let row : MessageRow = message_of id s.moment split u in
      let is : IsSubmitted u row (parts_in e) = row_is split reference under a in
      ⊎_elim
      (λ (q : m.id ≡ id).
      let both : Some row ≡ Some m = sym (ap (λ (ms : List MessageRow). message_at id ms) a.messages ∙ row_at_put message_key row (messages_in s)) ∙ ap (λ (n : ℕ). message_at n (messages_in e)) (sym q) ∙ at in
      let same : row ≡ m = cc in
      let found : (message_at m.id (messages_in s) ≡ Some m) ⊎ IsSubmitted u m (parts_in e) = inr (subst (λ (x : MessageRow). IsSubmitted u x (parts_in e)) same is) in found)
      (λ (ne : m.id ≡ id → ⊥).
      let found : (message_at m.id (messages_in s) ≡ Some m) ⊎ IsSubmitted u m (parts_in e) =
      inl (sym (row_at_put_other message_key m.id row (messages_in s) (λ (q : id ≡ m.id). ne (sym q))) ∙ ap (λ (ms : List MessageRow). message_at m.id ms) (sym a.messages) ∙ at) in found)
      (cases_eq m.id id)

  all_are : Accepts u s e → IsOldOr u s e
  all_are (inl (reference, (long, a))) = each_is (Some reference) reference (sym (cond-true (is_long u.text) (Some reference) None long)) a
  all_are (inr (short, a)) = each_is None 0 (sym (cond-false (is_long u.text) (Some 0) None short)) a

-- ---- the event

-- each message stood there before, or the PDU reads as a submission, and it is that
abbrev IsOldOrReads : Result Submission CommandStatus → Store → Store → Type 0
IsOldOrReads r s e = (m : MessageRow) → message_at m.id (messages_in e) ≡ Some m → (message_at m.id (messages_in s) ≡ Some m) ⊎ ((u : Submission) × ((r ≡ Ok u) × IsSubmitted u m (parts_in e)))

nothing_new : (r : Result Submission CommandStatus) (s : Store) → IsOldOrReads r s s
nothing_new r s m at = inl at

came : (u : Submission) (number : ℕ) (o : Option Store) (d : Draft) → IsSubmission u → IfThere SoundStore o → IfThere (Accepts u d.store) o → IsOldOrReads (Ok u) d.store (accepted number o d).store
came u number None d fit after a = nothing_new (Ok u) d.store
came u number (Some e) d fit after a = λ m at. ⊎_elim (λ (x : message_at m.id (messages_in d.store) ≡ Some m). inl x) (λ (x : IsSubmitted u m (parts_in e)). inr (u, (refl, x)))
    (all_are u d.store e fit after a m at)

submission_is : (r : Result Submission CommandStatus) (d : Draft) → SoundStore d.store → ((u : Submission) → r ≡ Ok u → IsSubmission u) → IsOldOrReads r d.store (submission_received r d).store
submission_is (Err status) d sound g = nothing_new (Err status) d.store
submission_is (Ok u) d sound g =
    let s : Store = d.store in
    let n : ℕ = next_number (rows_of d.store) in
    let o : Option Store = accept u s in
    let keeps : IfThere SoundStore (unless_too_much u o) = unless_kept (IfThere SoundStore) u o tt (sound_steady.accepted u s sound (g u refl)) in
    let leads : IfThere (Accepts u s) (unless_too_much u o) = unless_kept (IfThere (Accepts u s)) u o tt (accept_leads u s sound (g u refl)) in
    cond_both (is_reference_taken u s) (refused ESME_RSUBMITFAIL d) (accepted n (unless_too_much u o) d) (λ (x : Draft). IsOldOrReads (Ok u) s x.store)
    (λ t. nothing_new (Ok u) s) (λ t. came u n (unless_too_much u o) d (g u refl) keeps leads)

account_is : (o : Option CentreAccount) (pdu : Pdu) (d : Draft) (m : MessageRow) → SoundStore d.store → AccountGives o d.store.moment pdu → message_at m.id (messages_in (submit_by o pdu d).store) ≡ Some m
    → (message_at m.id (messages_in d.store) ≡ Some m) ⊎ ((account : CentreAccount) × (u : Submission) × ((o ≡ Some account) × (from_pdu account d.store.moment pdu ≡ Ok u) × IsSubmitted u m (parts_in (submit_by o pdu d).store)))
account_is None pdu d m sound g at = inl at
account_is (Some account) pdu d m sound g at = ⊎_elim (λ (x : message_at m.id (messages_in d.store) ≡ Some m). inl x)
    (λ (x : (u : Submission) × ((from_pdu account d.store.moment pdu ≡ Ok u) × IsSubmitted u m (parts_in (submit_by (Some account) pdu d).store))). inr (account, x.0, (refl, x.1.0, x.1.1)))
    (submission_is (from_pdu account d.store.moment pdu) d sound g m at)

pub made_is : MadeLaw
made_is place pdu c m sound at =
    account_is (account_at place c.rows.setup.accounts) pdu (draft_of c) m (store_sound c.rows c.moment sound.rows sound.now sound.moment) (event_gives (Submit place pdu) c sound tt) at
