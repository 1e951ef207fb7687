-- A SUBMIT that is accepted by a centre without rows becomes message 1, in one part under reference 0.
use Rattle.std.proofs.Common.{◌≡◌, ℕ, List, [], false, Option, Some, None, Ok, refl, ◌∙◌, ap}
use Rattle.std.specs.Prelude.{if◌then◌else◌}
use Rattle.std.proofs.lemmas.Bool.{and_right, cond-false}
use Rattle.sms_base.specs.declared.address.Address.{Address}
use Rattle.sms_base.specs.declared.holder.Holder.{Holder}
use Rattle.sms_alphabet.specs.Concatenation.{header_key}
use Rattle.sms_intake.specs.declared.refusal.SubmitRefusal.TheVariants.{Duplicate, ReferenceTaken}
use Rattle.sms_intake.specs.declared.submission.SinglePart.{SinglePart}
use Rattle.sms_intake.specs.declared.submission.Submission.{Submission}
use Rattle.sms_intake.specs.HandsetIntake.{submission_of}
use Rattle.sms_intake.specs.PartBodies.{deliver_octets}
use Rattle.sms_centre_rows.specs.messages.SplitReferences.{is_taken, wide_in}
use Rattle.sms_tpdu.specs.declared.submit.Submit.{Submit as SubmitOf}
use Rattle.sms_centre_rows.specs.declared.waiting.handset.HandsetRow.{HandsetRow}
use Rattle.sms_centre_rows.specs.waiting.Links.{Links}
use Rattle.sms_centre_rows.specs.waiting.References.{first_passing}
use Rattle.sms_centre_spec.specs.Draft.{Draft, Store, with_given}
use Rattle.sms_centre_spec.specs.Receiving.{confirm, is_duplicate, is_pending_double, refuse, submit_accepted, submit_received}
use Rattle.sms_centre_spec.specs.Submitting.{accept, enter, is_reference_taken, put_part_of}
use Rattle.sms_relay_run.proofs.relay_laws.FirstFrame.{drafted, store_for}

none_taken : (reference : Option ℕ) → is_taken reference [] ≡ false
none_taken None = refl
none_taken (Some reference) = refl

-- the handset that is given its first reference
abbrev pub new_handset : List ℕ → HandsetRow
new_handset to = record { place = 1; number = to; last_reference = 255 }

module _ (centre : Address) (from : List ℕ) (now : ℕ) (s : SubmitOf) where
  abbrev pub submitted : Submission
  submitted = submission_of from now s

  abbrev pub body : SinglePart
  body = record {
    header_indicator = s.user_data_header_indicator;
    data_coding_scheme = s.data_coding_scheme;
    length = s.user_data.length;
    octets = s.user_data.octets;
    key = header_key s.user_data_header_indicator s.user_data.octets;
  }

  abbrev pub tpdu : List ℕ
  tpdu = deliver_octets now submitted body

  abbrev pub accepted_store : Store
  accepted_store = put_part_of 1 submitted 1 body 0 (with_given (new_handset s.destination_address.digits) 0 (enter 1 None submitted (store_for centre now)))

  accept_is : accept submitted (store_for centre now) ≡ Some accepted_store
  unfolding first_passing
  accept_is = refl

  pub accepted_is : (reference : ℕ) (tag : Holder) (links : Links)
      → submit_received from reference tag (Ok submitted) (drafted (store_for centre now) links) ≡ confirm from reference tag (drafted accepted_store links)
  accepted_is reference tag links =
      let d : Draft = drafted (store_for centre now) links in
      let last : Draft = submit_accepted from reference tag (accept submitted d.store) d in
      let taken : Draft = if is_reference_taken submitted d.store then refuse from reference tag ReferenceTaken d else last in
      cond-false (is_duplicate submitted d.store) (refuse from reference tag Duplicate d) taken (and_right s.reject_duplicates (is_pending_double submitted []) refl)
      ∙ cond-false (is_reference_taken submitted d.store) (refuse from reference tag ReferenceTaken d) last (none_taken (wide_in (header_key s.user_data_header_indicator s.user_data.octets)))
      ∙ ap (λ (o : Option Store). submit_accepted from reference tag o d) accept_is
