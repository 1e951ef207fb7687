-- What was submitted stays so through every event.
use Rattle.std.proofs.Common.{ℕ, ◌+◌, ◌<◌, ◌≤◌, List, length, sym, ◌∙◌, ap, subst, arith}
use Rattle.sms_base.specs.declared.final_state.FinalState.{FinalState}
use Rattle.sms_tpdu.specs.MoreMessages.{compared}
use Rattle.sms_intake.specs.declared.submission.Submission.{Submission}
use Rattle.sms_intake.specs.PartBodies.{bodies_under}
use Rattle.sms_centre_rows.specs.declared.messages.message.MessageRow.{MessageRow}
use Rattle.sms_centre_rows.specs.declared.messages.part.PartRow.{PartRow}
use Rattle.sms_centre_rows.specs.messages.Messages.{ended}
use Rattle.sms_world.proofs.split_messages_stay.SameParts.{SameParts}
use Rattle.sms_world.specs.submissions_stay.SubmittedLaws.{StaysLaw}
use Rattle.sms_world.specs.headline.Origins.{IsDeliverFor, IsSubmitted, part_numbered}
use Rattle.sms_world.proofs.submissions_stay.Delivers.{same_number, within}
use Rattle.sms_world.proofs.split_messages_stay.KeptMessages.{IsLasting, said_on}

-- while its parts keep their numbers and octets
still : (u : Submission) (m : MessageRow) (ps qs : List PartRow) → IsSubmitted u m ps → SameParts m.id ps qs → IsSubmitted u m qs
still u m ps qs k same = record {
  originator = k.originator;
  source = k.source;
  handset = k.handset;
  protocol_identifier = k.protocol_identifier;
  wish = k.wish;
  limit = k.limit;
  reference = k.reference;
  split = k.split;
  few = k.few;
  each = λ n b e.
      let few : length (bodies_under k.reference u.text) ≤ 20 = k.few in
      let last : n < 1 + length (bodies_under k.reference u.text) = (within n (bodies_under k.reference u.text) b (sym (same_number n (bodies_under k.reference u.text)) ∙ e)).1 in
      let p = k.each n b e in
      let q = same.there n p.0 (omega (arith, few, last)) p.1.0 in
      (q.0, (q.1.0, subst (λ (t : List ℕ). IsDeliverFor u b (compared t)) (sym q.1.1) p.1.1));
  only = λ q i e.
      let p = same.only q i e in
      let x = k.only p.0 p.1.0 (p.1.1 ∙ e) in
      (x.0, (ap (λ (n : ℕ). part_numbered n (bodies_under k.reference u.text)) (sym p.1.2) ∙ x.1.0, subst (λ (t : List ℕ). IsDeliverFor u x.0 (compared t)) p.1.3 x.1.1));
}

-- and it has ended or not
still_ended : (u : Submission) (f : FinalState) (n : ℕ) (m : MessageRow) (ps : List PartRow) → IsSubmitted u m ps → IsSubmitted u (ended f n m) ps
still_ended u f n m ps k = record {
  originator = k.originator;
  source = k.source;
  handset = k.handset;
  protocol_identifier = k.protocol_identifier;
  wish = k.wish;
  limit = k.limit;
  reference = k.reference;
  split = k.split;
  few = k.few;
  each = k.each;
  only = k.only;
}

-- ---- through every event

pub submitted_lasts : (u : Submission) → IsLasting (IsSubmitted u)
submitted_lasts u = record { ends = still_ended u; parts = λ m ps qs same k. still u m ps qs k same }

pub stays_submitted : StaysLaw
stays_submitted event c m u sound is there k = said_on m.id (IsSubmitted u) (submitted_lasts u) event c sound is (m, (there, k))
