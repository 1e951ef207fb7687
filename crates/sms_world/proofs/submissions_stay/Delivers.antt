-- The parts that a submission is entered with are DELIVERs of it.
use Rattle.std.proofs.Common.{◌≡◌, ℕ, zero, suc, ◌+◌, ◌*◌, ◌<◌, List, length, true, false, refl, sym, ◌∙◌, ap, subst, Some, Result, arith}
use Rattle.std.proofs.lemmas.Option.{slice_get_within}
use Rattle.sms_base.specs.Address.{IsAddress}
use Rattle.sms_base.specs.Among.{Among}
use Rattle.sms_base.specs.TimeStamp.{IsMoment}
use Rattle.sms_rows.specs.table.Keys.{pair_key}
use Rattle.sms_rows.proofs.table.Tables.{found_among, found_key}
use Rattle.sms_tpdu.specs.declared.down.Down.{Down}
use Rattle.sms_tpdu.specs.declared.fault.TpduFault.{TpduFault}
use Rattle.sms_tpdu.specs.MoreMessages.{compared, reading_with_more_messages}
use Rattle.sms_tpdu.proofs.MoreBits.{compared_reads}
use Rattle.sms_intake.specs.declared.submission.SinglePart.{SinglePart}
use Rattle.sms_intake.specs.declared.submission.Submission.{Submission}
use Rattle.sms_intake.specs.PartBodies.{bodies_under, deliver_octets, deliver_of}
use Rattle.sms_centre_rows.specs.declared.messages.part.PartRow.{PartRow}
use Rattle.sms_centre_rows.specs.messages.Messages.{part_at, part_key}
use Rattle.sms_centre_spec.specs.Consistent.{IsBody, IsSubmission}
use Rattle.sms_world.proofs.split_messages_stay.MadeParts.{IsMade, body_at}
use Rattle.sms_world.proofs.split_messages_stay.Places.{deliver_reads}
use Rattle.sms_world.proofs.split_messages_stay.SplitParts.{among_body}
use Rattle.sms_world.specs.headline.Origins.{IsDeliverFor, part_numbered}

pub is_deliver : (moment : ℕ) (u : Submission) (b : SinglePart) → IsMoment moment → IsAddress u.source → IsBody u b → IsDeliverFor u b (compared (deliver_octets moment u b))
is_deliver moment u b now source body = record {
  deliver = record (deliver_of moment u b) { no_more_messages_to_send = true };
  reads = compared_reads (deliver_octets moment u b) ∙ ap (λ (r : Result Down TpduFault). reading_with_more_messages false r) (deliver_reads moment u b now source body);
  source = refl;
  protocol_identifier = refl;
  data_coding_scheme = refl;
  reply_path = refl;
  header_indicator = refl;
  user_data = refl;
}

pub same_number : (n : ℕ) (bs : List SinglePart) → part_numbered n bs ≡ body_at n bs
same_number zero bs = refl
same_number (suc n) bs = refl

-- a number that a part has
pub within : (n : ℕ) (bs : List SinglePart) (b : SinglePart) → body_at n bs ≡ Some b → (0 < n) × (n < 1 + length bs)
within zero bs b e = absurd cc
within (suc n) bs b e = let low = slice_get_within bs n b e in (omega arith, omega (arith, low))

module _ (id : ℕ) (u : Submission) (reference : ℕ) (parts : List PartRow) (fit : IsSubmission u) (few : (p : PartRow) → Among p parts → p.number < 256)
    (made : IsMade id (1 + length (bodies_under reference u.text)) u (bodies_under reference u.text) parts) where
  abbrev bodies : List SinglePart
  bodies = bodies_under reference u.text

  pub only_parts : (p : PartRow) → Among p parts → p.id ≡ id → (b : SinglePart) × ((part_numbered p.number (bodies_under reference u.text) ≡ Some b) × IsDeliverFor u b (compared p.tpdu))
  only_parts p i e =
      let x = made.made p i e in
      let body = fit.bodies reference x.0 (among_body p.number bodies x.0 x.2.1) in
      (x.0, (same_number p.number (bodies_under reference u.text) ∙ x.2.1, subst (λ (t : List ℕ). IsDeliverFor u x.0 (compared t)) (sym x.2.3) (is_deliver x.1 u x.0 x.2.2 fit.source body)))

  pub each_part : (n : ℕ) (b : SinglePart) → part_numbered n (bodies_under reference u.text) ≡ Some b → (p : PartRow) × ((part_at id n parts ≡ Some p) × IsDeliverFor u b (compared p.tpdu))
  each_part n b e =
      let at : body_at n bodies ≡ Some b = sym (same_number n bodies) ∙ e in
      let low = within n bodies b at in
      let first : 0 < n = low.0 in
      let last : n < 1 + length (bodies_under reference u.text) = low.1 in
      let there = made.each n first last in
      let p : PartRow = there.0 in
      let key : 256 * p.id + p.number ≡ 256 * id + n = found_key part_key (pair_key id n) p parts there.1 in
      let among = found_among part_key (pair_key id n) p parts there.1 in
      let small = fit.few reference in
      let its : p.id ≡ id = omega (arith, key, few p among, last, small) in
      let number : p.number ≡ n = omega (arith, key, its) in
      let x = only_parts p among its in
      let both : Some x.0 ≡ Some b = sym x.1.0 ∙ ap (λ (j : ℕ). part_numbered j bodies) number ∙ e in
      let same : x.0 ≡ b = cc in
      (p, (there.1, subst (λ (y : SinglePart). IsDeliverFor u y (compared p.tpdu)) same x.1.1))
