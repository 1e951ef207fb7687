-- The part of a text that one part holds carries the text.
use Rattle.std.proofs.Common.{◌≡◌, ℕ, List, [], ◌∷◌, Bool, None, Result, Ok, ◌∙◌, ap, subst}
use Rattle.sms_alphabet.specs.declared.unpacking.UnpackError.{UnpackError}
use Rattle.sms_concat.specs.declared.content.Part.{Part as PartOf}
use Rattle.sms_concat.specs.declared.split_error.SplitError.{SplitError}
use Rattle.sms_concat.specs.UserData.{IsPart, header_of, part_in}
use Rattle.sms_concat.proofs.Bodies.{user_data_is}
use Rattle.sms_concat.proofs.FieldLaws.{part_again}
use Rattle.sms_concat.proofs.Numbering.{split_alone}
use Rattle.sms_intake.specs.declared.submission.SinglePart.{SinglePart}
use Rattle.sms_intake.specs.declared.submission.Submission.{Submission}
use Rattle.sms_intake.specs.declared.submission.Text.{Text}
use Rattle.sms_intake.specs.PartBodies.{bodies_of, bodies_under, body_of, parts_or_none}
use Rattle.sms_tpdu.specs.declared.down.Down.{Down}
use Rattle.sms_tpdu.specs.declared.fault.TpduFault.{TpduFault}
use Rattle.sms_tpdu.specs.declared.user_data.UserData.{UserData}
use Rattle.sms_tpdu.specs.MoreMessages.{compared}
use Rattle.sms_world_model.specs.Place.{carried_in, part_of, part_read}
use Rattle.sms_centre_spec.proofs.TextContents.{IsText, pdu_is}
use Rattle.sms_world.specs.submissions_stay.SubmittedLaws.{AloneLaw}
use Rattle.sms_world.specs.headline.Origins.{IsDeliverFor, part_numbered}

-- what a DELIVER of a part carries is what the part's user data carry
carries : (u : Submission) (b : SinglePart) (tpdu : List ℕ) → IsDeliverFor u b tpdu → carried_in tpdu ≡ part_of (part_in b.header_indicator b.data_coding_scheme b.length b.octets)
unfolding carried_in
carries u b tpdu k =
    ap (λ (r : Result Down TpduFault). part_read r) k.reads
    ∙ ap (λ (x : Bool × ℕ × UserData). part_of (part_in x.0 x.1 x.2.length x.2.octets)) (λ j. (k.header_indicator j, k.data_coding_scheme j, k.user_data j))

pub alone_carries : AloneLaw
alone_carries account moment pdu u content m parts reads text fits k =
    let piece : PartOf = record { content = content; key = None } in
    let is = subst (λ (t : Text). IsText t) text (pdu_is account moment pdu u reads) in
    let good : IsPart piece = record { coding_is = is.coding; units = is.units; key_is = tt } in
    let bodies : bodies_under k.reference u.text ≡ body_of piece ∷ [] =
    ap (λ (t : Text). bodies_under k.reference t) text ∙ ap (λ (r : Result (List PartOf) SplitError). bodies_of (parts_or_none r)) (split_alone content k.reference fits) in
    let p = k.each 1 (body_of piece) (ap (λ (bs : List SinglePart). part_numbered 1 bs) bodies) in
    let b : SinglePart = body_of piece in
    let read : part_in b.header_indicator b.data_coding_scheme b.length b.octets ≡ Ok piece = part_again piece _ good (user_data_is (header_of piece.key) piece.content good.units) in
    (p.0, (p.1.0, carries u b (compared p.0.tpdu) p.1.1 ∙ ap (λ (r : Result PartOf UnpackError). part_of r) read))
