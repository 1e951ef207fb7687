-- Where a TPDU that came stands in a long message and what it carries: what the handset reads is what the world reads.
use Rattle.std.proofs.Common.{◌≡◌, ℕ, List, refl, sym, ◌∙◌, Option, Some, None, Result, Ok, Err}
use Rattle.sms_alphabet.specs.declared.unpacking.UnpackError.{UnpackError}
use Rattle.sms_concat.specs.declared.content.Part.{Part as PartOf}
use Rattle.sms_concat.specs.UserData.{part_in}
use Rattle.sms_tpdu.specs.declared.carrier.Carrier.TheVariants.{InData}
use Rattle.sms_tpdu.specs.declared.down.Down.{Down}
use Rattle.sms_tpdu.specs.declared.down.Down.TheVariants.{Deliver, StatusReport, SubmitReport}
use Rattle.sms_tpdu.specs.declared.fault.TpduFault.{TpduFault}
use Rattle.sms_tpdu.specs.TpduReading.{down_at}
use Rattle.sms_handset_rows.specs.inbox.Groups.{carried_part, joined_parts, part_read as part_of_read, with_part}
use Rattle.sms_tpdu.specs.MoreMessages.{compared}
use Rattle.sms_world_model.proofs.Alike.{carried_alike, place_alike}
use Rattle.sms_world_model.specs.Place.{place_in, place_read, carried_in, part_of, part_read, with_part as part_added, joined_parts as parts_joined}

-- ---- places

place_is : (t : List ℕ) → place_in t ≡ place_read (down_at InData t)
unfolding place_in
place_is t = refl

pub placed : (t : List ℕ) → place_in (compared t) ≡ place_read (down_at InData t)
placed t = place_alike t ∙ place_is t

-- ---- texts

text_is : (t : List ℕ) → carried_in t ≡ part_read (down_at InData t)
unfolding carried_in
text_is t = refl

part_seen : (r : Result PartOf UnpackError) → part_of_read r ≡ part_of r
part_seen (Ok p) = refl
part_seen (Err f) = refl

read_seen : (r : Result Down TpduFault) → carried_part r ≡ part_read r
read_seen (Ok (Deliver m)) = part_seen (part_in m.user_data_header_indicator m.data_coding_scheme m.user_data.length m.user_data.octets)
read_seen (Ok (StatusReport r)) = refl
read_seen (Ok (SubmitReport r)) = refl
read_seen (Err f) = refl

pub text_seen : (t : List ℕ) → carried_part (down_at InData t) ≡ carried_in (compared t)
text_seen t = read_seen (down_at InData t) ∙ sym (text_is t) ∙ sym (carried_alike t)

pub with_alike : (ps : Option (List PartOf)) (p : Option PartOf) → with_part ps p ≡ part_added ps p
with_alike None p = refl
with_alike (Some ps) None = refl
with_alike (Some ps) (Some p) = refl

pub joined_alike : (ps : Option (List PartOf)) → joined_parts ps ≡ parts_joined ps
joined_alike None = refl
joined_alike (Some ps) = refl
