-- Messages that the centre split.
use Rattle.std.specs.Prelude.{◌≡◌, ℕ, zero, suc, ◌<◌, List, [], length, Option, Some, None}
use Rattle.sms_base.specs.Among.{Among}
use Rattle.sms_base.specs.declared.holder.Holder.TheVariants.{Part}
use Rattle.sms_concat.specs.declared.content.Content.{Content}
use Rattle.sms_concat.specs.declared.content.Part.{Part as PartOf}
use Rattle.sms_concat.specs.Splitting.{IsSplit as IsSplitInto}
use Rattle.sms_concat.specs.UserData.{capacity}
use Rattle.sms_tpdu.specs.declared.user_data.UserData.{UserData}
use Rattle.sms_world_model.specs.World.{Accepted, Allocation, pair_given}
use Rattle.sms_world_model.specs.Submission.{HasPart, Submission, part_at}
use Rattle.sms_world_model.specs.Place.{Key, place_submitted, joined_parts, part_submitted, with_part}

-- the message's parts are those of one key in order, as a split content's are
abbrev pub IsSplit : Submission → Key → Type 0
IsSplit s k =
    (length s.parts ≡ k.total)
    × ((n : ℕ) (part : UserData) → HasPart s n part → place_submitted s part ≡ Some (record { key = k; number = n }))

-- the pair is that of a part of the message
abbrev pub IsOf : List Allocation → ℕ → Accepted → Type 0
IsOf down id p = (g : Allocation) × (n : ℕ) × (Among g down × (g.holder ≡ Part id n) × (p ≡ pair_given g))

abbrev pub carried_of : Submission → Option UserData → Option PartOf
carried_of s None = None
carried_of s (Some part) = part_submitted s part

-- what the parts with the numbers 1 to n of a submission carry, in order
abbrev pub submitted_to : ℕ → Submission → Option (List PartOf)
submitted_to zero s = Some []
submitted_to (suc n) s = with_part (submitted_to n s) (carried_of s (part_at (suc n) s.parts))

-- what the parts of a submission join to, if they do
abbrev pub submitted_content : Submission → Option Content
submitted_content s = joined_parts (submitted_to (length s.parts) s)

-- The message was split: its parts carry, in order, those that the content is split into under a 16-bit reference.
pub record IsSplitFrom (s : Submission) (content : Content) (reference : ℕ) : Type 0 where
  pub pieces : List PartOf
  pub long : capacity content.coding < length content.units
  pub split : IsSplitInto content reference pieces
  pub carried : submitted_to (length s.parts) s ≡ Some pieces
