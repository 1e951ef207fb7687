-- Two parts that are under way hold one reference at one handset.
use Rattle.std.proofs.Common.{◌≡◌, [], ◌∷◌, refl, inl, inr}
use Rattle.sms_base.specs.declared.holder.Holder.TheVariants.{Part}
use Rattle.sms_play.specs.PlayState.{PlayState}
use Rattle.sms_world.specs.headline.Claims.{Holds}
use Rattle.sms_world.specs.wrong_plays.Plays.{from_application, from_writer, part_one, part_two, with_rows}
use Rattle.sms_world.specs.wrong_plays.Told.{HeldTwiceLaw, open_part, pending}
use Rattle.sms_world.specs.wrong_reports.Literals.{handset}

abbrev play : PlayState
play = with_rows (pending from_application ∷ pending from_writer ∷ []) (open_part part_one ∷ open_part part_two ∷ []) []

one : Holds play.centre.rows handset 0 (Part 1 1)
one = (open_part part_one, pending from_application, (inl refl, refl, refl, refl, refl, refl, refl, refl))

two : Holds play.centre.rows handset 0 (Part 2 1)
two = (open_part part_two, pending from_writer, (inr (inl refl), refl, refl, refl, refl, refl, refl, refl))

other : Part 1 1 ≡ Part 2 1 → ⊥
other e = absurd cc

pub refused : HeldTwiceLaw
refused differ = other (differ handset 0 (Part 1 1) (Part 2 1) one two)
