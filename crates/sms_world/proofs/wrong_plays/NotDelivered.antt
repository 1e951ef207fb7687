-- A message that counts as delivered, and was not accepted as its row has it.
use Rattle.std.proofs.Common.{◌≡◌, List, [], ◌∷◌, refl, ap, subst, inl, ⊎_elim}
use Rattle.sms_base.specs.Among.{Among}
use Rattle.sms_play.specs.PlayState.{Party}
use Rattle.sms_play.specs.Premises.{pairs_of}
use Rattle.sms_tpdu.specs.MoreMessages.{compared}
use Rattle.sms_script.specs.declared.report.rows.AcceptedRow.{AcceptedRow}
use Rattle.sms_world.specs.headline.Claims.{pair_in_row}
use Rattle.sms_world.specs.wrong_plays.Plays.{delivered, from_application, part_one, party}
use Rattle.sms_world.specs.wrong_plays.Told.{AcceptedTwiceLaw, NeverAcceptedLaw, NotGivenLaw, OtherTextLaw, PartTwiceLaw}
use Rattle.sms_world.specs.wrong_reports.Literals.{accepted, deliver, handset, hello_octets, other_octets}
use Rattle.sms_world_model.specs.Groups.{OccursOnce}
use Rattle.sms_world_model.specs.World.{Accepted}

-- what the only handset accepted
abbrev Pairs : List AcceptedRow → Type 0
Pairs rows = OccursOnce (pair_in_row from_application part_one) (pairs_of [] rows)

only_party : (rows : List AcceptedRow) (q : Party) → Among q (delivered rows).parties → OccursOnce (pair_in_row from_application part_one) (pairs_of [] q.accepted) → Pairs rows
only_party rows q i o = ⊎_elim
    (λ (e : q ≡ party handset rows _). subst (λ (z : Party). OccursOnce (pair_in_row from_application part_one) (pairs_of [] z.accepted)) e o)
    (λ (n : ⊥). absurd n) i

twice : Pairs (accepted hello_octets ∷ accepted hello_octets ∷ []) → ⊥
unfolding compared
twice o = ⊎_elim (λ z. z.1 (inl refl)) (λ z. z.0 refl) o

other_units : (a b : Accepted) → a ≡ b → a.tpdu ≡ b.tpdu
other_units a b e = ap (λ (z : Accepted). z.tpdu) e

other_octets_differ : deliver hello_octets ≡ deliver other_octets → ⊥
other_octets_differ e = absurd cc

other : Pairs (accepted other_octets ∷ []) → ⊥
unfolding compared
other o = ⊎_elim (λ z. other_octets_differ (other_units _ _ z.0)) (λ z. absurd z.1) o

pub never_accepted : NeverAcceptedLaw
never_accepted d =
    let x = d from_application part_one (inl refl) refl (inl refl) refl in only_party [] x.0 x.1.0 x.1.2

pub accepted_twice : AcceptedTwiceLaw
accepted_twice d =
    let x = d from_application part_one (inl refl) refl (inl refl) refl in
    twice (only_party (accepted hello_octets ∷ accepted hello_octets ∷ []) x.0 x.1.0 x.1.2)

pub other_text : OtherTextLaw
other_text d =
    let x = d from_application part_one (inl refl) refl (inl refl) refl in
    other (only_party (accepted other_octets ∷ []) x.0 x.1.0 x.1.2)

pub not_given : NotGivenLaw
not_given d =
    let x = d from_application part_one (inl refl) refl (inl refl) refl in x.1.4.1.there

pub part_twice : PartTwiceLaw
unfolding compared
part_twice once =
    twice (once from_application part_one (party handset (accepted hello_octets ∷ accepted hello_octets ∷ []) _) (inl refl) (inl refl) refl (inl refl) refl (inl refl))
