-- SUBMIT: accepted, with a format of the validity period that is not taken, and of a type that does not exist.
use Rattle.std.proofs.Common.{◌≡◌, [], ◌∷◌, refl}
use Rattle.std.specs.Prelude.{codes}
use Rattle.sms_centre_spec.specs.Draft.{Draft}
use Rattle.sms_centre_spec.proofs.Everything.{everything}
use Rattle.sms_centre_spec.proofs.Worked.{hex, handset_a, handset_b, begun, comes, sent}

abbrev pub one : Draft
one = comes handset_a (hex (codes "09011E00030007914477000900001201070C91447700094065000005E8329BFD06")) (begun (handset_a ∷ handset_b ∷ []))

accepted : sent one ≡ hex (codes "8904") ∷ hex (codes "89010D03034109010042209232958500") ∷ hex (codes "090124010007914477000900000018040C9144770009103200004220923295850005E8329BFD06") ∷ []
unfolding everything
accepted = refl

format : sent (comes handset_a (hex (codes "09011E00030007914477000900001209070C91447700094065000005E8329BFD06")) (begun (handset_a ∷ handset_b ∷ []))) ≡ hex (codes "8904") ∷ hex (codes "89011005030115410A01C60042209232958500") ∷ []
unfolding everything
format = refl

kind : sent (comes handset_a (hex (codes "09011E00030007914477000900001202070C91447700094065000005E8329BFD06")) (begun (handset_a ∷ handset_b ∷ []))) ≡ hex (codes "8904") ∷ hex (codes "89011005030161410A01FF0042209232958500") ∷ []
unfolding everything
kind = refl

unknown : sent (comes handset_a (hex (codes "0901020705")) (begun (handset_a ∷ []))) ≡ hex (codes "8904") ∷ hex (codes "89010405050161") ∷ []
unfolding everything
unknown = refl

cut : sent (comes handset_a (hex (codes "09010100")) (begun (handset_a ∷ []))) ≡ hex (codes "8904") ∷ hex (codes "89010405000160") ∷ []
unfolding everything
cut = refl
