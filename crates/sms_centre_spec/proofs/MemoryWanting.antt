-- A handset without memory: nothing is offered until it says that it has memory again.
use Rattle.std.proofs.Common.{◌≡◌, ◌+◌, [], ◌∷◌, refl}
use Rattle.std.specs.Prelude.{codes}
use Rattle.sms_centre_spec.specs.Draft.{Draft, core_of}
use Rattle.sms_centre_spec.specs.CentreEvent.{submit_received, ticked}
use Rattle.sms_centre_spec.proofs.Everything.{everything}
use Rattle.sms_centre_spec.proofs.Worked.{hex, t0, handset_b, begun, hello_to, comes, sent, attempts_of}

abbrev pub one : Draft
one = submit_received 0 (hello_to handset_b) (core_of (submit_received 0 (hello_to handset_b) (begun (handset_b ∷ []))))

abbrev pub two : Draft
two = comes handset_b (hex (codes "890106020041020000")) (core_of (comes handset_b (hex (codes "8904")) (core_of one)))

second : sent two ≡ hex (codes "0904") ∷ hex (codes "190124010107914477000900000018240C9144770009001000004220923295850005E8329BFD06") ∷ []
unfolding everything
second = refl

abbrev pub three : Draft
three = comes handset_b (hex (codes "99010904010116410300D300")) (core_of (comes handset_b (hex (codes "9904")) (core_of two)))

full : sent three ≡ hex (codes "1904") ∷ []
unfolding everything
full = refl

not_counted : attempts_of (core_of three).rows ≡ 0 ∷ 0 ∷ []
unfolding everything
not_counted = refl

abbrev pub later : Draft
later = ticked (t0 + 4000) (core_of three)

quiet : sent later ≡ []
unfolding everything
quiet = refl

abbrev pub four : Draft
four = comes handset_b (hex (codes "0901020600")) (core_of three)

offered : sent four ≡ hex (codes "8904") ∷ hex (codes "8901020300") ∷ hex (codes "290124010107914477000900000018240C9144770009001000004220923295850005E8329BFD06") ∷ []
unfolding everything
offered = refl
