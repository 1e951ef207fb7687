-- The greater priority goes first.
use Rattle.std.proofs.Common.{◌≡◌, [], ◌∷◌, refl}
use Rattle.std.specs.Prelude.{codes}
use Rattle.sms_centre_spec.specs.Draft.{Draft, core_of}
use Rattle.sms_centre_spec.specs.CentreEvent.{submit_received}
use Rattle.sms_centre_spec.proofs.Everything.{everything}
use Rattle.sms_centre_spec.proofs.Worked.{hex, handset_b, begun, sm, hello_to, comes, sent}

abbrev pub one : Draft
one = submit_received 0 (sm handset_b 0 0 1 [] (codes "hello") 3) (core_of (submit_received 0 (hello_to handset_b) (core_of (submit_received 0 (hello_to handset_b) (begun (handset_b ∷ []))))))

abbrev pub two : Draft
two = comes handset_b (hex (codes "890106020041020000")) (core_of (comes handset_b (hex (codes "8904")) (core_of one)))

urgent_first : sent two ≡ hex (codes "0904") ∷ hex (codes "190124010207914477000900000018200C9144770009001000004220923295850005E8329BFD06") ∷ []
unfolding everything
urgent_first = refl
