-- References are given once a second; a SUBMIT that comes again with TP-RD is a duplicate.
use Rattle.std.proofs.Common.{◌≡◌, ℕ, zero, suc, ◌+◌, List, [], ◌∷◌, ◌++◌, Some, refl}
use Rattle.std.specs.Prelude.{codes}
use Rattle.smpp_pdu.specs.declared.status.CommandStatus.TheVariants.{ESME_RMSGQFUL}
use Rattle.sms_centre_spec.specs.declared.answer.CentreAnswer.TheVariants.{Submitted, Refused}
use Rattle.sms_centre_rows.specs.declared.waiting.reference.ReferenceRow.{ReferenceRow}
use Rattle.sms_centre_spec.specs.Draft.{Core, Draft, core_of}
use Rattle.sms_centre_spec.specs.CentreEvent.{submit_received, ticked, started}
use Rattle.sms_centre_spec.proofs.Everything.{everything}
use Rattle.sms_centre_spec.proofs.Worked.{hex, t0, handset_a, handset_b, begun, no_rows, session_one, hello_to, comes, sent}

-- every reference of the handset was given in this second

abbrev pub given_all : ℕ → List ReferenceRow
given_all zero = []
given_all (suc n) = given_all n ++ record { place = 1; reference = n; last = t0 } ∷ []

abbrev pub full : Core
full = started (record no_rows { references = given_all 256; handsets = record { place = 1; number = handset_b; last_reference = 255 } ∷ [] }) (handset_b ∷ []) (session_one ∷ [])

none_free : (submit_received 0 (hello_to handset_b) full).answer ≡ Some (Refused ESME_RMSGQFUL)
unfolding everything
none_free = refl

next_second : (submit_received 0 (hello_to handset_b) (core_of (ticked (t0 + 1) full))).answer ≡ Some (Submitted 1)
unfolding everything
next_second = refl

abbrev pub many : ℕ → Core → Core
many zero c = c
many (suc n) c = core_of (submit_received 0 (hello_to handset_b) (many n c))

so_many : (submit_received 0 (hello_to handset_b) (many 60 (begun (handset_b ∷ [])))).answer ≡ Some (Submitted 61)
unfolding everything
so_many = refl

abbrev pub one : Draft
one = comes handset_a (hex (codes "09011E00000007914477000900001201000C91447700094065000005E8329BFD06")) (begun (handset_a ∷ handset_b ∷ []))

accepted : sent one ≡ hex (codes "8904") ∷ hex (codes "89010D03004109010042209232958500") ∷ hex (codes "090124010007914477000900000018040C9144770009103200004220923295850005E8329BFD06") ∷ []
unfolding everything
accepted = refl

abbrev pub two : Draft
two = comes handset_a (hex (codes "19011E00000007914477000900001205000C91447700094065000005E8329BFD06")) (core_of one)

duplicate : sent two ≡ hex (codes "9904") ∷ hex (codes "99011005000115410A01C50042209232958500") ∷ []
unfolding everything
duplicate = refl
