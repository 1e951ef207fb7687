-- References of split messages: one that the centre gave is not taken from outside, and one that came from outside is not given.
use Rattle.std.proofs.Common.{◌≡◌, [], ◌∷◌, Some, None, refl}
use Rattle.std.specs.Prelude.{codes, replicate}
use Rattle.smpp_pdu.specs.declared.status.CommandStatus.TheVariants.{ESME_RSUBMITFAIL}
use Rattle.sms_centre_spec.specs.declared.answer.CentreAnswer.TheVariants.{Submitted, Refused}
use Rattle.sms_centre_spec.specs.Draft.{Core, Draft, core_of}
use Rattle.sms_centre_spec.specs.CentreEvent.{submit_received}
use Rattle.sms_centre_spec.proofs.Everything.{everything}
use Rattle.sms_centre_spec.proofs.Worked.{hex, handset_b, begun, sm, splits_of}

abbrev pub long : Core → Draft
long = λ c. submit_received 0 (sm handset_b 0 0 1 [] (replicate 161 97) 0) c

abbrev pub one : Draft
one = long (begun (handset_b ∷ []))

first : splits_of (core_of one).rows ≡ Some 0 ∷ []
unfolding everything
first = refl

abbrev pub two : Draft
two = submit_received 0 (sm handset_b 0 0x40 1 [] (hex (codes "0608040000020161")) 0) (core_of one)

taken : two.answer ≡ Some (Refused ESME_RSUBMITFAIL)
unfolding everything
taken = refl

abbrev pub three : Draft
three = submit_received 0 (sm handset_b 0 0x40 1 [] (hex (codes "0608040001020161")) 0) (core_of two)

own : three.answer ≡ Some (Submitted 2)
unfolding everything
own = refl

abbrev pub four : Draft
four = long (core_of three)

next_one : splits_of (core_of four).rows ≡ Some 0 ∷ None ∷ Some 2 ∷ []
unfolding everything
next_one = refl
