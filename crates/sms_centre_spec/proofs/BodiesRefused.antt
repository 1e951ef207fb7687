-- A store that reads no bodies: a submission is planned as before, and a link that comes up is not.
use Rattle.std.proofs.Common.{◌≡◌, ℕ, [], ◌∷◌, Bool, false, Some, Err, refl}
use Rattle.std.specs.Prelude.{codes}
use Rattle.sms_centre_spec.specs.declared.answer.CentreAnswer.TheVariants.{Submitted}
use Rattle.sms_centre_spec.specs.declared.event.CentreEvent.TheVariants.{LinkUp}
use Rattle.sms_centre_spec.specs.declared.plan_error.PlanError.TheVariants.{NoBody}
use Rattle.sms_centre_spec.specs.Draft.{Core, Draft, core_of}
use Rattle.sms_centre_spec.specs.CentreEvent.{submit_received, link_up, link_down}
use Rattle.sms_centre_spec.specs.Planning.{plan_of}
use Rattle.sms_centre_spec.proofs.Everything.{everything}
use Rattle.sms_centre_spec.proofs.Worked.{hex, handset_b, begun, hello_to, sent}

abbrev pub never : ℕ → Bool
never = λ key. false

abbrev pub down : Core
down = core_of (link_down handset_b (begun (handset_b ∷ [])))

abbrev pub one : Draft
one = submit_received 0 (hello_to handset_b) down

accepted : one.answer ≡ Some (Submitted 1)
unfolding everything
accepted = refl

quiet : sent one ≡ []
unfolding everything
quiet = refl

reads_none : one.links.read ≡ []
unfolding everything
reads_none = refl

refused : plan_of never (LinkUp handset_b) (core_of one) ≡ Err NoBody
unfolding everything
refused = refl

sent_else : sent (link_up handset_b (core_of one)) ≡ hex (codes "090124010007914477000900000018240C9144770009001000004220923295850005E8329BFD06") ∷ []
unfolding everything
sent_else = refl

its_own : (submit_received 0 (hello_to handset_b) (begun (handset_b ∷ []))).links.read ≡ []
unfolding everything
its_own = refl
