-- An operator's orders of a message whose first attempt has failed: a retry offers it at once, and to delete it reports that.
use Rattle.std.proofs.Common.{◌≡◌, [], ◌∷◌, Some, None, refl}
use Rattle.std.specs.Prelude.{codes}
use Rattle.sms_base.specs.declared.final_state.FinalState.TheVariants.{Deleted}
use Rattle.smpp_pdu.specs.declared.status.CommandStatus.TheVariants.{ESME_RCANCELFAIL, ESME_RINVMSGID}
use Rattle.sms_centre_spec.specs.declared.answer.CentreAnswer.TheVariants.{Cancelled, Queried, Refused}
use Rattle.sms_centre_spec.specs.declared.order.Order.TheVariants.{Delete, Retry}
use Rattle.sms_centre_spec.specs.Draft.{Draft, core_of}
use Rattle.sms_centre_spec.specs.CentreEvent.{order_received}
use Rattle.sms_centre_spec.proofs.Everything.{everything}
use Rattle.sms_centre_spec.proofs.TriedAgain.{two}
use Rattle.sms_centre_spec.proofs.Worked.{hex, t0, sent, states, told}

abbrev retried : Draft
retried = order_received Retry 1 (core_of two)

again : sent retried ≡ hex (codes "190124010007914477000900000018240C9144770009001000004220923295850005E8329BFD06") ∷ []
unfolding everything
again = refl

enroute : retried.answer ≡ Some (Queried 1 None None)
unfolding everything
enroute = refl

abbrev deleted : Draft
deleted = order_received Delete 1 (core_of two)

done : deleted.answer ≡ Some Cancelled
unfolding everything
done = refl

ended : states deleted ≡ Some Deleted ∷ []
unfolding everything
ended = refl

told_once : told deleted ≡ 1 ∷ []
unfolding everything
told_once = refl

over : (order_received Retry 1 (core_of deleted)).answer ≡ Some (Queried 1 (Some Deleted) (Some t0))
unfolding everything
over = refl

too_late : (order_received Delete 1 (core_of deleted)).answer ≡ Some (Refused ESME_RCANCELFAIL)
unfolding everything
too_late = refl

of_none : (order_received Retry 2 (core_of two)).answer ≡ Some (Refused ESME_RINVMSGID)
unfolding everything
of_none = refl
