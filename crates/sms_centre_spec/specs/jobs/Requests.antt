-- Which jobs have an answer.
use Rattle.std.specs.Prelude.{Bool, true, false}
use Rattle.sms_centre_spec.specs.declared.jobs.job.Job.{Job}
use Rattle.sms_centre_spec.specs.declared.jobs.job.Job.TheVariants.{Bound, Unbound, Submit, Query, Cancel, DeliverAnswered, LinkUp, LinkDown, Frame}

abbrev pub is_request : Job → Bool
is_request (Bound account receives) = false
is_request Unbound = false
is_request (Submit account pdu) = true
is_request (Query account pdu) = true
is_request (Cancel account pdu) = true
is_request (DeliverAnswered id is_accepted) = false
is_request (LinkUp handset) = false
is_request LinkDown = false
is_request (Frame octets) = false
