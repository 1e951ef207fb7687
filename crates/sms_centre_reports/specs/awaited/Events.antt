-- Events that answer no receipt.
use Rattle.sms_centre_spec.specs.declared.event.CentreEvent.{CentreEvent}
use Rattle.sms_centre_spec.specs.declared.event.CentreEvent.TheVariants.{Submit, Query, Cancel, Bound, Unbound, DeliverAnswered, Frame, LinkUp, LinkDown}
use Rattle.sms_centre_spec.specs.declared.event.CentreEvent.TheVariants.{Ordered, Tick}

abbrev pub IsNoAnswer : CentreEvent → Type 0
IsNoAnswer (Submit account m) = Unit {0}
IsNoAnswer (Query account q) = Unit {0}
IsNoAnswer (Cancel account q) = Unit {0}
IsNoAnswer (Bound session account receives) = Unit {0}
IsNoAnswer (Unbound session) = Unit {0}
IsNoAnswer (DeliverAnswered session id b) = ⊥
IsNoAnswer (Frame handset octets tag) = Unit {0}
IsNoAnswer (LinkUp handset) = Unit {0}
IsNoAnswer (LinkDown handset) = Unit {0}
IsNoAnswer (Ordered order id) = Unit {0}
IsNoAnswer (Tick now) = Unit {0}
