-- What an event does by itself: receipts and offers follow it.
use Rattle.std.specs.Prelude.{Result, Ok, Err}
use Rattle.std.specs.declared.alloc.AllocError.{AllocError}
use Rattle.sms_centre_spec.specs.declared.event.CentreEvent.{CentreEvent}
use Rattle.sms_centre_spec.specs.declared.event.CentreEvent.TheVariants.{Submit, Query, Cancel, Bound, Unbound, DeliverAnswered, Frame, LinkUp, LinkDown}
use Rattle.sms_centre_spec.specs.declared.event.CentreEvent.TheVariants.{Ordered, Tick}
use Rattle.sms_centre_rows.specs.waiting.Links.{link_of}
use Rattle.sms_centre_spec.specs.CentreEvent.{aged, at_moment, fired, frame_taken, lower, raise, raised, tag_of}
use Rattle.sms_centre_spec.specs.Draft.{Core, Draft, draft_of}
use Rattle.sms_centre_spec.specs.Orders.{ordered}
use Rattle.sms_centre_spec.specs.Requests.{submit, query, cancel}
use Rattle.sms_centre_draft.specs.CentreDraft.{Represents, CentreDraftOf}
use Rattle.sms_centre_spec.specs.Sessions.{bind, unbind, deliver_answered}

abbrev pub acted : CentreEvent → Core → Draft
acted (Submit account message) c = submit account message (draft_of c)
acted (Query account wanted) c = query account wanted (draft_of c)
acted (Cancel account wanted) c = cancel account wanted (draft_of c)
acted (Bound session account receives) c = bind session account receives (draft_of c)
acted (Unbound session) c = unbind session (draft_of c)
acted (DeliverAnswered session id is_accepted) c = deliver_answered session id is_accepted (draft_of c)
acted (Frame handset octets tag) c = frame_taken octets (tag_of tag) (link_of handset c.links) (draft_of c)
acted (LinkUp handset) c = raise handset (draft_of c)
acted (LinkDown handset) c = lower handset (draft_of c)
acted (Ordered order id) c = ordered order id (draft_of c)
acted (Tick now) c = raised (fired (aged (at_moment now (draft_of c))))

-- It is done, and the centre represents the draft in which it acted; or there was no memory.
abbrev pub Acts : CentreEvent → Core → CentreDraftOf → Result (Unit {0}) AllocError → Type 0
Acts event c w (Ok u) = Represents (acted event c) w
Acts event c w (Err error) = Unit {0}
