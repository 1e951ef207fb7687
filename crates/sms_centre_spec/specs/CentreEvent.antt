-- An event of a centre: what it does, then what follows every event, receipts and the next offers.
use Rattle.std.specs.Prelude.{ℕ, ◌&&◌, nat_le, max, List, [], ◌∷◌, Bool, true, false, if◌then◌else◌, Option, Some, None, unwrap_or}
use Rattle.sms_base.specs.declared.carried.Carried.{Carried}
use Rattle.sms_base.specs.declared.final_state.FinalState.TheVariants.{Expired}
use Rattle.sms_base.specs.declared.holder.Holder.{Holder}
use Rattle.sms_base.specs.declared.holder.Holder.TheVariants.{Entry}
use Rattle.sms_link.specs.declared.ending.Ending.TheVariants.{Lost}
use Rattle.sms_link.specs.declared.ending.Side.TheVariants.{Centre}
use Rattle.sms_link.specs.declared.ending.Upward.{Upward}
use Rattle.sms_link.specs.declared.ending.Upward.TheVariants.{Opened, Ended}
use Rattle.sms_link.specs.LinkTurn.{Turn, fired as fired_link, new_link, taken}
use Rattle.sms_relay.specs.RelayReading.{up_at}
use Rattle.smpp_pdu.specs.declared.message.Message.{Message}
use Rattle.smpp_pdu.specs.declared.cancel.CancelSm.{CancelSm}
use Rattle.smpp_pdu.specs.declared.query.QuerySm.{QuerySm}
use Rattle.sms_centre_rows.specs.declared.messages.message.MessageRow.{MessageRow}
use Rattle.sms_centre_rows.specs.messages.Messages.{is_pending}
use Rattle.sms_centre_rows.specs.declared.reports.report.ReportRow.{ReportRow}
use Rattle.sms_centre_rows.specs.reports.Receipts.{Session}
use Rattle.sms_centre_rows.specs.reports.Reports.{is_open_status}
use Rattle.sms_centre_rows.specs.declared.waiting.handset.HandsetRow.{HandsetRow}
use Rattle.sms_centre_rows.specs.declared.waiting.handset_link.HandsetLink.{HandsetLink}
use Rattle.sms_centre_rows.specs.declared.waiting.reference.ReferenceRow.{ReferenceRow}
use Rattle.sms_centre_rows.specs.waiting.Links.{link_at, link_of, lowered, put_link, raised as raised_link, turn_link}
use Rattle.sms_centre_rows.specs.waiting.References.{handset_at}
use Rattle.sms_centre_rows.specs.waiting.Trying.{later}
use Rattle.sms_centre_spec.specs.declared.event.CentreEvent.{CentreEvent}
use Rattle.sms_centre_spec.specs.declared.event.CentreEvent.TheVariants.{Submit, Query, Cancel, Bound, Unbound, DeliverAnswered, Frame, LinkUp, LinkDown}
use Rattle.sms_centre_spec.specs.declared.event.CentreEvent.TheVariants.{Ordered, Tick}
use Rattle.sms_centre_spec.specs.declared.order.Order.{Order}
use Rattle.sms_centre_spec.specs.declared.rows.Rows.{Rows}
use Rattle.sms_centre_spec.specs.Ends.{end}
use Rattle.sms_centre_spec.specs.Transfers.{conclude, report_closed}
use Rattle.sms_centre_spec.specs.Receiving.{unit_received, due_now}
use Rattle.sms_centre_spec.specs.Offering.{offer}
use Rattle.sms_centre_spec.specs.Orders.{ordered}
use Rattle.sms_centre_spec.specs.Requests.{submit, query, cancel}
use Rattle.sms_centre_spec.specs.Sessions.{bind, unbind, deliver_answered, send}
use Rattle.sms_centre_spec.specs.Draft.{Core, Draft, Store, draft_of, handsets_in, in_store, messages_in, on_links, reports_in}

-- ---- after every event

abbrev pub follow : Draft → Draft
follow d = offer (send d)

-- ---- a frame

abbrev pub went_up : List ℕ → Holder → Option Upward → Draft → Draft
went_up handset tag None d = d
went_up handset tag (Some (Opened unit)) d = unit_received handset tag unit (up_at unit) d
went_up handset tag (Some (Ended transfer ending)) d = conclude handset transfer ending d

abbrev pub frame_heard : HandsetLink → Holder → Turn → Draft → Draft
frame_heard link tag turn d = went_up link.handset tag turn.out.up (on_links (turn_link link turn d.links) d)

abbrev pub frame_taken : List ℕ → Holder → HandsetLink → Draft → Draft
frame_taken octets tag link d = frame_heard link tag (taken octets link.near_end) d

abbrev pub frame_received : List ℕ → List ℕ → Holder → Core → Draft
frame_received handset octets tag c = follow (frame_taken octets tag (link_of handset c.links) (draft_of c))

-- A frame without a tag, from a socket, is taken as one of entry 0, which no entry is.
abbrev pub tag_of : Option Holder → Holder
tag_of tag = unwrap_or tag (Entry 0)

-- ---- a link is up: the handset has memory, and all that waits for it is due now

abbrev pub raise_link : HandsetLink → Draft → Draft
raise_link link d = record d { store = due_now link.handset d.store; links = put_link (raised_link link) d.links }

abbrev pub raise : List ℕ → Draft → Draft
raise handset d = raise_link (link_of handset d.links.all) d

abbrev pub link_up : List ℕ → Core → Draft
link_up handset c = follow (raise handset (draft_of c))

-- ---- a link is down: what was under way has failed, and the next connection is a new one

abbrev pub lost : List ℕ → Option Carried → Draft → Draft
lost handset None d = d
lost handset (Some transfer) d = conclude handset transfer Lost d

abbrev pub lower_link : HandsetLink → Draft → Draft
lower_link link d = lost link.handset link.near_end.under_way (on_links (put_link (lowered link) d.links) d)

abbrev pub lower : List ℕ → Draft → Draft
lower handset d = lower_link (link_of handset d.links.all) d

abbrev pub link_down : List ℕ → Core → Draft
link_down handset c = follow (lower handset (draft_of c))

-- ---- a tick: messages expire, old status reports are dropped, timers fire, and time never decreases

abbrev pub at_moment : ℕ → Draft → Draft
at_moment now d = record d { store = record d.store { moment = max d.store.moment now } }

-- by number, each with the report of its end at once
abbrev pub expire_all : List MessageRow → Store → Store
expire_all [] s = s
expire_all (m ∷ ms) s = expire_all ms (if is_pending m && nat_le m.limit s.moment then end Expired m s else s)

-- seconds until a status report is dropped
abbrev pub report_limit : ℕ
report_limit = 172800

abbrev pub drop_all : List ReportRow → Store → Store
drop_all [] s = s
drop_all (r ∷ rs) s = drop_all rs (if is_open_status r && nat_le (later r.made report_limit) s.moment then report_closed r s else s)

-- a transaction of this side that a timer closes has failed
abbrev pub timed_out : List ℕ → Option Upward → Draft → Draft
timed_out handset None d = d
timed_out handset (Some (Opened unit)) d = d
timed_out handset (Some (Ended transfer ending)) d = conclude handset transfer ending d

abbrev pub link_fired : HandsetLink → Turn → Draft → Draft
link_fired link turn d = timed_out link.handset turn.out.up (on_links (turn_link link turn d.links) d)

abbrev pub fire_link : HandsetLink → Draft → Draft
fire_link link d = link_fired link (fired_link d.store.moment link.near_end) d

abbrev pub fire_at : Option HandsetLink → Draft → Draft
fire_at None d = d
fire_at (Some link) d = fire_link link d

-- in order of first mention, then the handsets that were never given a reference
abbrev pub fire_mentioned : List HandsetRow → Draft → Draft
fire_mentioned [] d = d
fire_mentioned (h ∷ hs) d = fire_mentioned hs (fire_at (link_at h.number d.links.all) d)

abbrev pub is_mentioned : Option HandsetRow → Bool
is_mentioned None = false
is_mentioned (Some h) = true

abbrev pub fire_others : List HandsetRow → List HandsetLink → Draft → Draft
fire_others hs [] d = d
fire_others hs (l ∷ ls) d =
    fire_others hs ls (if is_mentioned (handset_at l.handset hs) then d else fire_at (link_at l.handset d.links.all) d)

abbrev pub fire_all : List HandsetRow → Draft → Draft
fire_all hs d = fire_others hs d.links.all (fire_mentioned hs d)

-- links that were up before a recovery are up again
abbrev pub raise_all : List HandsetLink → Draft → Draft
raise_all [] d = d
raise_all (l ∷ ls) d = raise_all ls (if l.is_awaited then raise l.handset d else d)

abbrev pub raised : Draft → Draft
raised d = raise_all d.links.all d

abbrev pub expired : Store → Store
expired s = expire_all (messages_in s) s

abbrev pub dropped : Store → Store
dropped s = drop_all (reports_in s) s

abbrev pub fired : Draft → Draft
fired d = fire_all (handsets_in d.store) d

abbrev pub aged : Draft → Draft
aged d = in_store (dropped (expired d.store)) d

abbrev pub ticked : ℕ → Core → Draft
ticked now c = follow (raised (fired (aged (at_moment now (draft_of c)))))

-- ---- what applications want

abbrev pub submit_received : ℕ → Message → Core → Draft
submit_received account m c = follow (submit account m (draft_of c))

abbrev pub query_received : ℕ → QuerySm → Core → Draft
query_received account q c = follow (query account q (draft_of c))

abbrev pub cancel_received : ℕ → CancelSm → Core → Draft
cancel_received account q c = follow (cancel account q (draft_of c))

abbrev pub bound : ℕ → ℕ → Bool → Core → Draft
bound session account receives c = follow (bind session account receives (draft_of c))

abbrev pub unbound : ℕ → Core → Draft
unbound session c = follow (unbind session (draft_of c))

abbrev pub answered : ℕ → ℕ → Bool → Core → Draft
answered session id is_accepted c = follow (deliver_answered session id is_accepted (draft_of c))

-- ---- what an operator orders

abbrev pub order_received : Order → ℕ → Core → Draft
order_received order id c = follow (ordered order id (draft_of c))

-- ---- every event

abbrev pub happened : CentreEvent → Core → Draft
happened (Submit account message) c = submit_received account message c
happened (Query account wanted) c = query_received account wanted c
happened (Cancel account wanted) c = cancel_received account wanted c
happened (Bound session account receives) c = bound session account receives c
happened (Unbound session) c = unbound session c
happened (DeliverAnswered session id is_accepted) c = answered session id is_accepted c
happened (Frame handset octets tag) c = frame_received handset octets (tag_of tag) c
happened (LinkUp handset) c = link_up handset c
happened (LinkDown handset) c = link_down handset c
happened (Ordered order id) c = order_received order id c
happened (Tick now) c = ticked now c

-- ---- recovery

-- the greatest moment that rows have seen: no limit, no due moment and no end is one
abbrev pub after_messages : ℕ → List MessageRow → ℕ
after_messages moment [] = moment
after_messages moment (m ∷ ms) = after_messages (max moment m.submitted) ms

abbrev pub after_references : ℕ → List ReferenceRow → ℕ
after_references moment [] = moment
after_references moment (r ∷ rs) = after_references (max moment r.last) rs

abbrev pub after_reports : ℕ → List ReportRow → ℕ
after_reports moment [] = moment
after_reports moment (r ∷ rs) = after_reports (max moment r.made) rs

abbrev pub moment_of : Rows → ℕ
moment_of rows = after_reports (after_references (after_messages rows.setup.start rows.messages) rows.references) rows.reports

abbrev pub links_awaited : List (List ℕ) → List HandsetLink
links_awaited [] = []
links_awaited (n ∷ ns) =
    record { handset = n; is_up = false; is_awaited = true; is_full = false; near_end = new_link Centre } ∷ links_awaited ns

-- The centre that starts again with these rows, with links to these handsets, which are up from its first tick, and with these
-- sessions bound.
abbrev pub recovered : Rows → List (List ℕ) → List Session → Core
recovered rows handsets sessions = record {
  rows = rows;
  moment = moment_of rows;
  links = links_awaited handsets;
  sessions = sessions;
}

abbrev pub links_up : List (List ℕ) → List HandsetLink
links_up [] = []
links_up (n ∷ ns) =
    record { handset = n; is_up = true; is_awaited = false; is_full = false; near_end = new_link Centre } ∷ links_up ns

-- The centre that starts with these rows, with links to these handsets that are up.
abbrev pub started : Rows → List (List ℕ) → List Session → Core
started rows handsets sessions = record {
  rows = rows;
  moment = moment_of rows;
  links = links_up handsets;
  sessions = sessions;
}
