-- A question, a retry, and a link that comes up or goes down, are offers alone.
use Rattle.std.proofs.Common.{Option, Some, None}
use Rattle.smpp_pdu.specs.declared.query.QuerySm.{QuerySm}
use Rattle.sms_intake.specs.declared.submission.CentreAccount.{CentreAccount}
use Rattle.sms_centre_rows.specs.declared.messages.message.MessageRow.{MessageRow}
use Rattle.sms_centre_rows.specs.messages.Messages.{message_at}
use Rattle.sms_centre_spec.proofs.SoundEvents.{event_after}
use Rattle.sms_centre_spec.proofs.SoundStores.{SoundStore, store_sound}
use Rattle.sms_centre_spec.specs.CentreEvent.{lower, raise}
use Rattle.sms_centre_spec.specs.Draft.{Core, Draft, draft_of, messages_in, waiting_in}
use Rattle.sms_centre_spec.specs.Requests.{account_at, queried, query, query_by}
use Rattle.sms_centre_spec.specs.SoundCore.{IsSoundCore}
use Rattle.sms_centre_spec.specs.declared.event.CentreEvent.TheVariants.{LinkDown, LinkUp, Ordered, Query}
use Rattle.sms_centre_spec.specs.declared.order.Order.TheVariants.{Retry}
use Rattle.sms_centre_spec.specs.Orders.{ordered, parts_among, retried}
use Rattle.sms_world_model.specs.World.{World}
use Rattle.sms_world.specs.centres_refine_the_world.CentreLaws.{LinkDownLaw, LinkUpLaw, QueryLaw, RetryLaw}
use Rattle.sms_world.specs.centres_refine_the_world.CentreRefinement.{CentreRefines}
use Rattle.sms_world.proofs.centres_refine_the_world.LinksChange.{all_due_both, lower_law, raise_law}
use Rattle.sms_world.proofs.centres_refine_the_world.Offers.{follow_law}

-- an answer alone
queried_refines : (b : World) (m : Option MessageRow) (d : Draft) (w : World) → CentreRefines b d w → CentreRefines b (queried m d) w
queried_refines b None d w s = record { frames = s.frames; whole = s.whole; links = s.links; rows = s.rows }
queried_refines b (Some m) d w s = record { frames = s.frames; whole = s.whole; links = s.links; rows = s.rows }

query_refines : (b : World) (a : Option CentreAccount) (q : QuerySm) (d : Draft) (w : World) → CentreRefines b d w → CentreRefines b (query_by a q d) w
query_refines b None q d w s = record { frames = s.frames; whole = s.whole; links = s.links; rows = s.rows }
query_refines b (Some a) q d w s = queried_refines b _ d w s

pub start : (c : Core) → IsSoundCore c → SoundStore (draft_of c).store
start c s = store_sound c.rows c.moment s.rows s.now s.moment

pub query_event : QueryLaw
query_event m account q c w sound s =
    let d : Draft = draft_of c in
    follow_law m w (query account q d) w (event_after (Query account q) c sound tt tt).store.0 (query_refines w (account_at account c.rows.setup.accounts) q d w s)

retried_refines : (b : World) (o : Option MessageRow) (d : Draft) (w : World) → SoundStore d.store → CentreRefines b d w → CentreRefines b (retried o d) w
retried_refines b None d w sound s = record { frames = s.frames; whole = s.whole; links = s.links; rows = s.rows }
retried_refines b (Some m) d w sound s =
    record { frames = s.frames; whole = s.whole; links = s.links; rows = (all_due_both w (parts_among m.id (waiting_in m.handset d.store)) d.store (sound, s.rows)).1 }

pub retry_event : RetryLaw
retry_event m id c w sound s =
    let d : Draft = draft_of c in
    follow_law m w (ordered Retry id d) w (event_after (Ordered Retry id) c sound tt tt).store.0 (retried_refines w (message_at id (messages_in d.store)) d w (start c sound) s)

pub up_event : LinkUpLaw
up_event m handset c w sound number s =
    let d : Draft = draft_of c in
    follow_law m w (raise handset d) w (event_after (LinkUp handset) c sound number tt).store.0 (raise_law w d w (start c sound) s handset)

pub down_event : LinkDownLaw
down_event m handset c w sound number s =
    let d : Draft = draft_of c in
    follow_law m w (lower handset d) w (event_after (LinkDown handset) c sound number tt).store.0 (lower_law w d w handset (start c sound) s)
