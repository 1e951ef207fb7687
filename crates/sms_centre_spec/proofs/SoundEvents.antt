-- Every event leaves a sound centre sound.
use Rattle.std.proofs.Common.{ℕ, List, Option, Some, None, refl, ◌∙◌, ap}
use Rattle.sms_base.specs.declared.address.Address.{Address}
use Rattle.sms_base.specs.declared.carried.Carried.{Carried}
use Rattle.sms_base.specs.declared.carried.Kind.{Kind}
use Rattle.sms_base.specs.declared.carried.Kind.TheVariants.{Ack, Data, Error}
use Rattle.sms_base.specs.declared.holder.Holder.{Holder}
use Rattle.sms_base.specs.declared.holder.Holder.TheVariants.{Part, Report, Entry, Memory}
use Rattle.sms_rows.specs.table.Table.{row_at}
use Rattle.sms_centre_rows.specs.declared.reports.report.ReportKind.{ReportKind}
use Rattle.sms_centre_rows.specs.reports.Receipts.{session_key}
use Rattle.sms_centre_rows.specs.reports.Reports.{is_receipt}
use Rattle.sms_centre_rows.specs.declared.waiting.handset_link.HandsetLink.{HandsetLink}
use Rattle.sms_centre_rows.specs.waiting.Links.{link_of}
use Rattle.sms_centre_rows.specs.waiting.SoundAllocations.{IsNumber}
use Rattle.sms_centre_spec.specs.declared.event.CentreEvent.{CentreEvent}
use Rattle.sms_centre_spec.specs.declared.event.CentreEvent.TheVariants.{Submit, Query, Cancel, Bound, Unbound, DeliverAnswered, Frame, LinkUp, LinkDown, Ordered, Tick}
use Rattle.sms_centre_spec.specs.declared.rows.Rows.{Rows}
use Rattle.sms_centre_spec.specs.CentreEvent.{tag_of, aged, at_moment, fired, follow, frame_taken, happened, lower, raise, raised}
use Rattle.sms_centre_spec.specs.Draft.{Core, Draft, core_of, draft_of, rows_of}
use Rattle.sms_centre_spec.specs.Keeping.{Keeps}
use Rattle.sms_centre_spec.specs.Orders.{ordered}
use Rattle.sms_centre_spec.specs.Requests.{account_at, cancel, query, submit}
use Rattle.sms_centre_spec.specs.Sessions.{bind, deliver_answered, unbind}
use Rattle.sms_centre_spec.specs.SoundCore.{Brings, BringsKind, IsReceiptRow, IsSentFor, IsSoundCore, IsUnderWay}
use Rattle.sms_centre_spec.specs.Submitted.{EventGives}
use Rattle.sms_centre_spec.proofs.Keeping.{keeps_same}
use Rattle.sms_centre_spec.proofs.KeepingSteady.{SoundSince, since_steady}
use Rattle.sms_centre_spec.proofs.SoundAccepted.{sound_still}
use Rattle.sms_centre_spec.proofs.SoundLinks.{link_sound}
use Rattle.sms_centre_spec.proofs.SoundOffers.{follow_sides}
use Rattle.sms_centre_spec.proofs.SoundSides.{Sides, answered_sides, bind_sides, cancel_sides, frame_sides, lower_sides, ordered_sides, query_sides, raise_sides, submit_sides, ticked_sides, unbind_sides}
use Rattle.sms_centre_spec.proofs.SoundStores.{SoundStore, rows_are_past, rows_are_sound, store_sound}
use Rattle.sms_centre_spec.proofs.SteadyEvents.{steady_event}
use Rattle.sms_centre_spec.proofs.SteadyTimes.{stand_all}

-- ---- links and sessions that are sound over rows are so over rows that keep what stood there

module _ (before after : Rows) (k : Keeps before after) where
  sent_still : (h : List ℕ) (reference : ℕ) (o : Holder) → IsSentFor h reference o before → IsSentFor h reference o after
  sent_still h reference (Part id number) (p, (m, i)) =
      let x = k.parts id number p i.0 in
      let y = k.messages id m i.2 in
      (x.0, (y.0, (x.1.0, x.1.1.reference ∙ i.1, y.1.0, y.1.1.handset ∙ i.3, x.1.1.id ∙ i.4)))
  sent_still h reference (Report id) (r, (m, (tpdu, i))) =
      let x = k.reports id r i.0 in
      let y = k.messages id m i.2 in
      (x.0, (y.0, (tpdu, (x.1.0, x.1.1.kind ∙ i.1, y.1.0, ap (λ (a : Address). a.digits) y.1.1.source ∙ i.3))))
  sent_still h reference (Entry n) i = i
  sent_still h reference (Memory n) i = i

  under_way_still : (h : List ℕ) (o : Option Carried) → IsUnderWay h o before → IsUnderWay h o after
  under_way_still h None i = i
  under_way_still h (Some transfer) i = (i.0, sent_still h transfer.reference transfer.tag i.1)

  kind_still : (k : Kind) (h : List ℕ) (t : Carried) → BringsKind k h t before → BringsKind k h t after
  kind_still Data h t i = sent_still h t.reference t.tag i
  kind_still Ack h t i = tt
  kind_still Error h t i = tt

  brings_still : (h : List ℕ) (o : Option Carried) → Brings h o before → Brings h o after
  brings_still h None i = tt
  brings_still h (Some t) i = kind_still t.kind h t i

  receipt_still : (id : ℕ) → IsReceiptRow before id → IsReceiptRow after id
  receipt_still id i =
      let x = k.reports id i.0 i.1.0 in
      (x.0, (x.1.0, ap (λ (kind : ReportKind). is_receipt kind) x.1.1.kind ∙ i.1.1))

  pub sides_still : (d : Draft) → Sides before d → Sides after d
  sides_still d s = (
    record {
      each = λ l among. let i = s.0.each l among in record { handset = i.handset; side = i.side; under_way = under_way_still l.handset l.near_end.under_way i.under_way; answered = i.answered };
      apart = s.0.apart;
      sent = λ f among. brings_still f.handset f.frame.carried (s.0.sent f among);
    },
    record {
      keys = s.1.keys;
      each = λ x among. record { unanswered = λ id a. receipt_still id ((s.1.each x among).unanswered id a) };
      sent = λ x among. receipt_still x.id (s.1.sent x among);
    },
  )

-- ---- what follows every event

-- a centre after an event: what it kept, and that it is sound
pub record IsAfter (c : Core) (d : Draft) : Type 0 where
  pub store : SoundSince c.rows d.store
  pub sides : Sides (rows_of d.store) d

pub followed : (c : Core) (d : Draft) → SoundSince c.rows d.store → Sides c.rows d → IsAfter c (follow d)
followed c d k s = record {
  store = k;
  sides = follow_sides d k.0.consistent (stand_all SoundStore sound_still d.store k.0) (sides_still c.rows (rows_of d.store) k.1 d s);
}

pub begins : (c : Core) → IsSoundCore c → SoundSince c.rows (draft_of c).store
begins c s = (store_sound c.rows c.moment s.rows s.now s.moment, keeps_same c.rows)

sides_begin : (c : Core) → IsSoundCore c → Sides c.rows (draft_of c)
sides_begin c s = (record { each = s.each_link; apart = s.apart; sent = λ f among. absurd among }, record { keys = s.session_keys; each = s.each_session; sent = λ x among. absurd among })

-- ---- every event

-- a handset that is named has a number
abbrev pub HasNumber : CentreEvent → Type 0
HasNumber (Submit account message) = Unit {0}
HasNumber (Query account wanted) = Unit {0}
HasNumber (Cancel account wanted) = Unit {0}
HasNumber (Bound session account receives) = Unit {0}
HasNumber (Unbound session) = Unit {0}
HasNumber (DeliverAnswered session id is_accepted) = Unit {0}
HasNumber (Frame handset octets tag) = IsNumber handset
HasNumber (LinkUp handset) = IsNumber handset
HasNumber (LinkDown handset) = IsNumber handset
HasNumber (Ordered order id) = Unit {0}
HasNumber (Tick now) = Unit {0}

pub event_after : (event : CentreEvent) (c : Core) → IsSoundCore c → HasNumber event → EventGives event c → IsAfter c (happened event c)
event_after (Submit account m) c s is g =
    followed c (submit account m (draft_of c)) (steady_event (SoundSince c.rows) (since_steady c.rows) (Submit account m) c (begins c s) s.now g)
    (submit_sides c.rows (account_at account c.rows.setup.accounts) m (draft_of c) (sides_begin c s))
event_after (Query account q) c s is g =
    followed c (query account q (draft_of c)) (steady_event (SoundSince c.rows) (since_steady c.rows) (Query account q) c (begins c s) s.now g)
    (query_sides c.rows (account_at account c.rows.setup.accounts) q (draft_of c) (sides_begin c s))
event_after (Cancel account q) c s is g =
    followed c (cancel account q (draft_of c)) (steady_event (SoundSince c.rows) (since_steady c.rows) (Cancel account q) c (begins c s) s.now g)
    (cancel_sides c.rows (account_at account c.rows.setup.accounts) q (draft_of c) (sides_begin c s))
event_after (Bound session account receives) c s is g =
    followed c (bind session account receives (draft_of c)) (steady_event (SoundSince c.rows) (since_steady c.rows) (Bound session account receives) c (begins c s) s.now g)
    (bind_sides c.rows session account receives (draft_of c) (sides_begin c s))
event_after (Unbound session) c s is g =
    followed c (unbind session (draft_of c)) (steady_event (SoundSince c.rows) (since_steady c.rows) (Unbound session) c (begins c s) s.now g)
    (unbind_sides c.rows session (draft_of c) (sides_begin c s))
event_after (DeliverAnswered session id b) c s is g =
    followed c (deliver_answered session id b (draft_of c)) (steady_event (SoundSince c.rows) (since_steady c.rows) (DeliverAnswered session id b) c (begins c s) s.now g)
    (answered_sides c.rows session id b (row_at session_key session c.sessions) (draft_of c) refl (sides_begin c s))
event_after (Frame handset octets tag) c s is g =
    let link : HandsetLink = link_of handset c.links in
    followed c (frame_taken octets (tag_of tag) link (draft_of c)) (steady_event (SoundSince c.rows) (since_steady c.rows) (Frame handset octets tag) c (begins c s) s.now g)
    (frame_sides c.rows octets (tag_of tag) link (draft_of c) (link_sound c.rows handset (draft_of c).links (sides_begin c s).0 is) (sides_begin c s))
event_after (LinkUp handset) c s is g =
    followed c (raise handset (draft_of c)) (steady_event (SoundSince c.rows) (since_steady c.rows) (LinkUp handset) c (begins c s) s.now g)
    (raise_sides c.rows handset (draft_of c) is (sides_begin c s))
event_after (LinkDown handset) c s is g =
    followed c (lower handset (draft_of c)) (steady_event (SoundSince c.rows) (since_steady c.rows) (LinkDown handset) c (begins c s) s.now g)
    (lower_sides c.rows handset (draft_of c) is (sides_begin c s))
event_after (Ordered order id) c s is g =
    followed c (ordered order id (draft_of c)) (steady_event (SoundSince c.rows) (since_steady c.rows) (Ordered order id) c (begins c s) s.now g)
    (ordered_sides c.rows order id (draft_of c) (sides_begin c s))
event_after (Tick now) c s is g =
    followed c (raised (fired (aged (at_moment now (draft_of c))))) (steady_event (SoundSince c.rows) (since_steady c.rows) (Tick now) c (begins c s) s.now g)
    (ticked_sides c.rows now (draft_of c) (sides_begin c s))

pub core_after : (c : Core) (d : Draft) → IsAfter c d → IsSoundCore (core_of d)
core_after c d a = record {
  rows = rows_are_sound d.store a.store.0;
  now = a.store.0.times.now;
  moment = rows_are_past d.store a.store.0;
  each_link = a.sides.0.each;
  apart = a.sides.0.apart;
  session_keys = a.sides.1.keys;
  each_session = a.sides.1.each;
}
