-- What follows every event, offers to handsets and receipts in sessions, leaves links and sessions sound over the rows that stand:
-- each offer goes for what waits there, under its reference, and each receipt is one of the rows.
use Rattle.std.proofs.Common.{◌≡◌, ℕ, List, [], ◌∷◌, ◌++◌, true, false, length, Option, Some, None, refl, sym, ◌∙◌, ap, subst, inl, inr, ⊎_elim, arith}
use Rattle.std.specs.Prelude.{◌⊎◌, ◌==◌, ◌&&◌, not, nat_le, nat_lt}
use Rattle.std.specs.Str.{bytes_eq}
use Rattle.std.proofs.lemmas.Bool.{and_parts, cond_both, eqb-false, eqb-true}
use Rattle.std.proofs.lemmas.Slice.Eq.{bytes_eq-Decides}
use Rattle.sms_base.proofs.Lists.{among_end}
use Rattle.sms_base.specs.Among.{Among}
use Rattle.sms_base.specs.declared.carried.Kind.TheVariants.{Data}
use Rattle.sms_base.specs.declared.holder.Holder.{Holder}
use Rattle.sms_base.specs.declared.holder.Holder.TheVariants.{Part, Report}
use Rattle.sms_control.specs.LinkStep.{begin_step, is_busy}
use Rattle.sms_link.specs.LinkTurn.{Turn, begun, of_kind, started, still}
use Rattle.sms_rows.specs.table.Keys.{pair_key}
use Rattle.sms_rows.specs.table.Table.{row_at}
use Rattle.sms_rows.proofs.table.Tables.{among_found, found_key}
use Rattle.sms_centre_rows.specs.declared.messages.message.MessageRow.{MessageRow}
use Rattle.sms_centre_rows.specs.declared.messages.part.PartRow.{PartRow}
use Rattle.sms_centre_rows.specs.messages.Messages.{is_pending, message_at, part_at, part_key}
use Rattle.sms_centre_rows.specs.messages.OpenParts.{part_queued, part_wait, waits_for}
use Rattle.sms_centre_rows.specs.declared.reports.delivery.Delivery.{Delivery}
use Rattle.sms_centre_rows.specs.declared.reports.report.ReportKind.{ReportKind}
use Rattle.sms_centre_rows.specs.declared.reports.report.ReportKind.TheVariants.{Receipt, Status, Unsent}
use Rattle.sms_centre_rows.specs.declared.reports.report.ReportRow.{ReportRow}
use Rattle.sms_centre_rows.specs.reports.Receipts.{Bindings, Session, is_unanswered, receives_for, send as send_one, send_all, send_in, send_to, session_for, waits, window}
use Rattle.sms_centre_rows.specs.reports.Reports.{is_open_receipt, is_open_status, is_receipt, is_status, report_of, status_reference}
use Rattle.sms_centre_rows.specs.reports.Waiting.{report_queued, report_wait, reports_to}
use Rattle.sms_centre_rows.proofs.reports.AllWaiting.{part_waits_at, report_waits_at}
use Rattle.sms_centre_rows.proofs.reports.FewWaiting.{all_few}
use Rattle.sms_centre_rows.proofs.reports.Serving.{fewest_found}
use Rattle.sms_centre_rows.specs.declared.waiting.handset.HandsetRow.{HandsetRow}
use Rattle.sms_centre_rows.specs.declared.waiting.handset_link.HandsetLink.{HandsetLink}
use Rattle.sms_centre_rows.specs.declared.waiting.queued_part.QueuedPart.{QueuedPart}
use Rattle.sms_centre_rows.specs.waiting.Keys.{queued_key}
use Rattle.sms_centre_rows.specs.waiting.Links.{Links, is_ready, link_of, turned}
use Rattle.sms_centre_rows.specs.waiting.SoundAllocations.{IsNumber}
use Rattle.sms_centre_rows.specs.waiting.Waiting.{if_due, is_due, next, preceding, precedes, waits_beside}
use Rattle.sms_centre_spec.specs.declared.rows.Rows.{Rows}
use Rattle.sms_centre_spec.specs.Draft.{Draft, Store, handsets_in, messages_in, parts_in, priorities_in, reports_in, rows_of, waiting_in}
use Rattle.sms_centre_spec.specs.CentreEvent.{follow}
use Rattle.sms_centre_spec.specs.Offering.{holder_of, is_made, offer_all, offer_among, offer_queued, offer_on, offer_to, read_of, unit_of}
use Rattle.sms_centre_spec.specs.SoundCore.{IsLink, IsReceiptRow, IsSentFor}
use Rattle.sms_centre_spec.specs.Consistent.{IsConsistent}
use Rattle.sms_centre_spec.proofs.SoundLinks.{AllBring, SoundLinks, SoundBindings, carrying_bring, link_sound, session_put, turn_sound}
use Rattle.sms_centre_spec.proofs.SoundSides.{Sides}

-- ---- what is next waits there

pub next_waits : (now : ℕ) (l : QueuedPart) (ls : List QueuedPart) → next now ls ≡ Some l → Among l ls
next_waits now l [] e = absurd cc
next_waits now l (x ∷ xs) e = which (if_due now x) (next now xs) (λ y q. due y q) (λ q. next_waits now l xs q) e
  where
    due : (y : QueuedPart) → if_due now x ≡ Some y → y ≡ x
    due y q = cond_both (is_due now x) (Some x) None (λ o. o ≡ Some y → y ≡ x) (λ t f. let same : y ≡ x = cc in same) (λ t f. absurd cc) q

    which : (a b : Option QueuedPart) → ((y : QueuedPart) → a ≡ Some y → y ≡ x) → (b ≡ Some l → Among l xs) → preceding a b ≡ Some l → Among l (x ∷ xs)
    which None b f g q = inr (g q)
    which (Some y) None f g q = let same : l ≡ y = cc in inl (same ∙ f y refl)
    which (Some y) (Some z) f g q =
        cond_both (precedes z y) z y (λ w. Some w ≡ Some l → Among l (x ∷ xs))
        (λ t h. inr (g h)) (λ t h. let same : l ≡ y = cc in inl (same ∙ f y refl)) q

-- ---- what waits is a part of a message to the handset, or the status report of one of its own

part_sent : (h : List ℕ) (l : QueuedPart) (o : Option PartRow) (s : Store) → part_at l.id l.number (parts_in s) ≡ o → part_wait h (messages_in s) (priorities_in s) o ≡ Some l → IsSentFor h l.reference (Part l.id l.number) (rows_of s)
part_sent h l None s e w = absurd cc
part_sent h l (Some p) s e w = of (message_at p.id (messages_in s)) refl
  where
    id : p.id ≡ l.id
    id = let k = found_key part_key (pair_key l.id l.number) p (parts_in s) e in
        cond_both (waits_for h p (message_at p.id (messages_in s))) (Some (part_queued p (priorities_in s))) None (λ x. x ≡ Some l → p.id ≡ l.id)
        (λ t f. let same : part_queued p (priorities_in s) ≡ l = cc in ap (λ (y : QueuedPart). y.id) same) (λ t f. absurd cc) w

    reference : p.reference ≡ l.reference
    reference =
        cond_both (waits_for h p (message_at p.id (messages_in s))) (Some (part_queued p (priorities_in s))) None (λ x. x ≡ Some l → p.reference ≡ l.reference)
        (λ t f. let same : part_queued p (priorities_in s) ≡ l = cc in ap (λ (y : QueuedPart). y.reference) same) (λ t f. absurd cc) w

    is_waiting : waits_for h p (message_at p.id (messages_in s)) ≡ true
    is_waiting =
        cond_both (waits_for h p (message_at p.id (messages_in s))) (Some (part_queued p (priorities_in s))) None (λ x. x ≡ Some l → waits_for h p (message_at p.id (messages_in s)) ≡ true)
        (λ t f. t) (λ t f. absurd cc) w

    of : (m : Option MessageRow) → message_at p.id (messages_in s) ≡ m → IsSentFor h l.reference (Part l.id l.number) (rows_of s)
    of None q = let bad : false ≡ true = sym (ap (λ (o : Option MessageRow). waits_for h p o) q) ∙ is_waiting in absurd cc
    of (Some m) q =
        let both = and_parts (not p.progress.is_done) (is_pending m && bytes_eq m.handset h) (sym (ap (λ (o : Option MessageRow). waits_for h p o) q) ∙ is_waiting) in
        let to : bytes_eq m.handset h ≡ true = (and_parts (is_pending m) (bytes_eq m.handset h) both.1).1 in
        (p, (m, (e, reference, ap (λ (i : ℕ). message_at i (messages_in s)) (sym id) ∙ q, (bytes_eq-Decides m.handset h).0 to, id)))

report_sent : (h : List ℕ) (l : QueuedPart) (o : Option ReportRow) (s : Store) → report_of l.id (reports_in s) ≡ o → report_wait h (messages_in s) o ≡ Some l → IsSentFor h l.reference (Report l.id) (rows_of s)
report_sent h l None s e w = absurd cc
report_sent h l (Some r) s e w = of (message_at r.id (messages_in s)) refl
  where
    is_waiting : reports_to h r (message_at r.id (messages_in s)) ≡ true
    is_waiting =
        cond_both (reports_to h r (message_at r.id (messages_in s))) (Some (report_queued r)) None (λ x. x ≡ Some l → reports_to h r (message_at r.id (messages_in s)) ≡ true)
        (λ t f. t) (λ t f. absurd cc) w

    same : report_queued r ≡ l
    same =
        cond_both (reports_to h r (message_at r.id (messages_in s))) (Some (report_queued r)) None (λ x. x ≡ Some l → report_queued r ≡ l)
        (λ t f. let q : report_queued r ≡ l = cc in q) (λ t f. absurd cc) w

    kind_is : (k : ReportKind) → is_status k ≡ true → (tpdu : List ℕ) × (k ≡ Status (status_reference k) tpdu)
    kind_is Receipt t = absurd cc
    kind_is (Status reference tpdu) t = (tpdu, refl)
    kind_is Unsent t = absurd cc

    of : (m : Option MessageRow) → message_at r.id (messages_in s) ≡ m → IsSentFor h l.reference (Report l.id) (rows_of s)
    of None q = let bad : false ≡ true = sym (ap (λ (o : Option MessageRow). reports_to h r o) q) ∙ is_waiting in absurd cc
    of (Some m) q =
        let both = and_parts (is_open_status r) (bytes_eq m.source.digits h) (sym (ap (λ (o : Option MessageRow). reports_to h r o) q) ∙ is_waiting) in
        let kind = kind_is r.kind (and_parts (is_status r.kind) (not r.progress.is_done) both.0).0 in
        let own : r.id ≡ l.id = ap (λ (y : QueuedPart). y.id) same in
        let reference : status_reference r.kind ≡ l.reference = ap (λ (y : QueuedPart). y.reference) same in
        (r, (m, (kind.0, (e, kind.1 ∙ ap (λ (n : ℕ). Status n kind.0) reference, ap (λ (i : ℕ). message_at i (messages_in s)) (sym own) ∙ q, (bytes_eq-Decides m.source.digits h).0 both.1))))

queued_sent : (h : List ℕ) (l : QueuedPart) (s : Store) → IsConsistent s → Among l (waiting_in h s) → IsSentFor h l.reference (holder_of l) (rows_of s)
queued_sent h l s k among =
    let ms = messages_in s in
    let qs = priorities_in s in
    let ps = parts_in s in
    let rs = reports_in s in
    let there : row_at queued_key (queued_key l) (waiting_in h s) ≡ Some l = among_found queued_key l (waiting_in h s) (k.held.waiting h).keys among in
    cond_both (l.number == 0) (Report l.id) (Part l.id l.number) (λ (o : Holder). IsSentFor h l.reference o (rows_of s))
    (λ t.
    let key : queued_key l ≡ pair_key l.id 0 = ap (λ (n : ℕ). pair_key l.id n) (eqb-true l.number 0 t) in
    report_sent h l (report_of l.id rs) s refl
    (sym (report_waits_at h ms qs ps rs l.id k.held.parts k.held.alone) ∙ ap (λ (n : ℕ). row_at queued_key n (waiting_in h s)) (sym key) ∙ there))
    (λ t.
    let ne = eqb-false l.number 0 t in
    part_sent h l (part_at l.id l.number ps) s refl
    (sym (part_waits_at h ms qs ps rs l.id l.number k.held.parts (omega (arith, ne)) (all_few h ms qs ps rs k.held.parts l among)) ∙ there))

-- ---- offers

offered_link : (s : Store) (link : HandsetLink) (l : QueuedPart) (unit : List ℕ) → IsLink (rows_of s) link → IsSentFor link.handset l.reference (holder_of l) (rows_of s)
    → IsLink (rows_of s) (turned (begun s.moment l.reference (holder_of l) unit link.near_end) link)
offered_link s link l unit is sent =
    cond_both (is_busy link.near_end.links) (still link.near_end) (started (of_kind Data l.reference (holder_of l)) (begin_step s.moment unit link.near_end.links) link.near_end) (λ (t : Turn). IsLink (rows_of s) (turned t link))
    (λ t. record { handset = is.handset; side = is.side; under_way = is.under_way; answered = is.answered })
    (λ t. record { handset = is.handset; side = is.side; under_way = (refl, sent); answered = is.answered })

offered_brings : (s : Store) (link : HandsetLink) (l : QueuedPart) (unit : List ℕ) → IsSentFor link.handset l.reference (holder_of l) (rows_of s)
    → AllBring (rows_of s) link.handset (begun s.moment l.reference (holder_of l) unit link.near_end).out.frames
offered_brings s link l unit sent =
    cond_both (is_busy link.near_end.links) (still link.near_end) (started (of_kind Data l.reference (holder_of l)) (begin_step s.moment unit link.near_end.links) link.near_end) (λ (t : Turn). AllBring (rows_of s) link.handset t.out.frames)
    (λ t f among. absurd among)
    (λ t. carrying_bring (rows_of s) link.handset (Some (of_kind Data l.reference (holder_of l))) (begin_step s.moment unit link.near_end.links).out.frames sent)

read_sound : (s : Store) (l : QueuedPart) (links : Links) → SoundLinks (rows_of s) links → SoundLinks (rows_of s) (read_of l s links)
read_sound s l links k = cond_both (is_made l s) links _ (λ (a : Links). SoundLinks (rows_of s) a) (λ t. k) (λ t. record { each = k.each; apart = k.apart; sent = k.sent })

queued_offered : (s : Store) (link : HandsetLink) (o : Option QueuedPart) (links : Links) → IsConsistent s → SoundLinks (rows_of s) links → IsLink (rows_of s) link → next s.moment (waiting_in link.handset s) ≡ o
    → SoundLinks (rows_of s) (offer_queued link (waiting_in link.handset s) o s links)
queued_offered s link None links k a is e = a
queued_offered s link (Some l) links k a is e =
    let unit : List ℕ = unit_of l (waits_beside s.moment l (waiting_in link.handset s)) s in
    let sent : IsSentFor link.handset l.reference (holder_of l) (rows_of s) = queued_sent link.handset l s k (next_waits s.moment l (waiting_in link.handset s) e) in
    turn_sound (rows_of s) link (begun s.moment l.reference (holder_of l) unit link.near_end) (read_of l s links) (read_sound s l links a) (offered_link s link l unit is sent) (offered_brings s link l unit sent)

link_offered : (s : Store) (link : HandsetLink) (links : Links) → IsConsistent s → SoundLinks (rows_of s) links → IsLink (rows_of s) link → SoundLinks (rows_of s) (offer_on link s links)
link_offered s link links k a is =
    cond_both (is_ready link) (offer_among link (waiting_in link.handset s) s links) links (λ (x : Links). SoundLinks (rows_of s) x)
    (λ t. queued_offered s link (next s.moment (waiting_in link.handset s)) links k a is refl) (λ t. a)

all_offered : (s : Store) (hs : List HandsetRow) (links : Links) → IsConsistent s → ((h : HandsetRow) → Among h hs → IsNumber h.number) → SoundLinks (rows_of s) links → SoundLinks (rows_of s) (offer_all hs s links)
all_offered s [] links k are a = a
all_offered s (h ∷ hs) links k are a =
    all_offered s hs (offer_to h.number s links) k (λ x m. are x (inr m))
    (link_offered s (link_of h.number links.all) links k a (link_sound (rows_of s) h.number links a (are h (inl refl))))

-- ---- receipts

session_there : (o : Option MessageRow) (s : Session) (ss : List Session) → session_for o ss ≡ Some s → Among s ss
session_there None s ss e = absurd cc
session_there (Some m) s ss e = (fewest_found (receives_for m) s ss e).0

module _ (rows : Rows) (moment : ℕ) where
  sent_in : (r : ReportRow) (s : Session) (bindings : Bindings) → SoundBindings rows bindings → Among s bindings.sessions → report_of r.id rows.reports ≡ Some r → is_receipt r.kind ≡ true → SoundBindings rows (send_in r.id s bindings)
  sent_in r s bindings k among there is_one =
      let is = k.each s among in
      let put = session_put rows (record s { unanswered = s.unanswered ++ r.id ∷ [] }) bindings k (record {
        unanswered = λ n a. ⊎_elim
            (λ (b : Among n s.unanswered). is.unanswered n b)
            (λ (e : n ≡ r.id).
            let found : IsReceiptRow rows n = (r, (ap (λ (i : ℕ). report_of i rows.reports) e ∙ there, is_one)) in found)
            (among_end n r.id s.unanswered a);
      }) in
      record {
        keys = put.keys;
        each = put.each;
        sent = λ x a. ⊎_elim
            (λ (b : Among x bindings.deliveries). k.sent x b)
            (λ (e : x ≡ record { session = s.number; id = r.id }).
            let found : IsReceiptRow rows r.id = (r, (there, is_one)) in
            subst (λ (y : Delivery). IsReceiptRow rows y.id) (sym e) found)
            (among_end x (record { session = s.number; id = r.id }) bindings.deliveries a);
      }

  sent_to : (r : ReportRow) (o : Option Session) (bindings : Bindings) → SoundBindings rows bindings → ((s : Session) → o ≡ Some s → Among s bindings.sessions) → report_of r.id rows.reports ≡ Some r → is_receipt r.kind ≡ true
      → SoundBindings rows (send_to r.id o bindings)
  sent_to r None bindings k f there is_one = k
  sent_to r (Some s) bindings k f there is_one =
      cond_both (nat_lt (length s.unanswered) window) (send_in r.id s bindings) bindings (SoundBindings rows) (λ t. sent_in r s bindings k (f s refl) there is_one) (λ t. k)

  all_sent : (rs : List ReportRow) (bindings : Bindings) → SoundBindings rows bindings → ((r : ReportRow) → Among r rs → report_of r.id rows.reports ≡ Some r) → SoundBindings rows (send_all moment rows.messages rs bindings)
  all_sent [] bindings k stand = k
  all_sent (r ∷ rs) bindings k stand =
      let to : Option Session = session_for (message_at r.id rows.messages) bindings.sessions in
      all_sent rs (send_one moment rows.messages r bindings)
      (cond_both (waits moment r bindings.sessions) (send_to r.id to bindings) bindings (SoundBindings rows)
      (λ t. sent_to r to bindings k (λ s e. session_there (message_at r.id rows.messages) s bindings.sessions e) (stand r (inl refl))
      (and_parts (is_receipt r.kind) (not r.progress.is_done) (and_parts (is_open_receipt r) (nat_le r.progress.due moment && not (is_unanswered r.id bindings.sessions)) t).0).0) (λ t. k))
      (λ x a. stand x (inr a))

-- ---- both

pub follow_sides : (d : Draft) → IsConsistent d.store → ((r : ReportRow) → Among r (reports_in d.store) → report_of r.id (reports_in d.store) ≡ Some r) → Sides (rows_of d.store) d → Sides (rows_of d.store) (follow d)
follow_sides d k stand s = (
  all_offered d.store (handsets_in d.store) d.links k (λ h among. (k.held.allocations.mentioned h among).number) s.0,
  all_sent (rows_of d.store) d.store.moment (reports_in d.store) d.bindings s.1 stand,
)
