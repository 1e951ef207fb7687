-- What follows every event, receipts and the next offers, is the same without the messages that go.
use Rattle.std.proofs.Common.{◌≡◌, ℕ, List, [], ◌∷◌, Bool, true, false, Option, Some, None, refl, sym, ◌∙◌, ap, subst, inl, inr, ⊎_elim}
use Rattle.std.specs.Prelude.{◌⊎◌, ◌==◌, ◌&&◌, not, nat_le, if◌then◌else◌}
use Rattle.std.specs.Str.{bytes_eq}
use Rattle.std.proofs.lemmas.Bool.{and_left, and_parts, and_right, cases_Bool, cond_both, cond-false}
use Rattle.sms_base.specs.Among.{Among}
use Rattle.sms_rows.specs.table.Table.{put}
use Rattle.sms_rows.specs.table.Keys.{pair_key}
use Rattle.sms_rows.proofs.table.Tables.{among_put, found_among, found_key}
use Rattle.sms_link.specs.LinkTurn.{begun}
use Rattle.sms_relay.specs.RelayGrammar.{data_down}
use Rattle.sms_tpdu.specs.AddressGrammar.{relay_address}
use Rattle.sms_tpdu.specs.MoreMessages.{with_more_messages}
use Rattle.sms_centre_rows.specs.declared.messages.message.MessageRow.{MessageRow}
use Rattle.sms_centre_rows.specs.declared.messages.part.PartRow.{PartRow}
use Rattle.sms_centre_rows.specs.declared.messages.priority.PriorityRow.{PriorityRow}
use Rattle.sms_centre_rows.specs.messages.Messages.{is_pending, message_at, message_key, part_at, part_key}
use Rattle.sms_centre_rows.specs.messages.OpenParts.{part_queued, parts_waiting, waits_for}
use Rattle.sms_centre_rows.specs.declared.reports.report.ReportRow.{ReportRow}
use Rattle.sms_centre_rows.specs.reports.Receipts.{Bindings, is_unanswered, send as send_one, send_all, send_to, session_for, waits}
use Rattle.sms_centre_rows.specs.reports.Reports.{is_open_receipt, is_open_status, is_receipt, report_of}
use Rattle.sms_centre_rows.specs.reports.Waiting.{report_queued, reports_to, with_reports}
use Rattle.sms_centre_rows.specs.declared.waiting.handset.HandsetRow.{HandsetRow}
use Rattle.sms_centre_rows.specs.declared.waiting.handset_link.HandsetLink.{HandsetLink}
use Rattle.sms_centre_rows.specs.declared.waiting.queued_part.QueuedPart.{QueuedPart}
use Rattle.sms_centre_rows.specs.waiting.Keys.{queued_key}
use Rattle.sms_centre_rows.specs.waiting.Links.{Links, is_ready, link_of, turn_link}
use Rattle.sms_centre_rows.specs.waiting.Waiting.{if_due, is_due, next, precedes, preceding, waits_beside}
use Rattle.sms_centre_spec.specs.CentreEvent.{follow}
use Rattle.sms_centre_spec.specs.Draft.{Draft, Store, handsets_in, messages_in, parts_in, priorities_in, reports_in, waiting_in}
use Rattle.sms_centre_spec.specs.Offering.{holder_of, offer_all, offer_queued, offer_on, offer_to, part_tpdu, read_of, report_tpdu, tpdu_of}
use Rattle.sms_centre_spec.specs.forgetting.Forgetting.{kept, part_id, report_id}
use Rattle.sms_centre_spec.specs.forgetting.Forgot.{Stays, draft_without, store_without}
use Rattle.sms_centre_spec.proofs.forgetting.Kept.{at_stays, kept_gone, kept_here, not_both}
use Rattle.sms_centre_spec.proofs.forgetting.Going.{one_row}
use Rattle.sms_centre_spec.proofs.forgetting.Looks.{Closed, Ended, message_stays}
use Rattle.sms_centre_spec.proofs.forgetting.Moves.{report_look, waiting_look}

-- ---- receipts

closed_waits : (moment : ℕ) (r : ReportRow) (b : Bindings) → r.progress.is_done ≡ true → waits moment r b.sessions ≡ false
closed_waits moment r b e =
    and_left (is_open_receipt r) (nat_le r.progress.due moment && not (is_unanswered r.id b.sessions)) (and_right (is_receipt r.kind) (not r.progress.is_done) (ap not e))

pub send_same : (goes : ℕ → Bool) (moment : ℕ) (ms : List MessageRow) (rs : List ReportRow) (b : Bindings) → Closed goes rs
    → send_all moment (kept message_key goes ms) (kept report_id goes rs) b ≡ send_all moment ms rs b
send_same goes moment ms [] b closed = refl
send_same goes moment ms (r ∷ rs) b closed =
    let ks : List MessageRow = kept message_key goes ms in
    let js : List ReportRow = kept report_id goes rs in
    ⊎_elim
    (λ (t : goes r.id ≡ true).
    ap (λ (l : List ReportRow). send_all moment ks l b) (kept_gone report_id goes r rs t) ∙ send_same goes moment ms rs b (λ x a. closed x (inr a))
    ∙ ap (λ (c : Bindings). send_all moment ms rs c)
    (sym (cond-false (waits moment r b.sessions) (send_to r.id (session_for (message_at r.id ms) b.sessions) b) b (closed_waits moment r b (closed r (inl refl) t)))))
    (λ (t : goes r.id ≡ false).
    ap (λ (l : List ReportRow). send_all moment ks l b) (kept_here report_id goes r rs t)
    ∙ ap (λ (o : Option MessageRow). send_all moment ks js (if waits moment r b.sessions then send_to r.id (session_for o b.sessions) b else b)) (message_stays goes r.id ms t)
    ∙ send_same goes moment ms rs (send_one moment ms r b) (λ x a. closed x (inr a)))
    (cases_Bool (goes r.id))

-- ---- what waits is of messages that stay

pub record OfPart (goes : ℕ → Bool) (ps : List PartRow) (qs : List PriorityRow) (l : QueuedPart) : Type 0 where
  pub row : PartRow
  pub among : Among row ps
  pub stays : goes row.id ≡ false
  pub queued : l ≡ part_queued row qs

pub record OfReport (goes : ℕ → Bool) (l : QueuedPart) : Type 0 where
  pub row : ReportRow
  pub stays : goes row.id ≡ false
  pub queued : l ≡ report_queued row

waits_stay : (goes : ℕ → Bool) (h : List ℕ) (p : PartRow) (ms : List MessageRow) → Ended goes ms → waits_for h p (message_at p.id ms) ≡ true → goes p.id ≡ false
waits_stay goes h p ms ended e = ⊎_elim
    (λ (t : goes p.id ≡ true). absurd (of t (message_at p.id ms) refl))
    (λ (t : goes p.id ≡ false). t)
    (cases_Bool (goes p.id))
  where
    of : goes p.id ≡ true → (o : Option MessageRow) → message_at p.id ms ≡ o → ⊥
    of t None q = let bad : false ≡ true = sym (ap (λ (o : Option MessageRow). waits_for h p o) q) ∙ e in absurd cc
    of t (Some m) q =
        let f : waits_for h p (Some m) ≡ true = sym (ap (λ (o : Option MessageRow). waits_for h p o) q) ∙ e in
        let a = and_parts (not p.progress.is_done) (is_pending m && bytes_eq m.handset h) f in
        let b = and_parts (is_pending m) (bytes_eq m.handset h) a.1 in
        not_both (is_pending m) b.0 (ended m (found_among message_key p.id m ms q) (ap goes (found_key message_key p.id m ms q) ∙ t))

part_behind : (goes : ℕ → Bool) (p : PartRow) (ps : List PartRow) (qs : List PriorityRow) (l : QueuedPart) → OfPart goes ps qs l → OfPart goes (p ∷ ps) qs l
part_behind goes p ps qs l f = record { row = f.row; among = inr f.among; stays = f.stays; queued = f.queued }

pub of_parts : (goes : ℕ → Bool) (h : List ℕ) (ms : List MessageRow) (qs : List PriorityRow) (ps : List PartRow) (l : QueuedPart) → Ended goes ms → Among l (parts_waiting h ms qs ps) → OfPart goes ps qs l
of_parts goes h ms qs [] l ended a = absurd a
of_parts goes h ms qs (p ∷ ps) l ended a =
    cond_both (waits_for h p (message_at p.id ms)) (part_queued p qs ∷ parts_waiting h ms qs ps) (parts_waiting h ms qs ps) (λ (ls : List QueuedPart). Among l ls → OfPart goes (p ∷ ps) qs l)
    (λ t b. ⊎_elim
    (λ (e : l ≡ part_queued p qs). record { row = p; among = inl refl; stays = waits_stay goes h p ms ended t; queued = e })
    (λ (c : Among l (parts_waiting h ms qs ps)). part_behind goes p ps qs l (of_parts goes h ms qs ps l ended c))
    b)
    (λ t b. part_behind goes p ps qs l (of_parts goes h ms qs ps l ended b))
    a

open_stays : (goes : ℕ → Bool) (h : List ℕ) (r : ReportRow) (o : Option MessageRow) → (goes r.id ≡ true → r.progress.is_done ≡ true) → reports_to h r o ≡ true → goes r.id ≡ false
open_stays goes h r None closed e = let bad : false ≡ true = e in absurd cc
open_stays goes h r (Some m) closed e = ⊎_elim
    (λ (t : goes r.id ≡ true).
    let a = and_parts (is_open_status r) (bytes_eq m.source.digits h) e in
    absurd (not_both (is_open_status r) a.0 (and_right _ (not r.progress.is_done) (ap not (closed t)))))
    (λ (t : goes r.id ≡ false). t)
    (cases_Bool (goes r.id))

pub of_reports : (goes : ℕ → Bool) (h : List ℕ) (ms : List MessageRow) (rs : List ReportRow) (all_queued : List QueuedPart) (l : QueuedPart) → Closed goes rs → Among l (with_reports h ms rs all_queued) → OfReport goes l ⊎ Among l all_queued
of_reports goes h ms [] all_queued l closed a = inr a
of_reports goes h ms (r ∷ rs) all_queued l closed a =
    let rest : List QueuedPart = with_reports h ms rs all_queued in
    cond_both (reports_to h r (message_at r.id ms)) (put queued_key (report_queued r) rest) rest (λ (ls : List QueuedPart). Among l ls → OfReport goes l ⊎ Among l all_queued)
    (λ t b. ⊎_elim
    (λ (e : l ≡ report_queued r).
    let f : OfReport goes l = record { row = r; stays = open_stays goes h r (message_at r.id ms) (closed r (inl refl)) t; queued = e } in
    let is : OfReport goes l ⊎ Among l all_queued = inl f in is)
    (λ (c : Among l rest × ¬ (queued_key l ≡ queued_key (report_queued r))). of_reports goes h ms rs all_queued l (λ x d. closed x (inr d)) c.0)
    (among_put queued_key l (report_queued r) rest b))
    (λ t b. of_reports goes h ms rs all_queued l (λ x d. closed x (inr d)) b)
    a

next_among : (now : ℕ) (ls : List QueuedPart) (l : QueuedPart) → next now ls ≡ Some l → Among l ls
next_among now [] l e = absurd cc
next_among now (x ∷ xs) l e = ⊎_elim
    (λ (f : if_due now x ≡ Some l). inl (due f))
    (λ (f : next now xs ≡ Some l). inr (next_among now xs l f))
    (picked (if_due now x) (next now xs) e)
  where
    picked : (a : Option QueuedPart) (o : Option QueuedPart) → preceding a o ≡ Some l → (a ≡ Some l) ⊎ (o ≡ Some l)
    picked None o q = inr q
    picked (Some a) None q = inl q
    picked (Some a) (Some b) q =
        cond_both (precedes b a) b a (λ (y : QueuedPart). Some y ≡ Some l → (Some a ≡ Some l) ⊎ (Some b ≡ Some l)) (λ t f. inr f) (λ t f. inl f) q

    due : if_due now x ≡ Some l → l ≡ x
    due q = cond_both (is_due now x) (Some x) None (λ (o : Option QueuedPart). o ≡ Some l → l ≡ x) (λ t f. cc) (λ t f. let bad : None ≡ Some l = f in absurd cc) q

-- ---- its TPDU

module _ (goes : ℕ → Bool) where
  part_octets : (p : PartRow) (s : Store) → Stays goes s → Among p (parts_in s) → goes p.id ≡ false → part_at p.id p.number (parts_in (store_without goes s)) ≡ part_at p.id p.number (parts_in s)
  part_octets p s k a stays =
      ap (λ (l : List PartRow). part_at p.id p.number l) k.parts
      ∙ at_stays part_id goes part_key (pair_key p.id p.number) (parts_in s) (λ y b e. ap (λ (x : PartRow). goes x.id) (one_row part_key y p (parts_in s) k.part_keys b a e) ∙ stays)

  pub tpdu_same : (h : List ℕ) (l : QueuedPart) (s : Store) → Stays goes s → Among l (waiting_in h s) → tpdu_of l (store_without goes s) ≡ tpdu_of l s
  tpdu_same h l s k a =
      let z : Store = store_without goes s in
      ⊎_elim
      (λ (f : OfReport goes l).
      subst (λ (x : QueuedPart). tpdu_of x z ≡ tpdu_of x s) (sym f.queued) (ap (λ (o : Option ReportRow). report_tpdu o) (report_look goes f.row.id s k f.stays)))
      (λ (b : Among l (parts_waiting h (messages_in s) (priorities_in s) (parts_in s))).
      let f = of_parts goes h (messages_in s) (priorities_in s) (parts_in s) l k.ended b in
      let p : PartRow = f.row in
      subst (λ (x : QueuedPart). tpdu_of x z ≡ tpdu_of x s) (sym f.queued)
      (ap (λ (o : Option ReportRow). if p.number == 0 then report_tpdu o else part_tpdu (part_at p.id p.number (parts_in z))) (report_look goes p.id s k f.stays)
      ∙ ap (λ (o : Option PartRow). if p.number == 0 then report_tpdu (report_of p.id (reports_in s)) else part_tpdu o) (part_octets p s k f.among f.stays)))
      (of_reports goes h (messages_in s) (reports_in s) (parts_waiting h (messages_in s) (priorities_in s) (parts_in s)) l k.closed a)

  -- ---- offers

  queued_same : (link : HandsetLink) (o : Option QueuedPart) (s : Store) (links : Links) → Stays goes s → next s.moment (waiting_in link.handset s) ≡ o
      → offer_queued link (waiting_in link.handset s) o (store_without goes s) links ≡ offer_queued link (waiting_in link.handset s) o s links
  queued_same link None s links k e = refl
  queued_same link (Some l) s links k e =
      let w : List QueuedPart = waiting_in link.handset s in
      ap (λ (t : List ℕ). turn_link link (begun s.moment l.reference (holder_of l) (data_down l.reference (relay_address s.setup.centre) (with_more_messages (waits_beside s.moment l w) t)) link.near_end) (read_of l s links))
      (tpdu_same link.handset l s k (next_among s.moment w l e))

  offer_on_same : (link : HandsetLink) (s : Store) (links : Links) → Stays goes s → offer_on link (store_without goes s) links ≡ offer_on link s links
  offer_on_same link s links k =
      let z : Store = store_without goes s in
      let w : List QueuedPart = waiting_in link.handset s in
      ap (λ (x : Links). if is_ready link then x else links)
      (ap (λ (ls : List QueuedPart). offer_queued link ls (next s.moment ls) z links) (waiting_look goes link.handset s k)
      ∙ queued_same link (next s.moment w) s links k refl)

  offer_all_same : (hs : List HandsetRow) (s : Store) (links : Links) → Stays goes s → offer_all hs (store_without goes s) links ≡ offer_all hs s links
  offer_all_same [] s links k = refl
  offer_all_same (h ∷ hs) s links k =
      ap (λ (x : Links). offer_all hs (store_without goes s) x) (offer_on_same (link_of h.number links.all) s links k)
      ∙ offer_all_same hs s (offer_to h.number s links) k

  pub follow_same : (d : Draft) → Stays goes d.store → follow (draft_without goes d) ≡ draft_without goes (follow d)
  follow_same d k =
      let s : Store = d.store in
      let z : Store = store_without goes s in
      let sent : send_all s.moment (messages_in z) (reports_in z) d.bindings ≡ send_all s.moment (messages_in s) (reports_in s) d.bindings =
      ap (λ (l : List MessageRow). send_all s.moment l (reports_in z) d.bindings) k.messages
      ∙ ap (λ (l : List ReportRow). send_all s.moment (kept message_key goes (messages_in s)) l d.bindings) k.reports
      ∙ send_same goes s.moment (messages_in s) (reports_in s) d.bindings k.closed in
      let offered : offer_all (handsets_in s) z d.links ≡ offer_all (handsets_in s) s d.links = offer_all_same (handsets_in s) s d.links k in
      let first : follow (draft_without goes d) ≡ record { store = z; links = offer_all (handsets_in s) z d.links; bindings = send_all s.moment (messages_in s) (reports_in s) d.bindings; answer = d.answer } =
      ap (λ (b : Bindings). record { store = z; links = offer_all (handsets_in s) z d.links; bindings = b; answer = d.answer }) sent in
      first ∙ ap (λ (x : Links). record { store = z; links = x; bindings = send_all s.moment (messages_in s) (reports_in s) d.bindings; answer = d.answer }) offered
