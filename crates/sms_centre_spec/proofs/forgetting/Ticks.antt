-- Time does the same without the messages that go.
use Rattle.std.proofs.Common.{◌≡◌, ℕ, List, [], ◌∷◌, Bool, true, false, Option, Some, None, refl, sym, ◌∙◌, ap, subst, inl, inr, ⊎_elim}
use Rattle.std.specs.Prelude.{◌⊎◌, ◌==◌, ◌&&◌, not, nat_le, if◌then◌else◌}
use Rattle.std.proofs.lemmas.Bool.{and_left, and_right, cases_Bool, cond-false}
use Rattle.sms_base.specs.Among.{Among}
use Rattle.sms_base.specs.declared.final_state.FinalState.TheVariants.{Expired}
use Rattle.sms_rows.specs.table.Keys.{pair_key}
use Rattle.sms_link.specs.declared.ending.Upward.{Upward}
use Rattle.sms_link.specs.declared.ending.Upward.TheVariants.{Opened, Ended}
use Rattle.sms_link.specs.LinkTurn.{Turn, fired as fired_link}
use Rattle.sms_centre_rows.specs.declared.messages.message.MessageRow.{MessageRow}
use Rattle.sms_centre_rows.specs.declared.messages.part.PartRow.{PartRow}
use Rattle.sms_centre_rows.specs.messages.Messages.{is_pending, message_key, part_at, part_key, part_reaching}
use Rattle.sms_centre_rows.specs.messages.OpenParts.{part_queued, parts_waiting}
use Rattle.sms_centre_rows.specs.declared.reports.report.ReportRow.{ReportRow}
use Rattle.sms_centre_rows.specs.reports.Reports.{is_open_status, is_status, report_of}
use Rattle.sms_centre_rows.specs.reports.Waiting.{report_queued}
use Rattle.sms_centre_rows.proofs.reports.AllWaiting.{report_found}
use Rattle.sms_centre_rows.specs.declared.waiting.handset.HandsetRow.{HandsetRow}
use Rattle.sms_centre_rows.specs.declared.waiting.handset_link.HandsetLink.{HandsetLink}
use Rattle.sms_centre_rows.specs.declared.waiting.progress.Progress.{Progress}
use Rattle.sms_centre_rows.specs.declared.waiting.queued_part.QueuedPart.{QueuedPart}
use Rattle.sms_centre_rows.specs.waiting.Links.{Links, link_at, link_of, put_link, raised as raised_link, turn_link}
use Rattle.sms_centre_rows.specs.waiting.References.{handset_at}
use Rattle.sms_centre_rows.specs.waiting.Trying.{due_at, finished, later}
use Rattle.sms_centre_spec.specs.declared.event.CentreEvent.TheVariants.{Tick}
use Rattle.sms_centre_spec.specs.CentreEvent.{aged, at_moment, drop_all, dropped, expire_all, expired, fire_at, fire_link, fire_mentioned, fire_others, fired, happened, is_mentioned, raise, raise_all, raised, report_limit, timed_out}
use Rattle.sms_centre_spec.specs.Draft.{Core, Draft, Store, draft_of, handsets_in, in_store, messages_in, on_links, parts_in, priorities_in, reports_in, waiting_in}
use Rattle.sms_centre_spec.specs.Ends.{end}
use Rattle.sms_centre_spec.specs.Orders.{message_due, parts_among}
use Rattle.sms_centre_spec.specs.Receiving.{all_due, due_now, queued_due, part_due, report_due}
use Rattle.sms_centre_spec.specs.SoundRows.{IsSound}
use Rattle.sms_centre_spec.specs.Transfers.{report_closed}
use Rattle.sms_centre_spec.proofs.NextNumbers.{among_amended}
use Rattle.sms_centre_spec.specs.forgetting.Forgetting.{kept, part_id, report_id}
use Rattle.sms_centre_spec.specs.forgetting.Forgot.{CanForget, Same, Stays, core_without, draft_without, store_without}
use Rattle.sms_centre_spec.proofs.OrdersDone.{among_parts}
use Rattle.sms_centre_spec.proofs.forgetting.Answers.{Alike, followed}
use Rattle.sms_centre_spec.proofs.forgetting.Ended.{Pair, conclude_alike, end_pair, pair_if, report_is}
use Rattle.sms_centre_spec.proofs.forgetting.Follow.{OfReport, of_parts, of_reports}
use Rattle.sms_centre_spec.proofs.forgetting.Going.{one_row}
use Rattle.sms_centre_spec.proofs.forgetting.Kept.{at_stays, kept_gone, kept_here}
use Rattle.sms_centre_spec.proofs.forgetting.Looks.{Closed, Ended as EndedRows}
use Rattle.sms_centre_spec.proofs.forgetting.Moves.{base_stays, moment_move, part_far, report_far, report_look, waiting_look}
use Rattle.sms_centre_spec.proofs.forgetting.Submits.{alike_if}

-- what waits, and its row stays
record StaysSo (goes : ℕ → Bool) (l : QueuedPart) (s : Store) : Type 0 where
  report : goes l.id ≡ false
  part : (l.number == 0) ≡ false → (y : PartRow) → Among y (parts_in s) → part_key y ≡ pair_key l.id l.number → goes y.id ≡ false

module _ (goes : ℕ → Bool) where
  -- ---- due now

  waiting_stays : (h : List ℕ) (l : QueuedPart) (s : Store) → Stays goes s → Among l (waiting_in h s) → StaysSo goes l s
  waiting_stays h l s k a = ⊎_elim
      (λ (f : OfReport goes l). subst (λ (x : QueuedPart). StaysSo goes x s) (sym f.queued) (of_report f.row f.stays))
      (λ (b : Among l (parts_waiting h (messages_in s) (priorities_in s) (parts_in s))).
      let f = of_parts goes h (messages_in s) (priorities_in s) (parts_in s) l k.ended b in
      subst (λ (x : QueuedPart). StaysSo goes x s) (sym f.queued) (of_part f.row f.among f.stays))
      (of_reports goes h (messages_in s) (reports_in s) (parts_waiting h (messages_in s) (priorities_in s) (parts_in s)) l k.closed a)
    where
      of_report : (r : ReportRow) → goes r.id ≡ false → StaysSo goes (report_queued r) s
      of_report r g = record { report = g; part = λ e. let bad : true ≡ false = e in absurd cc }

      of_part : (p : PartRow) → Among p (parts_in s) → goes p.id ≡ false → StaysSo goes (part_queued p (priorities_in s)) s
      of_part p b g = record { report = g; part = λ e y c q. ap (λ (x : PartRow). goes x.id) (one_row part_key y p (parts_in s) k.part_keys c b q) ∙ g }

  part_due_pair : (o : Option PartRow) (s : Store) → Stays goes s → Pair goes (part_due o (store_without goes s)) (part_due o s)
  part_due_pair None s k = (refl, k)
  part_due_pair (Some p) s k = (refl, part_far goes p (due_at s.moment p.progress) s k)

  report_due_pair : (id : ℕ) (o : Option ReportRow) (s : Store) → Stays goes s → goes id ≡ false → report_of id (reports_in s) ≡ o → Pair goes (report_due o (store_without goes s)) (report_due o s)
  report_due_pair id None s k g e = (refl, k)
  report_due_pair id (Some r) s k g e =
      let f = report_found id r (reports_in s) e in
      let q : Progress = due_at s.moment r.progress in (refl, report_far goes r q s k (report_is goes r q s k f.0 (ap goes f.1 ∙ g)))

  queued_pair : (l : QueuedPart) (s : Store) → Stays goes s → StaysSo goes l s → Pair goes (queued_due l (store_without goes s)) (queued_due l s)
  queued_pair l s k f = by (l.number == 0) refl
    where
      z : Store
      z = store_without goes s

      by : (b : Bool) → (l.number == 0) ≡ b
          → Pair goes (if b then report_due (report_of l.id (reports_in z)) z else part_due (part_at l.id l.number (parts_in z)) z) (if b then report_due (report_of l.id (reports_in s)) s else part_due (part_at l.id l.number (parts_in s)) s)
      by true e = subst (λ (o : Option ReportRow). Pair goes (report_due o z) (report_due (report_of l.id (reports_in s)) s)) (sym (report_look goes l.id s k f.report)) (report_due_pair l.id (report_of l.id (reports_in s)) s k f.report refl)
      by false e =
          let same : part_at l.id l.number (parts_in z) ≡ part_at l.id l.number (parts_in s) =
          ap (λ (ps : List PartRow). part_at l.id l.number ps) k.parts ∙ at_stays part_id goes part_key (pair_key l.id l.number) (parts_in s) (f.part e) in
          subst (λ (o : Option PartRow). Pair goes (part_due o z) (part_due (part_at l.id l.number (parts_in s)) s)) (sym same) (part_due_pair (part_at l.id l.number (parts_in s)) s k)

  so_after : (l x : QueuedPart) (s : Store) → StaysSo goes l s → StaysSo goes l (queued_due x s)
  so_after l x s f = by (x.number == 0)
    where
      report : (o : Option ReportRow) → StaysSo goes l (report_due o s)
      report None = f
      report (Some r) = record { report = f.report; part = f.part }

      part : (o : Option PartRow) → StaysSo goes l (part_due o s)
      part None = f
      part (Some p) = record {
        report = f.report;
        part = λ e y a q.
            let g = among_amended part_key part_reaching (part_key p) (due_at s.moment p.progress) y (parts_in s) a in
            ⊎_elim
            (λ (same : y ≡ g.0). ap (λ (w : PartRow). goes w.id) same ∙ f.part e g.0 g.1.0 (ap (λ (w : PartRow). part_key w) (sym same) ∙ q))
            (λ (same : (part_key g.0 ≡ part_key p) × (y ≡ part_reaching (due_at s.moment p.progress) g.0)).
            ap (λ (w : PartRow). goes w.id) same.1 ∙ f.part e g.0 g.1.0 (ap (λ (w : PartRow). part_key w) (sym same.1) ∙ q))
            g.1.1;
      }

      by : (b : Bool) → StaysSo goes l (if b then report_due (report_of x.id (reports_in s)) s else part_due (part_at x.id x.number (parts_in s)) s)
      by true = report (report_of x.id (reports_in s))
      by false = part (part_at x.id x.number (parts_in s))

  all_pair : (ls : List QueuedPart) (s : Store) → Stays goes s → ((l : QueuedPart) → Among l ls → StaysSo goes l s) → Pair goes (all_due ls (store_without goes s)) (all_due ls s)
  all_pair [] s k f = (refl, k)
  all_pair (l ∷ ls) s k f =
      let p : Pair goes (queued_due l (store_without goes s)) (queued_due l s) = queued_pair l s k (f l (inl refl)) in
      subst (λ (e : Store). Pair goes (all_due ls e) (all_due ls (queued_due l s))) (sym p.0) (all_pair ls (queued_due l s) p.1 (λ x a. so_after x l s (f x (inr a))))

  pub due_pair : (h : List ℕ) (s : Store) → Stays goes s → Pair goes (due_now h (store_without goes s)) (due_now h s)
  due_pair h s k =
      subst (λ (ls : List QueuedPart). Pair goes (all_due ls (store_without goes s)) (due_now h s)) (sym (waiting_look goes h s k)) (all_pair (waiting_in h s) s k (λ l a. waiting_stays h l s k a))

  -- ---- of one message alone

  pub message_pair : (m : MessageRow) (s : Store) → Stays goes s → Pair goes (message_due m (store_without goes s)) (message_due m s)
  message_pair m s k =
      subst (λ (ls : List QueuedPart). Pair goes (all_due (parts_among m.id ls) (store_without goes s)) (message_due m s)) (sym (waiting_look goes m.handset s k))
      (all_pair (parts_among m.id (waiting_in m.handset s)) s k (λ l a. waiting_stays m.handset l s k (among_parts m.id l (waiting_in m.handset s) a)))

  -- ---- messages expire, and status reports are dropped

  expire_pair : (ms : List MessageRow) (s : Store) → Stays goes s → EndedRows goes ms → Pair goes (expire_all (kept message_key goes ms) (store_without goes s)) (expire_all ms s)
  expire_pair [] s k ended = (refl, k)
  expire_pair (m ∷ ms) s k ended =
      let z : Store = store_without goes s in
      let b : Bool = is_pending m && nat_le m.limit s.moment in
      let x : Store = if b then end Expired m z else z in
      let y : Store = if b then end Expired m s else s in
      ⊎_elim
      (λ (t : goes m.id ≡ true).
      let same : y ≡ s = cond-false b (end Expired m s) s (and_left (is_pending m) (nat_le m.limit s.moment) (ended m (inl refl) t)) in
      subst (λ (l : List MessageRow). Pair goes (expire_all l z) (expire_all ms y)) (sym (kept_gone message_key goes m ms t))
      (subst (λ (e : Store). Pair goes (expire_all (kept message_key goes ms) z) (expire_all ms e)) (sym same) (expire_pair ms s k (λ w a. ended w (inr a)))))
      (λ (t : goes m.id ≡ false).
      let p : Pair goes x y = pair_if goes b (end Expired m z) (end Expired m s) z s (end_pair goes Expired m s k t) (refl, k) in
      subst (λ (l : List MessageRow). Pair goes (expire_all l z) (expire_all ms y)) (sym (kept_here message_key goes m ms t))
      (subst (λ (e : Store). Pair goes (expire_all (kept message_key goes ms) e) (expire_all ms y)) (sym p.0) (expire_pair ms y p.1 (λ w a. ended w (inr a)))))
      (cases_Bool (goes m.id))

  drop_pair : (rs : List ReportRow) (s : Store) → Stays goes s → Closed goes rs → Pair goes (drop_all (kept report_id goes rs) (store_without goes s)) (drop_all rs s)
  drop_pair [] s k closed = (refl, k)
  drop_pair (r ∷ rs) s k closed =
      let z : Store = store_without goes s in
      let b : Bool = is_open_status r && nat_le (later r.made report_limit) s.moment in
      let x : Store = if b then report_closed r z else z in
      let y : Store = if b then report_closed r s else s in
      ⊎_elim
      (λ (t : goes r.id ≡ true).
      let same : y ≡ s = cond-false b (report_closed r s) s (and_left (is_open_status r) (nat_le (later r.made report_limit) s.moment) (and_right (is_status r.kind) (not r.progress.is_done) (ap not (closed r (inl refl) t)))) in
      subst (λ (l : List ReportRow). Pair goes (drop_all l z) (drop_all rs y)) (sym (kept_gone report_id goes r rs t))
      (subst (λ (e : Store). Pair goes (drop_all (kept report_id goes rs) z) (drop_all rs e)) (sym same) (drop_pair rs s k (λ w a. closed w (inr a)))))
      (λ (t : goes r.id ≡ false).
      let p : Pair goes x y = pair_if goes b (report_closed r z) (report_closed r s) z s (refl, report_far goes r (finished r.progress) s k (λ w a g e. refl)) (refl, k) in
      subst (λ (l : List ReportRow). Pair goes (drop_all l z) (drop_all rs y)) (sym (kept_here report_id goes r rs t))
      (subst (λ (e : Store). Pair goes (drop_all (kept report_id goes rs) e) (drop_all rs y)) (sym p.0) (drop_pair rs y p.1 (λ w a. closed w (inr a)))))
      (cases_Bool (goes r.id))

  expired_pair : (s : Store) → Stays goes s → Pair goes (expired (store_without goes s)) (expired s)
  expired_pair s k = subst (λ (l : List MessageRow). Pair goes (expire_all l (store_without goes s)) (expired s)) (sym k.messages) (expire_pair (messages_in s) s k k.ended)

  dropped_pair : (s : Store) → Stays goes s → Pair goes (dropped (store_without goes s)) (dropped s)
  dropped_pair s k = subst (λ (l : List ReportRow). Pair goes (drop_all l (store_without goes s)) (dropped s)) (sym k.reports) (drop_pair (reports_in s) s k k.closed)

  -- ---- stages of drafts, one after another

  abbrev Commutes : (Draft → Draft) → Type 0
  Commutes f = (d : Draft) → Stays goes d.store → Alike goes (f (draft_without goes d)) (f d)

  pub then_alike : (f : Draft → Draft) → Commutes f → (small large : Draft) → Alike goes small large → Alike goes (f small) (f large)
  then_alike f comm small large a = subst (λ (x : Draft). Alike goes (f x) (f large)) (sym a.0) (comm large a.1)

  moment_alike : (now : ℕ) → Commutes (at_moment now)
  moment_alike now d k = (refl, moment_move goes _ d.store k)

  aged_alike : Commutes aged
  aged_alike d k =
      let p : Pair goes (expired (store_without goes d.store)) (expired d.store) = expired_pair d.store k in
      let q : Pair goes (dropped (store_without goes (expired d.store))) (dropped (expired d.store)) = dropped_pair (expired d.store) p.1 in
      (ap (λ (e : Store). in_store (dropped e) (draft_without goes d)) p.0 ∙ ap (λ (e : Store). in_store e (draft_without goes d)) q.0, q.1)

  timed_alike : (h : List ℕ) (o : Option Upward) → Commutes (timed_out h o)
  timed_alike h None d k = (refl, k)
  timed_alike h (Some (Opened unit)) d k = (refl, k)
  timed_alike h (Some (Ended transfer ending)) d k = conclude_alike goes h transfer ending d k

  fire_link_alike : (link : HandsetLink) → Commutes (fire_link link)
  fire_link_alike link d k =
      let turn : Turn = fired_link d.store.moment link.near_end in timed_alike link.handset turn.out.up (on_links (turn_link link turn d.links) d) k

  fire_at_alike : (o : Option HandsetLink) → Commutes (fire_at o)
  fire_at_alike None d k = (refl, k)
  fire_at_alike (Some link) d k = fire_link_alike link d k

  mentioned_alike : (hs : List HandsetRow) → Commutes (fire_mentioned hs)
  mentioned_alike [] d k = (refl, k)
  mentioned_alike (h ∷ hs) d k =
      let o : Option HandsetLink = link_at h.number d.links.all in then_alike (fire_mentioned hs) (mentioned_alike hs) (fire_at o (draft_without goes d)) (fire_at o d) (fire_at_alike o d k)

  others_alike : (hs : List HandsetRow) (ls : List HandsetLink) → Commutes (fire_others hs ls)
  others_alike hs [] d k = (refl, k)
  others_alike hs (l ∷ ls) d k =
      let o : Option HandsetLink = link_at l.handset d.links.all in
      let b : Bool = is_mentioned (handset_at l.handset hs) in
      let e : Draft = draft_without goes d in
      then_alike (fire_others hs ls) (others_alike hs ls) (if b then e else fire_at o e) (if b then d else fire_at o d)
      (alike_if goes b e d (fire_at o e) (fire_at o d) (refl, k) (fire_at_alike o d k))

  fired_alike : Commutes fired
  fired_alike d k =
      let hs : List HandsetRow = handsets_in d.store in
      then_alike (fire_others hs d.links.all) (others_alike hs d.links.all) (fire_mentioned hs (draft_without goes d)) (fire_mentioned hs d) (mentioned_alike hs d k)

  pub raise_alike : (h : List ℕ) → Commutes (raise h)
  raise_alike h d k =
      let link : HandsetLink = link_of h d.links.all in
      let p : Pair goes (due_now link.handset (store_without goes d.store)) (due_now link.handset d.store) = due_pair link.handset d.store k in
      let links : Links = put_link (raised_link link) d.links in
      (ap (λ (e : Store). record { store = e; links = links; bindings = d.bindings; answer = d.answer }) p.0, p.1)

  raise_all_alike : (ls : List HandsetLink) → Commutes (raise_all ls)
  raise_all_alike [] d k = (refl, k)
  raise_all_alike (l ∷ ls) d k =
      let e : Draft = draft_without goes d in
      then_alike (raise_all ls) (raise_all_alike ls) (if l.is_awaited then raise l.handset e else e) (if l.is_awaited then raise l.handset d else d)
      (alike_if goes l.is_awaited (raise l.handset e) (raise l.handset d) e d (raise_alike l.handset d k) (refl, k))

  raised_alike : Commutes raised
  raised_alike d k = raise_all_alike d.links.all d k

  pub tick_same : (now : ℕ) (c : Core) → IsSound c.rows → CanForget goes c → Same goes (happened (Tick now) (core_without goes c)) (happened (Tick now) c)
  tick_same now c s can =
      let d : Draft = draft_of c in
      let e : Draft = draft_without goes d in
      let a : Alike goes (at_moment now e) (at_moment now d) = moment_alike now d (base_stays goes c s can.may) in
      let b : Alike goes (aged (at_moment now e)) (aged (at_moment now d)) = then_alike aged aged_alike (at_moment now e) (at_moment now d) a in
      let f : Alike goes (fired (aged (at_moment now e))) (fired (aged (at_moment now d))) = then_alike fired fired_alike (aged (at_moment now e)) (aged (at_moment now d)) b in
      followed goes (raised (fired (aged (at_moment now e)))) (raised (fired (aged (at_moment now d)))) (then_alike raised raised_alike (fired (aged (at_moment now e))) (fired (aged (at_moment now d))) f)
