-- Each move of a store is the same move without the messages that go.
use Rattle.std.proofs.Common.{◌≡◌, ℕ, ◌+◌, ◌*◌, ◌<◌, ◌≤◌, List, [], ◌∷◌, Bool, true, false, refl, sym, ◌∙◌, ap, inl, ⊎_elim, arith}
use Rattle.std.specs.Prelude.{◌⊎◌, ◌==◌, if◌then◌else◌}
use Rattle.std.proofs.lemmas.Bool.{cases_Bool, cases_eq}
use Rattle.sms_base.specs.Among.{Among}
use Rattle.sms_rows.specs.declared.table.change.Change.{Change}
use Rattle.sms_rows.specs.table.Since.{rows_after}
use Rattle.sms_rows.specs.table.Table.{Rises, put}
use Rattle.sms_rows.proofs.table.Tables.{among_put, put_among, rises_put}
use Rattle.sms_centre_rows.specs.declared.messages.bar.BarRow.{BarRow}
use Rattle.sms_centre_rows.specs.declared.messages.message.MessageRow.{MessageRow}
use Rattle.sms_centre_rows.specs.declared.messages.part.PartRow.{PartRow}
use Rattle.sms_centre_rows.specs.declared.messages.priority.PriorityRow.{PriorityRow}
use Rattle.sms_centre_rows.specs.declared.messages.claim.Claim.{Claim}
use Rattle.sms_centre_rows.specs.messages.Bars.{bar_key, with_bars}
use Rattle.sms_centre_rows.specs.messages.Messages.{message_at, message_key, part_key, part_reaching, priority_key}
use Rattle.sms_centre_rows.specs.declared.reports.report.ReportRow.{ReportRow}
use Rattle.sms_centre_rows.specs.reports.Reports.{next_place, place_after, put_report, report_key, report_of, report_reaching}
use Rattle.sms_centre_rows.specs.reports.Waiting.{waiting_for}
use Rattle.sms_centre_rows.proofs.reports.AllWaiting.{report_behind, report_here}
use Rattle.sms_centre_rows.proofs.waiting.Amending.{rises_amended}
use Rattle.sms_centre_rows.specs.declared.waiting.handset.HandsetRow.{HandsetRow}
use Rattle.sms_centre_rows.specs.declared.waiting.progress.Progress.{Progress}
use Rattle.sms_centre_rows.specs.declared.waiting.queued_part.QueuedPart.{QueuedPart}
use Rattle.sms_centre_rows.specs.waiting.References.{next_reference}
use Rattle.sms_centre_rows.specs.waiting.Revisions.{amended}
use Rattle.sms_centre_spec.proofs.forgetting.Claims.{left_message, left_parts, parts_amended, parts_put}
use Rattle.sms_centre_spec.specs.Draft.{Core, Store, bars_in, messages_in, parts_in, priorities_in, references_in, reports_in, store_of, waiting_in, with_given, with_message, with_part, with_part_at, with_priority, with_report_at, with_reports}
use Rattle.sms_centre_spec.specs.SoundRows.{IsSound}
use Rattle.sms_centre_spec.specs.Submitting.{reference_for}
use Rattle.sms_centre_spec.proofs.NextNumbers.{among_amended, below_next_place}
use Rattle.sms_centre_spec.specs.forgetting.Forgetting.{MayGo, claims_left, kept, part_id, report_id}
use Rattle.sms_centre_spec.specs.forgetting.Forgot.{Stays, store_without}
use Rattle.sms_centre_spec.proofs.forgetting.Kept.{amended_kept, kept_gone, kept_here, not_both, put_kept}
use Rattle.sms_centre_spec.proofs.forgetting.Looks.{message_stays, waiting_same}
use Rattle.sms_centre_spec.proofs.forgetting.Splits.{next_place_same}

-- ---- looked up

pub report_stays : (goes : ℕ → Bool) (id : ℕ) (rs : List ReportRow) → goes id ≡ false → report_of id (kept report_id goes rs) ≡ report_of id rs
report_stays goes id [] s = refl
report_stays goes id (r ∷ rs) s = ⊎_elim
    (λ (t : goes r.id ≡ true).
    ap (λ (l : List ReportRow). report_of id l) (kept_gone report_id goes r rs t) ∙ report_stays goes id rs s
    ∙ sym (report_behind id r rs (λ e. not_both (goes r.id) t (ap goes e ∙ s))))
    (λ (t : goes r.id ≡ false). ap (λ (l : List ReportRow). report_of id l) (kept_here report_id goes r rs t) ∙ ⊎_elim
    (λ (e : r.id ≡ id). report_here id r (kept report_id goes rs) e ∙ sym (report_here id r rs e))
    (λ (e : r.id ≡ id → ⊥). report_behind id r (kept report_id goes rs) e ∙ report_stays goes id rs s ∙ sym (report_behind id r rs e))
    (cases_eq r.id id))
    (cases_Bool (goes r.id))

pub next_amended : (n k : ℕ) (q : Progress) (rs : List ReportRow) → place_after n (amended report_key report_reaching k q rs) ≡ place_after n rs
next_amended n k q [] = refl
next_amended n k q (r ∷ rs) =
    ap (λ (j : ℕ). place_after (j + 1) (amended report_key report_reaching k q rs)) (either (r.place == k)) ∙ next_amended (r.place + 1) k q rs
  where
    either : (b : Bool) → report_key (if b then report_reaching q r else r) ≡ r.place
    either true = refl
    either false = refl

module _ (goes : ℕ → Bool) where
  pub base_stays : (c : Core) → IsSound c.rows → MayGo goes c.rows → Stays goes (store_of c.rows c.moment)
  base_stays c s may = record {
    messages = refl;
    parts = refl;
    reports = refl;
    priorities = refl;
    message_keys = s.messages.message_keys;
    part_keys = s.messages.part_keys;
    report_keys = s.reports.keys;
    priority_keys = s.messages.priority_keys;
    ended = may.ended;
    closed = may.closed;
    place = may.place;
    old = λ m a g. a;
    few = λ p a g. (s.messages.each_part p a).few;
    left = refl;
    bars = refl;
  }

  pub message_look : (n : ℕ) (s : Store) → Stays goes s → goes n ≡ false → message_at n (messages_in (store_without goes s)) ≡ message_at n (messages_in s)
  message_look n s k stays = ap (λ (l : List MessageRow). message_at n l) k.messages ∙ message_stays goes n (messages_in s) stays

  pub report_look : (n : ℕ) (s : Store) → Stays goes s → goes n ≡ false → report_of n (reports_in (store_without goes s)) ≡ report_of n (reports_in s)
  report_look n s k stays = ap (λ (l : List ReportRow). report_of n l) k.reports ∙ report_stays goes n (reports_in s) stays

  pub waiting_look : (h : List ℕ) (s : Store) → Stays goes s → waiting_in h (store_without goes s) ≡ waiting_in h s
  waiting_look h s k =
      let z : Store = store_without goes s in
      ap (λ (l : List MessageRow). waiting_for h l (priorities_in z) (parts_in z) (reports_in z)) k.messages
      ∙ ap (λ (l : List PriorityRow). waiting_for h (kept message_key goes (messages_in s)) l (parts_in z) (reports_in z)) k.priorities
      ∙ ap (λ (l : List PartRow). waiting_for h (kept message_key goes (messages_in s)) (kept priority_key goes (priorities_in s)) l (reports_in z)) k.parts
      ∙ ap (λ (l : List ReportRow). waiting_for h (kept message_key goes (messages_in s)) (kept priority_key goes (priorities_in s)) (kept part_id goes (parts_in s)) l) k.reports
      ∙ waiting_same goes h (messages_in s) (priorities_in s) (parts_in s) (reports_in s) k.ended k.closed

  pub reference_look : (h : HandsetRow) (s : Store) → Stays goes s → reference_for h (store_without goes s) ≡ reference_for h s
  reference_look h s k = ap (λ (l : List QueuedPart). next_reference h l (references_in s) s.moment) (waiting_look h.number s k)

  pub place_look : (s : Store) → Stays goes s → next_place (reports_in (store_without goes s)) ≡ next_place (reports_in s)
  place_look s k = ap (λ (l : List ReportRow). next_place l) k.reports ∙ next_place_same goes 1 (reports_in s) k.place

  pub newer_stays : (id : ℕ) → ((n : ℕ) → goes n ≡ true → n < id) → goes id ≡ false
  newer_stays id newer = ⊎_elim
      (λ (t : goes id ≡ true). let low : id < id = newer id t in absurd (omega (arith, low)))
      (λ (t : goes id ≡ false). t)
      (cases_Bool (goes id))

  -- the bars are those from before the event, and what goes lays claim to what it did then
  pub bars_look : (s : Store) → Stays goes s → bars_in (store_without goes s) ≡ with_bars (claims_left goes (messages_in s) (parts_in s)) (bars_in s)
  bars_look s k =
      let base : List BarRow = with_bars (claims_left goes s.messages.messages.base s.messages.parts.base) s.bars.base in
      ap (λ (l : List (Change BarRow)). rows_after bar_key l base) k.bars
      ∙ ap (λ (l : List Claim). with_bars l s.bars.base) (sym k.left)
      ∙ ap (λ (l : List (Change BarRow)). with_bars (claims_left goes (messages_in s) (parts_in s)) (rows_after bar_key l s.bars.base)) (sym k.bars)

  -- ---- moves

  pub message_move : (m : MessageRow) (s : Store) → Stays goes s → goes m.id ≡ false → Stays goes (with_message m s)
  message_move m s k stays = record {
    messages = ap (λ (l : List MessageRow). put message_key m l) k.messages ∙ sym (put_kept message_key goes message_key m (messages_in s) k.message_keys stays);
    parts = k.parts;
    reports = k.reports;
    priorities = k.priorities;
    message_keys = rises_put message_key m (messages_in s) k.message_keys;
    part_keys = k.part_keys;
    report_keys = k.report_keys;
    priority_keys = k.priority_keys;
    ended = λ x a g. ⊎_elim
        (λ (e : x ≡ m). absurd (not_both (goes x.id) g (ap (λ (y : MessageRow). goes y.id) e ∙ stays)))
        (λ (b : Among x (messages_in s) × ¬ (x.id ≡ m.id)). k.ended x b.0 g)
        (among_put message_key x m (messages_in s) a);
    closed = k.closed;
    place = k.place;
    old = λ x a g. ⊎_elim
        (λ (e : x ≡ m). absurd (not_both (goes x.id) g (ap (λ (y : MessageRow). goes y.id) e ∙ stays)))
        (λ (b : Among x (messages_in s) × ¬ (x.id ≡ m.id)). k.old x b.0 g)
        (among_put message_key x m (messages_in s) a);
    few = k.few;
    left = left_message goes m (messages_in s) (parts_in s) stays ∙ k.left;
    bars = k.bars;
  }

  -- a part is put whose message is newer than all that go
  pub part_move : (p : PartRow) (s : Store) → Stays goes s → ((n : ℕ) → goes n ≡ true → n < p.id) → Stays goes (with_part p s)
  part_move p s k newer = record {
    messages = k.messages;
    parts = ap (λ (l : List PartRow). put part_key p l) k.parts ∙ sym (put_kept part_id goes part_key p (parts_in s) k.part_keys stays);
    reports = k.reports;
    priorities = k.priorities;
    message_keys = k.message_keys;
    part_keys = rises_put part_key p (parts_in s) k.part_keys;
    report_keys = k.report_keys;
    priority_keys = k.priority_keys;
    ended = k.ended;
    closed = k.closed;
    place = k.place;
    old = k.old;
    few = λ x a g. ⊎_elim
        (λ (e : x ≡ p). absurd (not_both (goes x.id) g (ap (λ (y : PartRow). goes y.id) e ∙ stays)))
        (λ (b : Among x (parts_in s) × ¬ (part_key x ≡ part_key p)). k.few x b.0 g)
        (among_put part_key x p (parts_in s) a);
    left = left_parts goes (messages_in s) (parts_in s) (put part_key p (parts_in s)) (λ m g.
        parts_put m p (parts_in s) (λ e. other m g e)
        (λ x a e f.
        let small : x.number ≤ 20 = k.few x a (ap goes f ∙ g) in
        let low : m.id < p.id = newer m.id g in
        let key : 256 * x.id + x.number ≡ 256 * p.id + p.number = e in omega (arith, small, low, key, f))) ∙ k.left;
    bars = k.bars;
  }
    where
      stays : goes p.id ≡ false
      stays = newer_stays p.id newer

      other : (m : MessageRow) → goes m.id ≡ true → p.id ≡ m.id → ⊥
      other m g e = let low : m.id < p.id = newer m.id g in omega (arith, low, e)

  pub part_far : (p : PartRow) (q : Progress) (s : Store) → Stays goes s → Stays goes (with_part_at p q s)
  part_far p q s k = record {
    messages = k.messages;
    parts = ap (λ (l : List PartRow). amended part_key part_reaching (part_key p) q l) k.parts
        ∙ sym (amended_kept part_id goes part_key part_reaching (λ x y. refl) (part_key p) q (parts_in s));
    reports = k.reports;
    priorities = k.priorities;
    message_keys = k.message_keys;
    part_keys = rises_amended part_key part_reaching (λ x y. refl) (part_key p) q (parts_in s) k.part_keys;
    report_keys = k.report_keys;
    priority_keys = k.priority_keys;
    ended = k.ended;
    closed = k.closed;
    place = k.place;
    old = k.old;
    few = λ x a g.
        let f = among_amended part_key part_reaching (part_key p) q x (parts_in s) a in
        ⊎_elim
        (λ (e : x ≡ f.0). ap_few (ap (λ (y : PartRow). y.number) e) (k.few f.0 f.1.0 (ap (λ (y : PartRow). goes y.id) (sym e) ∙ g)))
        (λ (e : (part_key f.0 ≡ part_key p) × (x ≡ part_reaching q f.0)).
        ap_few (ap (λ (y : PartRow). y.number) e.1) (k.few f.0 f.1.0 (ap (λ (y : PartRow). goes y.id) (sym e.1) ∙ g)))
        f.1.1;
    left = left_parts goes (messages_in s) (parts_in s) (amended part_key part_reaching (part_key p) q (parts_in s))
        (λ m g. parts_amended m (part_key p) q (parts_in s)) ∙ k.left;
    bars = k.bars;
  }
    where
      ap_few : {a b : ℕ} → a ≡ b → b ≤ 20 → a ≤ 20
      ap_few e l = omega (arith, e, l)

  pub priority_move : (q : PriorityRow) (s : Store) → Stays goes s → goes q.id ≡ false → Stays goes (with_priority q s)
  priority_move q s k stays = record {
    messages = k.messages;
    parts = k.parts;
    reports = k.reports;
    priorities = ap (λ (l : List PriorityRow). put priority_key q l) k.priorities ∙ sym (put_kept priority_key goes priority_key q (priorities_in s) k.priority_keys stays);
    message_keys = k.message_keys;
    part_keys = k.part_keys;
    report_keys = k.report_keys;
    priority_keys = rises_put priority_key q (priorities_in s) k.priority_keys;
    ended = k.ended;
    closed = k.closed;
    place = k.place;
    old = k.old;
    few = k.few;
    left = k.left;
    bars = k.bars;
  }

  pub given_move : (h : HandsetRow) (r : ℕ) (s : Store) → Stays goes s → Stays goes (with_given h r s)
  given_move h r s k = record {
    messages = k.messages;
    parts = k.parts;
    reports = k.reports;
    priorities = k.priorities;
    message_keys = k.message_keys;
    part_keys = k.part_keys;
    report_keys = k.report_keys;
    priority_keys = k.priority_keys;
    ended = k.ended;
    closed = k.closed;
    place = k.place;
    old = k.old;
    few = k.few;
    left = k.left;
    bars = k.bars;
  }

  pub moment_move : (n : ℕ) (s : Store) → Stays goes s → Stays goes (record s { moment = n })
  moment_move n s k = record {
    messages = k.messages;
    parts = k.parts;
    reports = k.reports;
    priorities = k.priorities;
    message_keys = k.message_keys;
    part_keys = k.part_keys;
    report_keys = k.report_keys;
    priority_keys = k.priority_keys;
    ended = k.ended;
    closed = k.closed;
    place = k.place;
    old = k.old;
    few = k.few;
    left = k.left;
    bars = k.bars;
  }

  pub report_move : (r : ReportRow) (s : Store) → Stays goes s → goes r.id ≡ false → r.place ≡ next_place (reports_in s) → Stays goes (with_reports (put_report r s.reports) s)
  report_move r s k stays next = record {
    messages = k.messages;
    parts = k.parts;
    reports = ap (λ (l : List ReportRow). put report_key r l) k.reports ∙ sym (put_kept report_id goes report_key r (reports_in s) k.report_keys stays);
    priorities = k.priorities;
    message_keys = k.message_keys;
    part_keys = k.part_keys;
    report_keys = rises;
    priority_keys = k.priority_keys;
    ended = k.ended;
    closed = λ x a g. k.closed x (old x a g) g;
    place = λ x a g.
        let low = k.place x (old x a g) g in
        let high : r.place < next_place (put report_key r (reports_in s)) = below_next_place 1 r (put report_key r (reports_in s)) rises (put_among report_key r r (reports_in s) (inl refl)) in
        omega (arith, low, high, next);
    old = k.old;
    few = k.few;
    left = k.left;
    bars = k.bars;
  }
    where
      rises : Rises report_key (put report_key r (reports_in s))
      rises = rises_put report_key r (reports_in s) k.report_keys

      old : (x : ReportRow) → Among x (put report_key r (reports_in s)) → goes x.id ≡ true → Among x (reports_in s)
      old x a g = ⊎_elim
          (λ (e : x ≡ r). absurd (not_both (goes x.id) g (ap (λ (y : ReportRow). goes y.id) e ∙ stays)))
          (λ (b : Among x (reports_in s) × ¬ (x.place ≡ r.place)). b.0)
          (among_put report_key x r (reports_in s) a)

  -- a report is so far: one that goes is not opened
  pub report_far : (r : ReportRow) (q : Progress) (s : Store) → Stays goes s
      → ((x : ReportRow) → Among x (reports_in s) → goes x.id ≡ true → x.place ≡ r.place → q.is_done ≡ true) → Stays goes (with_report_at r q s)
  report_far r q s k shut = record {
    messages = k.messages;
    parts = k.parts;
    reports = ap (λ (l : List ReportRow). amended report_key report_reaching (report_key r) q l) k.reports
        ∙ sym (amended_kept report_id goes report_key report_reaching (λ x y. refl) (report_key r) q (reports_in s));
    priorities = k.priorities;
    message_keys = k.message_keys;
    part_keys = k.part_keys;
    report_keys = rises_amended report_key report_reaching (λ x y. refl) (report_key r) q (reports_in s) k.report_keys;
    priority_keys = k.priority_keys;
    ended = k.ended;
    closed = λ x a g.
        let f = among_amended report_key report_reaching (report_key r) q x (reports_in s) a in
        ⊎_elim
        (λ (e : x ≡ f.0). ap (λ (y : ReportRow). y.progress.is_done) e ∙ k.closed f.0 f.1.0 (ap (λ (y : ReportRow). goes y.id) (sym e) ∙ g))
        (λ (e : (report_key f.0 ≡ report_key r) × (x ≡ report_reaching q f.0)).
        ap (λ (y : ReportRow). y.progress.is_done) e.1 ∙ shut f.0 f.1.0 (ap (λ (y : ReportRow). goes y.id) (sym e.1) ∙ g) e.0)
        f.1.1;
    place = λ x a g.
        let f = among_amended report_key report_reaching (report_key r) q x (reports_in s) a in
        let same : next_place (amended report_key report_reaching (report_key r) q (reports_in s)) ≡ next_place (reports_in s) = next_amended 1 (report_key r) q (reports_in s) in
        ⊎_elim
        (λ (e : x ≡ f.0).
        let low = k.place f.0 f.1.0 (ap (λ (y : ReportRow). goes y.id) (sym e) ∙ g) in
        let own : x.place ≡ f.0.place = ap (λ (y : ReportRow). y.place) e in omega (arith, low, own, same))
        (λ (e : (report_key f.0 ≡ report_key r) × (x ≡ report_reaching q f.0)).
        let low = k.place f.0 f.1.0 (ap (λ (y : ReportRow). goes y.id) (sym e.1) ∙ g) in
        let own : x.place ≡ f.0.place = ap (λ (y : ReportRow). y.place) e.1 in omega (arith, low, own, same))
        f.1.1;
    old = k.old;
    few = k.few;
    left = k.left;
    bars = k.bars;
  }
