-- Rows that a centre can stand on stay so through every stage of an event.
use Rattle.std.proofs.Common.{◌≡◌, ℕ, ◌≤◌, true, false, Some, sym, ◌∙◌, ap, subst, ⊎_elim, arith}
use Rattle.std.proofs.lemmas.Bool.{cases_eq, cond_both}
use Rattle.sms_base.specs.Among.{Among}
use Rattle.sms_base.specs.declared.final_state.FinalState.{FinalState}
use Rattle.sms_base.specs.declared.final_state.FinalState.TheVariants.{Delivered}
use Rattle.sms_base.specs.TimeStamp.{IsMoment}
use Rattle.sms_rows.specs.table.Table.{row_at}
use Rattle.sms_rows.proofs.table.Tables.{found_among, found_key}
use Rattle.sms_centre_rows.specs.declared.messages.message.MessageRow.{MessageRow}
use Rattle.sms_centre_rows.specs.declared.messages.part.PartRow.{PartRow}
use Rattle.sms_centre_rows.specs.messages.Messages.{all_done, is_pending, message_at, message_key, part_key, part_reaching}
use Rattle.sms_centre_rows.specs.messages.SplitReferences.{is_delivered}
use Rattle.sms_centre_rows.specs.declared.reports.report.ReportRow.{ReportRow}
use Rattle.sms_centre_rows.specs.reports.Reports.{report_key, report_of, report_reaching}
use Rattle.sms_centre_rows.specs.declared.waiting.progress.Progress.{Progress}
use Rattle.sms_centre_rows.specs.waiting.Revisions.{amended}
use Rattle.sms_centre_rows.specs.waiting.Trying.{finished}
use Rattle.sms_centre_spec.specs.Draft.{Store, messages_in, parts_in, priorities_in, reports_in, with_part_at, with_report_at}
use Rattle.sms_centre_spec.specs.Ends.{end}
use Rattle.sms_centre_spec.specs.Consistent.{IsConsistent}
use Rattle.sms_centre_spec.specs.Transfers.{complete}
use Rattle.sms_centre_spec.proofs.SoundMessagesStay.{AreRows, StatesItsParts, finished_rows, found_message, pending_undelivered, put_off_rows, rows_are, rows_sound}
use Rattle.sms_centre_spec.proofs.NextNumbers.{among_amended}
use Rattle.sms_centre_spec.proofs.SoundReportsStay.{far_reports}
use Rattle.sms_centre_spec.proofs.SoundEnds.{end_sound}
use Rattle.sms_centre_spec.proofs.SoundStores.{IsPast, SoundStore, Times}
use Rattle.sms_centre_spec.proofs.StagesConsistent.{later_consistent, part_far_consistent, report_far_consistent}
use Rattle.sms_centre_spec.proofs.Steady.{message_own}

-- ---- how far parts and reports are

pub rows_map : (D E : MessageRow → Type 0) (s : Store) → AreRows D (messages_in s) (parts_in s) (priorities_in s) → ((x : MessageRow) → Among x (messages_in s) → D x → E x)
    → AreRows E (messages_in s) (parts_in s) (priorities_in s)
rows_map D E s r f = record {
  message_keys = r.message_keys;
  part_keys = r.part_keys;
  priority_keys = r.priority_keys;
  each = r.each;
  told = λ x among. f x among (r.told x among);
  each_part = r.each_part;
  each_priority = r.each_priority;
}

pub part_far_sound : (p : PartRow) (q : Progress) (s : Store) → SoundStore s → row_at part_key (part_key p) (parts_in s) ≡ Some p → q.is_done ≡ p.progress.is_done → SoundStore (with_part_at p q s)
part_far_sound p q s k there same = record {
  consistent = part_far_consistent p q s k.consistent there (λ e. sym same ∙ e);
  messages = rows_sound (messages_in s) (amended part_key part_reaching (part_key p) q (parts_in s)) (priorities_in s)
      (put_off_rows (messages_in s) (parts_in s) (priorities_in s) p q (rows_are (messages_in s) (parts_in s) (priorities_in s) k.messages) there same);
  reports = k.reports;
  splits = k.splits;
  bars = k.bars;
  setup = k.setup;
  times = record { now = k.times.now; start = k.times.start; submitted = k.times.submitted; given = k.times.given; made = k.times.made };
}

pub report_far_sound : (r : ReportRow) (q : Progress) (s : Store) → SoundStore s → report_of r.id (reports_in s) ≡ Some r → (q.is_done ≡ false → r.progress.is_done ≡ false) → SoundStore (with_report_at r q s)
report_far_sound r q s k there stays = record {
  consistent = report_far_consistent r q s k.consistent there stays;
  messages = k.messages;
  reports = far_reports (messages_in s) (reports_in s) r q k.reports there stays;
  splits = k.splits;
  bars = k.bars;
  setup = k.setup;
  times = record {
    now = k.times.now;
    start = k.times.start;
    submitted = k.times.submitted;
    given = k.times.given;
    made = λ x among.
        let g = among_amended report_key report_reaching (report_key r) q x (reports_in s) among in
        let same : x.made ≡ g.0.made = ⊎_elim (λ (e : x ≡ g.0). ap (λ (y : ReportRow). y.made) e) (λ (e : (report_key g.0 ≡ report_key r) × (x ≡ report_reaching q g.0)). ap (λ (y : ReportRow). y.made) e.1) g.1.1 in
        subst (λ (n : ℕ). IsPast s.moment n) (sym same) (k.times.made g.0 g.1.0);
  };
}

-- a part is acknowledged: its message is delivered, or has an undone part still
pub settled_sound : (p : PartRow) (m : MessageRow) (s : Store) → SoundStore s → row_at part_key (part_key p) (parts_in s) ≡ Some p → message_at p.id (messages_in s) ≡ Some m → is_pending m ≡ true
    → p.progress.is_done ≡ false → SoundStore (complete m (with_part_at p (finished p.progress) s))
settled_sound p m s k there of pending undone =
    let q : Progress = finished p.progress in
    let e : Store = with_part_at p q s in
    let ms = messages_in s in
    let own : m.id ≡ p.id = found_key message_key p.id m ms of in
    let found : message_at m.id ms ≡ Some m = message_own p.id m s of in
    let rows : AreRows (λ x. ¬ (x.id ≡ p.id) → StatesItsParts (parts_in e) x) (messages_in e) (parts_in e) (priorities_in e) =
    finished_rows ms (parts_in s) (priorities_in s) p q (rows_are ms (parts_in s) (priorities_in s) k.messages) there in
    let consistent : IsConsistent e = part_far_consistent p q s k.consistent there (λ t. absurd cc) in
    let times : Times e = record { now = k.times.now; start = k.times.start; submitted = k.times.submitted; given = k.times.given; made = k.times.made } in
    cond_both (all_done m.id (parts_in e)) (end Delivered m e) e SoundStore
    (λ t. end_sound Delivered m e (record {
      consistent = consistent;
      rows = rows_map (λ x. ¬ (x.id ≡ p.id) → StatesItsParts (parts_in e) x) (λ x. ¬ (x.id ≡ m.id) → StatesItsParts (parts_in e) x) e rows (λ x among told ne. told (λ i. ne (i ∙ sym own)));
      told = sym t;
      reports = k.reports;
      splits = k.splits;
      bars = k.bars;
      setup = k.setup;
      times = times;
      there = found;
      pending = pending;
    }))
    (λ t. record {
      consistent = consistent;
      messages = rows_sound ms (parts_in e) (priorities_in s)
          (rows_map (λ x. ¬ (x.id ≡ p.id) → StatesItsParts (parts_in e) x) (StatesItsParts (parts_in e)) e rows (λ x among told. ⊎_elim
          (λ (i : m.id ≡ x.id).
          let same : m ≡ x = found_message m x ms k.messages.message_keys found among i in
          subst (λ (y : MessageRow). StatesItsParts (parts_in e) y) same (pending_undelivered m.state pending ∙ sym t))
          (λ (ne : m.id ≡ x.id → ⊥). told (λ i. ne (own ∙ sym i)))
          (cases_eq m.id x.id)));
      reports = k.reports;
      splits = k.splits;
      bars = k.bars;
      setup = k.setup;
      times = times;
    })

-- ---- a message ends with a part undone

pub part_end_sound : (f : FinalState) (m : MessageRow) (s : Store) → SoundStore s → message_at m.id (messages_in s) ≡ Some m → is_pending m ≡ true → is_delivered (Some f) ≡ false → SoundStore (end f m s)
part_end_sound f m s k there pending partly =
    let rows = rows_are (messages_in s) (parts_in s) (priorities_in s) k.messages in
    end_sound f m s (record {
      consistent = k.consistent;
      rows = rows_map (StatesItsParts (parts_in s)) (λ x. ¬ (x.id ≡ m.id) → StatesItsParts (parts_in s) x) s rows (λ x among told ne. told);
      told = partly ∙ sym (pending_undelivered m.state pending) ∙ rows.told m (found_among message_key m.id m (messages_in s) there);
      reports = k.reports;
      splits = k.splits;
      bars = k.bars;
      setup = k.setup;
      times = k.times;
      there = there;
      pending = pending;
    })

pub later_sound : (n : ℕ) (s : Store) → SoundStore s → s.moment ≤ n → IsMoment n → SoundStore (record s { moment = n })
later_sound n s k past is = record {
  consistent = later_consistent n s k.consistent;
  messages = k.messages;
  reports = k.reports;
  splits = k.splits;
  bars = k.bars;
  setup = k.setup;
  times = record {
    now = is;
    start = (let l = k.times.start in omega (arith, l, past));
    submitted = λ m among. let t = k.times.submitted m among in (t.0, (let l = t.1 in omega (arith, l, past)));
    given = λ r among. let t = k.times.given r among in (t.0, (let l = t.1 in omega (arith, l, past)));
    made = λ r among. let t = k.times.made r among in (t.0, (let l = t.1 in omega (arith, l, past)));
  };
}
