-- Rows that a centre can stand on, in the middle of an event: from sound rows, and to sound rows. And how a message ends there.
use Rattle.std.proofs.Common.{◌≡◌, ℕ, ◌≤◌, List, [], ◌∷◌, Option, Some, refl, sym, ◌∙◌, ap, inl, inr, ⊎_elim, arith}
use Rattle.std.specs.Prelude.{is_none, max}
use Rattle.sms_base.specs.Among.{Among}
use Rattle.sms_base.specs.declared.final_state.FinalState.{FinalState}
use Rattle.sms_base.specs.TimeStamp.{IsMoment}
use Rattle.sms_rows.specs.table.Table.{Rises, row_at}
use Rattle.sms_rows.proofs.table.Tables.{among_found}
use Rattle.sms_centre_rows.specs.declared.messages.message.MessageRow.{MessageRow}
use Rattle.sms_centre_rows.specs.messages.Bars.{bar_key}
use Rattle.sms_centre_rows.specs.messages.OpenParts.{Numbered}
use Rattle.sms_centre_rows.specs.messages.SoundMessages.{SoundMessages}
use Rattle.sms_centre_rows.specs.declared.reports.report.ReportRow.{ReportRow}
use Rattle.sms_centre_rows.specs.reports.Reports.{report_key}
use Rattle.sms_centre_rows.specs.reports.SoundReports.{SoundReports}
use Rattle.sms_centre_rows.specs.reports.Waiting.{Alone}
use Rattle.sms_centre_rows.specs.declared.waiting.reference.ReferenceRow.{ReferenceRow}
use Rattle.sms_centre_spec.specs.declared.rows.Rows.{Rows}
use Rattle.sms_centre_spec.specs.CentreEvent.{after_messages, after_references, after_reports, moment_of}
use Rattle.sms_centre_spec.specs.Draft.{Store, bars_in, messages_in, parts_in, priorities_in, references_in, reports_in, rows_of, store_of}
use Rattle.sms_centre_spec.specs.SoundRows.{AreSplitApart, IsSetup, IsSound}
use Rattle.sms_centre_spec.specs.Consistent.{IsConsistent}

-- ---- moments of rows are past, and of the years that time stamps write

abbrev pub IsPast : ℕ → ℕ → Type 0
IsPast now n = IsMoment n × (n ≤ now)

pub record Times (s : Store) : Type 0 where
  pub now : IsMoment s.moment
  pub start : s.setup.start ≤ s.moment
  pub submitted : (m : MessageRow) → Among m (messages_in s) → IsPast s.moment m.submitted
  pub given : (r : ReferenceRow) → Among r (references_in s) → IsPast s.moment r.last
  pub made : (r : ReportRow) → Among r (reports_in s) → IsPast s.moment r.made

pub record SoundStore (s : Store) : Type 0 where
  pub consistent : IsConsistent s
  pub messages : SoundMessages (messages_in s) (parts_in s) (priorities_in s)
  pub reports : SoundReports (messages_in s) (reports_in s)
  pub splits : AreSplitApart (messages_in s)
  pub bars : Rises bar_key (bars_in s)
  pub setup : IsSetup s.setup
  pub times : Times s

-- ---- from sound rows

upto_messages : (n moment : ℕ) (ms : List MessageRow) → after_messages n ms ≤ moment → (n ≤ moment) × ((m : MessageRow) → Among m ms → m.submitted ≤ moment)
upto_messages n moment [] h = (h, λ m among. absurd among)
upto_messages n moment (x ∷ xs) h =
    let rest = upto_messages (max n x.submitted) moment xs h in
    let front = rest.0 in (
      omega (arith, front),
      λ m among. ⊎_elim
          (λ (e : m ≡ x). let same : m.submitted ≡ x.submitted = ap (λ (y : MessageRow). y.submitted) e in omega (arith, front, same))
          (λ (a : Among m xs). rest.1 m a)
          among,
    )

upto_references : (n moment : ℕ) (rs : List ReferenceRow) → after_references n rs ≤ moment → (n ≤ moment) × ((r : ReferenceRow) → Among r rs → r.last ≤ moment)
upto_references n moment [] h = (h, λ r among. absurd among)
upto_references n moment (x ∷ xs) h =
    let rest = upto_references (max n x.last) moment xs h in
    let front = rest.0 in (
      omega (arith, front),
      λ r among. ⊎_elim
          (λ (e : r ≡ x). let same : r.last ≡ x.last = ap (λ (y : ReferenceRow). y.last) e in omega (arith, front, same))
          (λ (a : Among r xs). rest.1 r a)
          among,
    )

upto_reports : (n moment : ℕ) (rs : List ReportRow) → after_reports n rs ≤ moment → (n ≤ moment) × ((r : ReportRow) → Among r rs → r.made ≤ moment)
upto_reports n moment [] h = (h, λ r among. absurd among)
upto_reports n moment (x ∷ xs) h =
    let rest = upto_reports (max n x.made) moment xs h in
    let front = rest.0 in (
      omega (arith, front),
      λ r among. ⊎_elim
          (λ (e : r ≡ x). let same : r.made ≡ x.made = ap (λ (y : ReportRow). y.made) e in omega (arith, front, same))
          (λ (a : Among r xs). rest.1 r a)
          among,
    )

-- no message has two reports, where each has its own place
pub alone_from : (ms : List MessageRow) (rs : List ReportRow) → SoundReports ms rs → Alone rs
alone_from ms rs s = λ x y a b e.
    let place = s.once x y a b e in
    let same : Some x ≡ Some y = sym (among_found report_key x rs s.keys a) ∙ ap (λ (k : ℕ). row_at report_key k rs) place ∙ among_found report_key y rs s.keys b in cc

pub store_sound : (rows : Rows) (moment : ℕ) → IsSound rows → IsMoment moment → moment_of rows ≤ moment → SoundStore (store_of rows moment)
store_sound rows moment s now past =
    let reports = upto_reports (after_references (after_messages rows.setup.start rows.messages) rows.references) moment rows.reports past in
    let references = upto_references (after_messages rows.setup.start rows.messages) moment rows.references reports.0 in
    let messages = upto_messages rows.setup.start moment rows.messages references.0 in
    let numbered : Numbered rows.parts = record {
      keys = s.messages.part_keys;
      numbers = λ p among. let i = s.messages.each_part p among in (i.first, (let f = i.few in omega (arith, f)));
    } in
    record {
      consistent = record {
        held = record {
          allocations = s.allocations;
          parts = numbered;
          alone = alone_from rows.messages rows.reports s.reports;
          report_keys = s.reports.keys;
          numbers = λ m among. (s.messages.each_message m among).handset;
          waiting = s.waiting;
        };
        message_keys = s.messages.message_keys;
        report_addresses = s.report_addresses;
        parts = λ p among. let i = (s.messages.each_part p among).message in (i.0, i.1.0);
        reports = λ r among.
            let i = (s.reports.each r among).message in
            (i.0, (i.1.0, ap (λ (o : Option FinalState). is_none o) i.1.1.0.1));
      };
      messages = s.messages;
      reports = s.reports;
      splits = s.splits;
      bars = s.bars;
      setup = s.setup;
      times = record {
        now = now;
        start = messages.0;
        submitted = λ m among. (s.times.submitted m among, messages.1 m among);
        given = λ r among. (s.times.given r among, references.1 r among);
        made = λ r among. (s.times.made r among, reports.1 r among);
      };
    }

-- ---- to sound rows

pub rows_are_sound : (s : Store) → SoundStore s → IsSound (rows_of s)
rows_are_sound s k = record {
  setup = k.setup;
  times = record {
    submitted = λ m among. (k.times.submitted m among).0;
    given = λ r among. (k.times.given r among).0;
    made = λ r among. (k.times.made r among).0;
  };
  messages = k.messages;
  report_addresses = k.consistent.report_addresses;
  allocations = k.consistent.held.allocations;
  reports = k.reports;
  waiting = k.consistent.held.waiting;
  splits = k.splits;
  bars = k.bars;
}

last_message : (n moment : ℕ) (ms : List MessageRow) → n ≤ moment → ((m : MessageRow) → Among m ms → m.submitted ≤ moment) → after_messages n ms ≤ moment
last_message n moment [] h f = h
last_message n moment (x ∷ xs) h f = last_message (max n x.submitted) moment xs (let g = f x (inl refl) in omega (arith, h, g)) (λ m among. f m (inr among))

last_reference : (n moment : ℕ) (rs : List ReferenceRow) → n ≤ moment → ((r : ReferenceRow) → Among r rs → r.last ≤ moment) → after_references n rs ≤ moment
last_reference n moment [] h f = h
last_reference n moment (x ∷ xs) h f = last_reference (max n x.last) moment xs (let g = f x (inl refl) in omega (arith, h, g)) (λ m among. f m (inr among))

last_report : (n moment : ℕ) (rs : List ReportRow) → n ≤ moment → ((r : ReportRow) → Among r rs → r.made ≤ moment) → after_reports n rs ≤ moment
last_report n moment [] h f = h
last_report n moment (x ∷ xs) h f = last_report (max n x.made) moment xs (let g = f x (inl refl) in omega (arith, h, g)) (λ m among. f m (inr among))

pub rows_are_past : (s : Store) → SoundStore s → moment_of (rows_of s) ≤ s.moment
rows_are_past s k =
    last_report (after_references (after_messages s.setup.start (messages_in s)) (references_in s)) s.moment (reports_in s)
    (last_reference (after_messages s.setup.start (messages_in s)) s.moment (references_in s)
    (last_message s.setup.start s.moment (messages_in s) k.times.start (λ m among. (k.times.submitted m among).1))
    (λ r among. (k.times.given r among).1))
    (λ r among. (k.times.made r among).1)
