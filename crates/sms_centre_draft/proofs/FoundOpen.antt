-- What a transfer was for is found by what is kept in memory.
use Rattle.std.proofs.Common.{◌≡◌, ℕ, List, Bool, true, false, Option, Some, None, refl, sym, ◌∙◌, ap, subst, ⊎_elim}
use Rattle.std.specs.Prelude.{◌&&◌, ◌||◌, not, is_some}
use Rattle.std.proofs.lemmas.Bool.{and_from, and_parts, cases_Bool, cond-false, cond-true, not-true}
use Rattle.sms_base.specs.declared.holder.Holder.TheVariants.{Part, Report}
use Rattle.sms_link.specs.declared.ending.Ending.{Ending}
use Rattle.sms_rows.specs.table.Keys.{pair_key}
use Rattle.sms_rows.specs.index.Picked.{pick_of}
use Rattle.sms_centre_rows.specs.declared.messages.message.MessageRow.{MessageRow}
use Rattle.sms_centre_rows.specs.declared.messages.part.PartRow.{PartRow}
use Rattle.sms_centre_rows.specs.declared.messages.parts.PartEntry.{PartEntry}
use Rattle.sms_centre_rows.specs.messages.Messages.{is_pending, message_at, part_at}
use Rattle.sms_centre_rows.specs.messages.OpenParts.{is_open_part}
use Rattle.sms_centre_rows.specs.messages.PartEntries.{part_entry}
use Rattle.sms_centre_messages.specs.message_index.MessageIndex.{found_part}
use Rattle.sms_centre_rows.specs.declared.reports.report.ReportKind.{ReportKind}
use Rattle.sms_centre_rows.specs.declared.reports.report.ReportKind.TheVariants.{Receipt, Status, Unsent}
use Rattle.sms_centre_rows.specs.declared.reports.report.ReportRow.{ReportRow}
use Rattle.sms_centre_rows.specs.reports.Reports.{is_open_receipt, is_open_status, is_receipt, is_status, report_of}
use Rattle.sms_centre_rows.proofs.reports.AllWaiting.{report_found}
use Rattle.sms_centre_reports.specs.declared.open_reports.entry.ReportEntry.{ReportEntry}
use Rattle.sms_centre_reports.specs.open_reports.Entries.{is_open, open_entry, reference_of, report_entry}
use Rattle.sms_centre_spec.specs.declared.verdict.Verdict.{Verdict}
use Rattle.sms_centre_spec.specs.declared.verdict.Verdict.TheVariants.{Late}
use Rattle.sms_centre_spec.specs.Draft.{Draft, Store, in_store, messages_in, on_links, parts_in, reports_in}
use Rattle.sms_centre_spec.specs.Consistent.{IsConsistent}
use Rattle.sms_centre_spec.specs.Transfers.{ended_with, is_open_part_at, is_open_status_at, link_ended, part_ended, part_ended_at, part_ended_of, report_ended, report_ended_at, verdict_of, verdict_on}
use Rattle.sms_centre_spec.proofs.Steady.{part_own, report_own}
use Rattle.sms_centre_draft.specs.Transfers.{IsOpenPart, IsOpenStatus, IsReporting, IsWaiting, waiting_part, waiting_status}

-- ---- parts

pub no_part_open : (id number : ℕ) (s : Store) → None ≡ found_part (part_at id number (parts_in s)) → is_open_part_at (part_at id number (parts_in s)) s ≡ false
no_part_open id number s e = by (part_at id number (parts_in s)) e where
  by : (o : Option PartRow) → None ≡ found_part o → is_open_part_at o s ≡ false
  by None f = refl
  by (Some p) f = absurd cc

one_entry : (o : Option PartRow) (entry : PartEntry) → Some entry ≡ found_part o → (p : PartRow) × ((o ≡ Some p) × (part_entry p ≡ entry))
one_entry None entry e = absurd cc
one_entry (Some p) entry e = let same : part_entry p ≡ entry = cc in (p, (refl, same))

part_with : (id number : ℕ) (s : Store) (p : PartRow) (entry : PartEntry) (o : Option MessageRow) → part_at id number (parts_in s) ≡ Some p → part_entry p ≡ entry → message_at p.id (messages_in s) ≡ o
    → IsOpenPart id number s (waiting_part entry o)
part_with id number s p entry None there is of =
    ap (λ (o : Option PartRow). is_open_part_at o s) there ∙ ap (λ (o : Option MessageRow). is_open_part p o) of
part_with id number s p entry (Some m) there is of = ⊎_elim
    (λ (t : (not entry.progress.is_done && is_pending m) ≡ true).
    let parts = and_parts (not entry.progress.is_done) (is_pending m) t in
    let undone : p.progress.is_done ≡ false = ap (λ (e : PartEntry). e.progress.is_done) is ∙ not-true entry.progress.is_done parts.0 in
    let found : (q : PartRow) × IsWaiting id number entry m s q = (
      p,
      record {
        part = there;
        own = part_own (pair_key id number) p s there;
        entry_is = is;
        message = of;
        pending = parts.1;
        undone = undone;
      },
    ) in
    subst (λ (o : Option (PartEntry × MessageRow)). IsOpenPart id number s o) (sym (cond-true (not entry.progress.is_done && is_pending m) (Some (entry, m)) None t)) found)
    (λ (t : (not entry.progress.is_done && is_pending m) ≡ false).
    let none : is_open_part_at (part_at id number (parts_in s)) s ≡ false =
    ap (λ (o : Option PartRow). is_open_part_at o s) there ∙ ap (λ (o : Option MessageRow). is_open_part p o) of
    ∙ ap (λ (e : PartEntry). not e.progress.is_done && is_pending m) is ∙ t in
    subst (λ (o : Option (PartEntry × MessageRow)). IsOpenPart id number s o) (sym (cond-false (not entry.progress.is_done && is_pending m) (Some (entry, m)) None t)) none)
    (cases_Bool (not entry.progress.is_done && is_pending m))

pub found_open_part : (id number : ℕ) (s : Store) (entry : PartEntry) (o : Option MessageRow) → Some entry ≡ found_part (part_at id number (parts_in s)) → o ≡ message_at entry.id (messages_in s)
    → IsOpenPart id number s (waiting_part entry o)
found_open_part id number s entry o e of =
    let f = one_entry (part_at id number (parts_in s)) entry e in
    part_with id number s f.0 entry o f.1.0 f.1.1 (ap (λ (x : PartEntry). message_at x.id (messages_in s)) f.1.1 ∙ sym of)

-- ---- status reports

closed_report : (r : ReportRow) → is_open r ≡ false → is_open_status r ≡ false
closed_report r e = by (is_open_receipt r) (is_open_status r) e where
  by : (a b : Bool) → (a || b) ≡ false → b ≡ false
  by true b f = absurd cc
  by false b f = f

pub no_status_open : (id : ℕ) (s : Store) → None ≡ pick_of open_entry (report_of id (reports_in s)) → is_open_status_at (report_of id (reports_in s)) ≡ false
no_status_open id s e = by (report_of id (reports_in s)) e where
  by : (o : Option ReportRow) → None ≡ pick_of open_entry o → is_open_status_at o ≡ false
  by None f = refl
  by (Some r) f = ⊎_elim
      (λ (t : is_open r ≡ true). let bad : None ≡ Some (report_entry r) = f ∙ cond-true (is_open r) (Some (report_entry r)) None t in absurd cc)
      (λ (t : is_open r ≡ false). closed_report r t)
      (cases_Bool (is_open r))

-- the entry of an open report
one_report : (o : Option ReportRow) (entry : ReportEntry) → Some entry ≡ pick_of open_entry o → (r : ReportRow) × ((o ≡ Some r) × (entry ≡ report_entry r) × (is_open r ≡ true))
one_report None entry e = absurd cc
one_report (Some r) entry e = ⊎_elim
    (λ (t : is_open r ≡ true).
    let same : Some entry ≡ Some (report_entry r) = e ∙ cond-true (is_open r) (Some (report_entry r)) None t in
    let is : entry ≡ report_entry r = cc in
    let found : (x : ReportRow) × ((Some r ≡ Some x) × (entry ≡ report_entry x) × (is_open x ≡ true)) = (r, (refl, is, t)) in found)
    (λ (t : is_open r ≡ false). let bad : Some entry ≡ None = e ∙ cond-false (is_open r) (Some (report_entry r)) None t in absurd cc)
    (cases_Bool (is_open r))

referred : (k : ReportKind) → is_some (reference_of k) ≡ is_status k
referred Receipt = refl
referred (Status reference tpdu) = refl
referred Unsent = refl

open_one : (k : ReportKind) (b : Bool) → is_status k ≡ true → ((is_receipt k && not b) || (is_status k && not b)) ≡ true → (is_status k && not b) ≡ true
open_one Receipt b e f = absurd cc
open_one (Status reference tpdu) b e f = f
open_one Unsent b e f = absurd cc

status_with : (id : ℕ) (s : Store) (r : ReportRow) (entry : ReportEntry) (o : Option MessageRow) → IsConsistent s → report_of id (reports_in s) ≡ Some r → entry ≡ report_entry r → is_open r ≡ true → message_at r.id (messages_in s) ≡ o
    → IsOpenStatus id s (waiting_status entry o)
status_with id s r entry None consistent there is waits of =
    let m = consistent.reports r (report_found id r (reports_in s) there).0 in
    let bad : None ≡ Some m.0 = sym of ∙ m.1.0 in absurd cc
status_with id s r entry (Some m) consistent there is waits of = ⊎_elim
    (λ (t : is_some entry.reference ≡ true).
    let status : is_status r.kind ≡ true = sym (referred r.kind) ∙ ap (λ (e : ReportEntry). is_some e.reference) (sym is) ∙ t in
    let found : (x : ReportRow) × IsReporting id entry m s x = (
      r,
      record {
        report = there;
        own = report_own id r s there;
        entry_is = is;
        waits = open_one r.kind r.progress.is_done status waits;
        message = of;
      },
    ) in
    subst (λ (o : Option (ReportEntry × MessageRow)). IsOpenStatus id s o) (sym (cond-true (is_some entry.reference) (Some (entry, m)) None t)) found)
    (λ (t : is_some entry.reference ≡ false).
    let status : is_status r.kind ≡ false = sym (referred r.kind) ∙ ap (λ (e : ReportEntry). is_some e.reference) (sym is) ∙ t in
    let none : is_open_status_at (report_of id (reports_in s)) ≡ false =
    ap (λ (o : Option ReportRow). is_open_status_at o) there ∙ ap (λ (b : Bool). b && not r.progress.is_done) status in
    subst (λ (o : Option (ReportEntry × MessageRow)). IsOpenStatus id s o) (sym (cond-false (is_some entry.reference) (Some (entry, m)) None t)) none)
    (cases_Bool (is_some entry.reference))

pub found_open_status : (id : ℕ) (s : Store) (entry : ReportEntry) (o : Option MessageRow) → IsConsistent s → Some entry ≡ pick_of open_entry (report_of id (reports_in s)) → o ≡ message_at entry.id (messages_in s)
    → IsOpenStatus id s (waiting_status entry o)
found_open_status id s entry o consistent e of =
    let f = one_report (report_of id (reports_in s)) entry e in
    status_with id s f.0 entry o consistent f.1.0 f.1.1 f.1.2 (ap (λ (x : ReportEntry). message_at x.id (messages_in s)) (sym f.1.1) ∙ sym of)

-- ---- what an open status report is

pub open_is_status : (r : ReportRow) → is_open_status r ≡ true → is_status r.kind ≡ true
open_is_status r e = (and_parts (is_status r.kind) (not r.progress.is_done) e).0

pub open_undone : (r : ReportRow) → is_open_status r ≡ true → r.progress.is_done ≡ false
open_undone r e = not-true r.progress.is_done (and_parts (is_status r.kind) (not r.progress.is_done) e).1

-- ---- how what waits ends

pub part_ends : (d : Draft) (handset : List ℕ) (id number : ℕ) (ending : Ending) (entry : PartEntry) (m : MessageRow) (p : PartRow) → IsWaiting id number entry m d.store p
    → ended_with (verdict_on (Part id number) ending d.store) handset (Part id number) d ≡ on_links (link_ended (verdict_of ending) handset d.links) (in_store (part_ended (verdict_of ending) p m d.store) d)
part_ends d handset id number ending entry m p waits =
    let s : Store = d.store in
    let v : Verdict = verdict_of ending in
    let is : is_open_part_at (part_at id number (parts_in s)) s ≡ true =
    ap (λ (o : Option PartRow). is_open_part_at o s) waits.part ∙ ap (λ (o : Option MessageRow). is_open_part p o) waits.message
    ∙ and_from (not p.progress.is_done) (is_pending m) (ap (λ (b : Bool). not b) waits.undone) waits.pending in
    ap (λ (x : Verdict). ended_with x handset (Part id number) d) (cond-true (is_open_part_at (part_at id number (parts_in s)) s) v Late is)
    ∙ ap (λ (o : Option PartRow). on_links (link_ended v handset d.links) (in_store (part_ended_at v o s) d)) waits.part
    ∙ ap (λ (o : Option MessageRow). on_links (link_ended v handset d.links) (in_store (part_ended_of v p o s) d)) waits.message

pub status_ends : (d : Draft) (handset : List ℕ) (id : ℕ) (ending : Ending) (entry : ReportEntry) (m : MessageRow) (r : ReportRow) → IsReporting id entry m d.store r
    → ended_with (verdict_on (Report id) ending d.store) handset (Report id) d ≡ on_links (link_ended (verdict_of ending) handset d.links) (in_store (report_ended (verdict_of ending) r d.store) d)
status_ends d handset id ending entry m r tells =
    let s : Store = d.store in
    let v : Verdict = verdict_of ending in
    let is : is_open_status_at (report_of id (reports_in s)) ≡ true = ap (λ (o : Option ReportRow). is_open_status_at o) tells.report ∙ tells.waits in
    ap (λ (x : Verdict). ended_with x handset (Report id) d) (cond-true (is_open_status_at (report_of id (reports_in s))) v Late is)
    ∙ ap (λ (o : Option ReportRow). on_links (link_ended v handset d.links) (in_store (report_ended_at v o s) d)) tells.report
