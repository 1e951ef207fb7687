-- What is represented after a move of the rows.
use Rattle.std.proofs.Common.{◌≡◌, ℕ, ◌≤◌, List, Bool, true, false, Option, Some, refl, sym, ◌∙◌, ap, subst, ⊎_elim}
use Rattle.std.specs.Prelude.{◌&&◌, max, nat_le, not}
use Rattle.sms_base.specs.declared.final_state.FinalState.{FinalState}
use Rattle.sms_base.specs.declared.originator.Originator.{Originator}
use Rattle.sms_base.specs.declared.originator.Originator.TheVariants.{Application, Handset}
use Rattle.sms_base.specs.Msisdn.{IsMsisdn}
use Rattle.sms_rows.specs.table.Table.{put, row_at}
use Rattle.sms_rows.proofs.table.Tables.{found_among}
use Rattle.sms_centre_rows.specs.declared.messages.message.MessageRow.{MessageRow}
use Rattle.sms_centre_rows.specs.declared.messages.part.PartRow.{PartRow}
use Rattle.sms_centre_rows.specs.messages.Messages.{amend_part, ended, is_pending, message_at, message_key, part_key, part_reaching, put_message}
use Rattle.sms_centre_rows.specs.messages.PartEntries.{Few}
use Rattle.sms_centre_messages.specs.message_index.MessageIndex.{MessageIndexDraftOf as MessagesOf, DraftRepresents as RepresentsMessages}
use Rattle.sms_centre_rows.specs.declared.reports.report.ReportKind.{ReportKind}
use Rattle.sms_centre_rows.specs.declared.reports.report.ReportKind.TheVariants.{Status}
use Rattle.sms_centre_rows.specs.declared.reports.report.ReportRow.{ReportRow}
use Rattle.sms_centre_rows.specs.reports.Reports.{amend_report, is_status, next_place, put_report, report_made, report_of}
use Rattle.sms_centre_rows.specs.reports.Waiting.{IsReportApart}
use Rattle.sms_centre_reports.specs.open_reports.Entries.{account_in, account_of}
use Rattle.sms_centre_reports.specs.open_reports.OpenReportsDraft.{OpenReportsDraftOf as ReportsOf, DraftRepresents}
use Rattle.sms_receipt.specs.StatusReports.{status_octets}
use Rattle.sms_centre_rows.specs.declared.waiting.queued_part.QueuedPart.{QueuedPart}
use Rattle.sms_centre_rows.specs.declared.waiting.progress.Progress.{Progress}
use Rattle.sms_centre_rows.specs.declared.waiting.handset.HandsetRow.{HandsetRow}
use Rattle.sms_centre_queue.specs.queue.FreeReferences.{free_references}
use Rattle.sms_centre_rows.specs.waiting.Keys.{queued_key}
use Rattle.sms_centre_rows.specs.waiting.Links.{Links}
use Rattle.sms_centre_rows.specs.waiting.References.{Allocations, give, handset_at, handset_of, handsets_of, next_reference, references_of}
use Rattle.sms_centre_rows.specs.waiting.Revisions.{amended}
use Rattle.sms_centre_rows.specs.waiting.SoundAllocations.{IsNumber}
use Rattle.sms_centre_rows.proofs.waiting.Mentions.{row_fits}
use Rattle.sms_centre_queue.specs.queues.Queues.{DeliveryQueuesDraftOf as QueuesOf, placed_of}
use Rattle.sms_centre_queue.specs.queues.Representing.{DraftRepresents as RepresentsQueues, RepresentsPlaced, Waits}
use Rattle.sms_centre_spec.specs.Draft.{Draft, Store, answer_with, handsets_in, in_store, messages_in, on_links, parts_in, references_in, reports_in, waiting_in, with_message, with_part_at, with_report_at, with_reports}
use Rattle.sms_centre_spec.specs.SoundRows.{HasReportAddress}
use Rattle.sms_centre_spec.specs.declared.answer.CentreAnswer.{CentreAnswer}
use Rattle.sms_centre_spec.specs.CentreEvent.{at_moment}
use Rattle.sms_centre_spec.specs.Ends.{make_report, status_given}
use Rattle.sms_centre_spec.specs.Finals.{final_of}
use Rattle.sms_centre_draft.specs.Room.{free_for}
use Rattle.sms_centre_spec.specs.Submitting.{reference_for}
use Rattle.sms_centre_spec.proofs.NextNumbers.{among_amended, no_report}
use Rattle.sms_centre_spec.proofs.SteadyTimes.{report_none}
use Rattle.sms_centre_spec.proofs.StagesConsistent.{CanReport, can_report, later_consistent, next_is_new, part_far_consistent, quiet_consistent, report_far_consistent, status_consistent}
use Rattle.sms_centre_draft.specs.Stages.{IsUnreported}
use Rattle.sms_centre_draft.specs.CentreDraft.{AreFew, Represents, CentreDraftOf, all_waiting}
use Rattle.sms_centre_draft.proofs.MovesWaiting.{quiet_new_waits, status_new_waits}
use Rattle.sms_centre_draft.proofs.ReportsStill.{ended_told}

-- what waits may be written otherwise
pub queues_alike : (g : Allocations) (links : Links) (w w2 : List ℕ → List QueuedPart) (p : QueuesOf) → RepresentsQueues g links w p → ((n : List ℕ) → w2 n ≡ w n) → RepresentsQueues g links w2 p
queues_alike g links w w2 p represents same = record {
  sound = represents.sound;
  each = λ n d. subst (λ (ls : List QueuedPart). RepresentsPlaced n (handsets_of g) (references_of g) ls links.all (placed_of n p)) (sym (same n)) (represents.each n d);
  named = represents.named;
  next_place = represents.next_place;
  handsets = represents.handsets;
  references = represents.references;
  frames = represents.frames;
  link_count = represents.link_count;
  digits = represents.digits;
  apart = represents.apart;
  indexed = represents.indexed;
}

-- ---- a message ends

pub ended_represented : (d : Draft) (w : CentreDraftOf) (m : MessageRow) (f : FinalState) (messages : MessagesOf) (queues : QueuesOf) → Represents d w → message_at m.id (messages_in d.store) ≡ Some m → is_pending m ≡ true
    → RepresentsMessages messages (put_message (ended f w.moment m) d.store.messages)
    → RepresentsQueues d.store.allocations d.links (all_waiting (with_message (ended f d.store.moment m) d.store)) queues
    → Represents (in_store (with_message (ended f d.store.moment m) d.store) d) (record w { messages = messages; queues = queues })
ended_represented d w m f messages queues represents there pending kept placed = record {
  consistent = (can_report f m d.store represents.consistent there pending).consistent;
  few = represents.few;
  setup = represents.setup;
  moment = represents.moment;
  messages = subst (λ (n : ℕ). RepresentsMessages messages (put_message (ended f n m) d.store.messages)) represents.moment kept;
  queues = placed;
  reports = ended_told (messages_in d.store) m f d.store.moment w.reports d.store.reports there represents.reports;
  bindings = represents.bindings;
  answer = represents.answer;
}

-- then it can be told
pub can_tell : (f : FinalState) (m : MessageRow) (s : Store) → CanReport f s.moment m (with_message (ended f s.moment m) s) → IsUnreported f m (with_message (ended f s.moment m) s)
can_tell f m s can = record { there = can.there; none = no_report m.id (reports_in s) can.none }

tells_report : (f : FinalState) (m : MessageRow) (d : Draft) (w : CentreDraftOf) → Represents d w → IsUnreported f m d.store → CanReport f d.store.moment m d.store
tells_report f m d w represents can = record {
  consistent = represents.consistent;
  there = can.there;
  none = λ r among own. report_none m.id r (reports_in d.store) can.none among own;
}

-- ---- it is told

made_is_new : (id : ℕ) (kind : ReportKind) (closed : Bool) (f : FinalState) (n : ℕ) (m : MessageRow) (s : Store) → CanReport f n m s → m.id ≡ id
    → IsReportApart (reports_in s) (record { place = next_place (reports_in s); id = id; kind = kind; made = s.moment; progress = record { is_done = closed; attempts = 0; due = s.moment } })
made_is_new id kind closed f n m s can own =
    next_is_new (record { place = next_place (reports_in s); id = id; kind = kind; made = s.moment; progress = record { is_done = closed; attempts = 0; due = s.moment } })
    (reports_in s) can.consistent.held.report_keys (λ x among e. can.none x among (e ∙ sym own)) refl

pub quiet_represented : (d : Draft) (w : CentreDraftOf) (m : MessageRow) (f : FinalState) (kind : ReportKind) (closed : Bool) (reports : ReportsOf) → Represents d w → IsUnreported f m d.store → is_status kind ≡ false
    → DraftRepresents (messages_in d.store) reports (report_made m.id kind closed w.moment d.store.reports)
    → Represents (in_store (make_report m.id kind closed d.store) d) (record w { reports = reports })
quiet_represented d w m f kind closed reports represents can quiet tells =
    let report = tells_report f m d w represents can in
    let r : ReportRow = record { place = next_place (reports_in d.store); id = m.id; kind = kind; made = d.store.moment; progress = record { is_done = closed; attempts = 0; due = d.store.moment } } in
    record {
      consistent = quiet_consistent f d.store.moment m kind closed d.store report quiet;
      few = represents.few;
      setup = represents.setup;
      moment = represents.moment;
      messages = represents.messages;
      queues = queues_alike d.store.allocations d.links (all_waiting d.store) (all_waiting (make_report m.id kind closed d.store)) w.queues represents.queues
          (quiet_new_waits d.store r represents.consistent.held (made_is_new m.id kind closed f d.store.moment m d.store report refl) can.none (closed_one kind closed quiet));
      reports = subst (λ (n : ℕ). DraftRepresents (messages_in d.store) reports (report_made m.id kind closed n d.store.reports)) represents.moment tells;
      bindings = represents.bindings;
      answer = represents.answer;
    }
  where
    closed_one : (kind : ReportKind) (closed : Bool) → is_status kind ≡ false → (is_status kind && not closed) ≡ false
    closed_one kind closed e = ap (λ (b : Bool). b && not closed) e

-- the account of an application's message
pub account_told : (f : FinalState) (m : MessageRow) (account : List ℕ) (s : Store) → IsUnreported f m s → m.originator ≡ Application account → account_in (message_at m.id (messages_in s)) ≡ Some account
account_told f m account s can is = ap (λ (o : Option MessageRow). account_in o) can.there ∙ ap (λ (o : Originator). account_of o) is

-- the handset that submitted a message which ended has a number
pub told_number : (f : FinalState) (m : MessageRow) (n : ℕ) (d : Draft) (w : CentreDraftOf) → Represents d w → IsUnreported f m d.store → m.originator ≡ Handset n → IsNumber m.source.digits
told_number f m n d w represents can is =
    subst (λ (o : Originator). HasReportAddress o m.source) is (represents.consistent.report_addresses (ended f d.store.moment m) (found_among message_key m.id (ended f d.store.moment m) (messages_in d.store) can.there))

-- the next reference of the handset, as the queues tell it
pub next_told : (number : List ℕ) (o : Option ℕ) (d : Draft) (w : CentreDraftOf) → Represents d w → o ≡ next_reference (handset_of number (handsets_in d.store)) (all_waiting d.store number) (references_in d.store) w.moment
    → reference_for (handset_of number (handsets_in d.store)) d.store ≡ o
next_told number o d w represents is =
    let h : HandsetRow = handset_of number (handsets_in d.store) in
    let fits = row_fits number (handsets_in d.store) (handset_at number (handsets_in d.store)) represents.consistent.held.allocations.handset_keys represents.consistent.held.allocations.apart refl in
    ap (λ (n : List ℕ). next_reference h (waiting_in n d.store) (references_in d.store) d.store.moment) fits.1
    ∙ ap (λ (n : ℕ). next_reference h (all_waiting d.store number) (references_in d.store) n) (sym represents.moment) ∙ sym is

-- whether so many are free, as the queues tell it
pub free_told : (number : List ℕ) (parts : ℕ) (b : Bool) (d : Draft) (w : CentreDraftOf) → Represents d w
    → b ≡ nat_le parts (free_references (handset_of number (handsets_in d.store)) (all_waiting d.store number) (references_in d.store) w.moment) → b ≡ nat_le parts (free_for number d.store)
free_told number parts b d w represents is =
    is ∙ ap (λ (n : ℕ). nat_le parts (free_references (handset_of number (handsets_in d.store)) (all_waiting d.store number) (references_in d.store) n)) represents.moment

-- a status report is made, and waits for the handset that submitted the message
status_row : FinalState → MessageRow → ℕ → Store → ReportRow
status_row f m reference s = record {
  place = next_place (reports_in s);
  id = m.id;
  kind = Status reference (status_octets (final_of f s.moment m));
  made = s.moment;
  progress = record { is_done = false; attempts = 0; due = s.moment };
}

pub status_made_waits : (f : FinalState) (m : MessageRow) (reference : ℕ) (d : Draft) (w : CentreDraftOf) → Represents d w → IsUnreported f m d.store
    → Waits m.source.digits (put queued_key (record { id = m.id; number = 0; reference = reference; priority = 0; due = w.moment })) (all_waiting d.store)
    (all_waiting (status_given f m (handset_of m.source.digits (handsets_in d.store)) (Some reference) d.store))
unfolding status_row
status_made_waits f m reference d w represents can =
    let s : Store = d.store in
    let r : ReportRow = status_row f m reference s in
    subst (λ (n : ℕ). Waits m.source.digits (put queued_key (record { id = m.id; number = 0; reference = reference; priority = 0; due = n })) (all_waiting s) (all_waiting (with_reports (put_report r s.reports) s))) (sym represents.moment)
    (status_new_waits s r (ended f s.moment m) represents.consistent.held
    (made_is_new m.id (Status reference (status_octets (final_of f s.moment m))) false f s.moment m s (tells_report f m d w represents can) refl) can.none can.there refl)

pub status_represented : (d : Draft) (w : CentreDraftOf) (m : MessageRow) (f : FinalState) (n reference : ℕ) (reports : ReportsOf) (queues : QueuesOf) → Represents d w → IsUnreported f m d.store → m.originator ≡ Handset n
    → reference_for (handset_of m.source.digits (handsets_in d.store)) d.store ≡ Some reference
    → DraftRepresents (messages_in d.store) reports (report_made m.id (Status reference (status_octets (final_of f w.moment m))) false w.moment d.store.reports)
    → RepresentsQueues (give (handset_of m.source.digits (handsets_in d.store)) reference w.moment d.store.allocations) d.links
    (all_waiting (status_given f m (handset_of m.source.digits (handsets_in d.store)) (Some reference) d.store)) queues
    → Represents (in_store (status_given f m (handset_of m.source.digits (handsets_in d.store)) (Some reference) d.store) d) (record w { reports = reports; queues = queues })
status_represented d w m f n reference reports queues represents can is next tells placed = record {
  consistent = status_consistent f d.store.moment m (Some reference) d.store (tells_report f m d w represents can) (told_number f m n d w represents can is) next;
  few = represents.few;
  setup = represents.setup;
  moment = represents.moment;
  messages = represents.messages;
  queues = subst (λ (x : ℕ). RepresentsQueues (give (handset_of m.source.digits (handsets_in d.store)) reference x d.store.allocations) d.links
      (all_waiting (status_given f m (handset_of m.source.digits (handsets_in d.store)) (Some reference) d.store)) queues) represents.moment placed;
  reports = subst (λ (x : ℕ). DraftRepresents (messages_in d.store) reports (report_made m.id (Status reference (status_octets (final_of f x m))) false x d.store.reports)) represents.moment tells;
  bindings = represents.bindings;
  answer = represents.answer;
}

-- ---- a part is so far

few_far : (p : PartRow) (q : Progress) (ps : List PartRow) → AreFew ps → AreFew (amended part_key part_reaching (part_key p) q ps)
few_far p q ps few x among =
    let g = among_amended part_key part_reaching (part_key p) q x ps among in
    ⊎_elim
    (λ (e : x ≡ g.0). subst (λ (y : PartRow). y.number ≤ 20) (sym e) (few g.0 g.1.0))
    (λ (e : (part_key g.0 ≡ part_key p) × (x ≡ part_reaching q g.0)). subst (λ (y : PartRow). y.number ≤ 20) (sym e.1) (few g.0 g.1.0))
    g.1.1

pub part_far_represented : (d : Draft) (w : CentreDraftOf) (p : PartRow) (q : Progress) (messages : MessagesOf) (queues : QueuesOf) → Represents d w → row_at part_key (part_key p) (parts_in d.store) ≡ Some p
    → (q.is_done ≡ false → p.progress.is_done ≡ false)
    → RepresentsMessages messages (amend_part p q d.store.messages)
    → RepresentsQueues d.store.allocations d.links (all_waiting (with_part_at p q d.store)) queues
    → Represents (in_store (with_part_at p q d.store) d) (record w { messages = messages; queues = queues })
part_far_represented d w p q messages queues represents there done kept placed = record {
  consistent = part_far_consistent p q d.store represents.consistent there done;
  few = few_far p q (parts_in d.store) represents.few;
  setup = represents.setup;
  moment = represents.moment;
  messages = kept;
  queues = placed;
  reports = represents.reports;
  bindings = represents.bindings;
  answer = represents.answer;
}

-- ---- a report is so far

pub report_far_represented : (d : Draft) (w : CentreDraftOf) (r : ReportRow) (q : Progress) (reports : ReportsOf) (queues : QueuesOf) → Represents d w → report_of r.id (reports_in d.store) ≡ Some r
    → (q.is_done ≡ false → r.progress.is_done ≡ false)
    → DraftRepresents (messages_in d.store) reports (amend_report r q d.store.reports)
    → RepresentsQueues d.store.allocations d.links (all_waiting (with_report_at r q d.store)) queues
    → Represents (in_store (with_report_at r q d.store) d) (record w { reports = reports; queues = queues })
report_far_represented d w r q reports queues represents there done tells placed = record {
  consistent = report_far_consistent r q d.store represents.consistent there done;
  few = represents.few;
  setup = represents.setup;
  moment = represents.moment;
  messages = represents.messages;
  queues = placed;
  reports = tells;
  bindings = represents.bindings;
  answer = represents.answer;
}

-- what has no digits has no queue
pub nobody_waits : (number : List ℕ) (f : List QueuedPart → List QueuedPart) (g : Allocations) (links : Links) (w w2 : List ℕ → List QueuedPart) (p : QueuesOf) → ¬ IsMsisdn number → RepresentsQueues g links w p → Waits number f w w2 → RepresentsQueues g links w2 p
nobody_waits number f g links w w2 p not_digits represents waits = record {
  sound = represents.sound;
  each = λ n d. subst (λ (ls : List QueuedPart). RepresentsPlaced n (handsets_of g) (references_of g) ls links.all (placed_of n p)) (sym (waits.1 n (λ e. not_digits (subst IsMsisdn (sym e) d)))) (represents.each n d);
  named = represents.named;
  next_place = represents.next_place;
  handsets = represents.handsets;
  references = represents.references;
  frames = represents.frames;
  link_count = represents.link_count;
  digits = represents.digits;
  apart = represents.apart;
  indexed = represents.indexed;
}

-- ---- the links are others

pub aired_represented : (d : Draft) (w : CentreDraftOf) (links : Links) (queues : QueuesOf) → Represents d w → RepresentsQueues d.store.allocations links (all_waiting d.store) queues → Represents (on_links links d) (record w { queues = queues })
aired_represented d w links queues represents placed = record {
  consistent = represents.consistent;
  few = represents.few;
  setup = represents.setup;
  moment = represents.moment;
  messages = represents.messages;
  queues = placed;
  reports = represents.reports;
  bindings = represents.bindings;
  answer = represents.answer;
}

pub few_parts : (d : Draft) (w : CentreDraftOf) → Represents d w → Few (parts_in d.store)
few_parts d w represents = record {
  keys = represents.consistent.held.parts.keys;
  numbers = λ p among. ((represents.consistent.held.parts.numbers p among).0, represents.few p among);
}

-- ---- time goes on

pub later_represented : (d : Draft) (w : CentreDraftOf) (now moment : ℕ) → Represents d w → moment ≡ max w.moment now → Represents (at_moment now d) (record w { moment = moment })
later_represented d w now moment represents is = record {
  consistent = later_consistent (max d.store.moment now) d.store represents.consistent;
  few = represents.few;
  setup = represents.setup;
  moment = is ∙ ap (λ (n : ℕ). max n now) represents.moment;
  messages = represents.messages;
  queues = represents.queues;
  reports = represents.reports;
  bindings = represents.bindings;
  answer = represents.answer;
}

-- ---- an application is answered

pub answered_represented : (d : Draft) (w : CentreDraftOf) (answer : CentreAnswer) → Represents d w → Represents (answer_with answer d) (record w { answer = Some answer })
answered_represented d w answer represents = record {
  consistent = represents.consistent;
  few = represents.few;
  setup = represents.setup;
  moment = represents.moment;
  messages = represents.messages;
  queues = represents.queues;
  reports = represents.reports;
  bindings = represents.bindings;
  answer = refl;
}
