-- Through every event the changes lead from the rows as they were to the rows as they stand.
use Rattle.std.proofs.Common.{◌≡◌, [], refl, sym, ◌∙◌, ap}
use Rattle.sms_rows.proofs.table.SinceLaws.{commits}
use Rattle.sms_centre_rows.specs.messages.Bars.{bar_key}
use Rattle.sms_centre_rows.specs.messages.Messages.{message_key, part_key, part_reaching, priority_key}
use Rattle.sms_centre_rows.specs.reports.Reports.{report_key, report_reaching}
use Rattle.sms_centre_rows.specs.waiting.Keys.{handset_key, reference_key}
use Rattle.sms_centre_rows.proofs.waiting.Revising.{revisions_commit}
use Rattle.sms_centre_spec.specs.declared.event.CentreEvent.{CentreEvent}
use Rattle.sms_centre_spec.specs.declared.rows.Rows.{Rows}
use Rattle.sms_centre_spec.specs.Draft.{Core, Draft, Store, changes_in, core_of, rows_after, rows_of}
use Rattle.sms_centre_spec.specs.CentreEvent.{happened}
use Rattle.sms_centre_spec.specs.Planning.{adopted, outcome_of}
use Rattle.sms_centre_spec.proofs.Stages.{Closed, at_start, happened_keeps}

-- the rows on which the store stands
abbrev pub base_of : Store → Rows
base_of s = record {
  messages = s.messages.messages.base;
  parts = s.messages.parts.base;
  references = s.allocations.references.base;
  handsets = s.allocations.handsets.base;
  reports = s.reports.base;
  priorities = s.messages.priorities.base;
  bars = s.bars.base;
  setup = s.setup;
}

abbrev pub RestsOn : Rows → Store → Type 0
RestsOn base s = base_of s ≡ base

consistent_closed : (base : Rows) → Closed (RestsOn base)
consistent_closed base = record {
  message = λ m s k. k;
  part = λ p s k. k;
  progress = λ p q s k. k;
  priority = λ p s k. k;
  given = λ h r s k. k;
  report = λ r s k. k;
  report_progress = λ r q s k. k;
}

pub happened_consistent : (event : CentreEvent) (c : Core) → RestsOn c.rows (happened event c).store
happened_consistent event c = happened_keeps (RestsOn c.rows) (consistent_closed c.rows) event c (at_start (RestsOn c.rows) (λ n s k. k) event c refl)

-- no event puts a bar
abbrev NoBars : Store → Type 0
NoBars s = s.bars.news ≡ []

bars_closed : Closed NoBars
bars_closed = record {
  message = λ m s k. k;
  part = λ p s k. k;
  progress = λ p q s k. k;
  priority = λ p s k. k;
  given = λ h r s k. k;
  report = λ r s k. k;
  report_progress = λ r q s k. k;
}

pub happened_bars : (event : CentreEvent) (c : Core) → (happened event c).store.bars.news ≡ []
happened_bars event c = happened_keeps NoBars bars_closed event c (at_start NoBars (λ n s k. k) event c refl)

-- what is committed leads to the rows as they stand
pub store_commits : (s : Store) → rows_after (changes_in s) (base_of s) ≡ rows_of s
store_commits s =
    let m = commits message_key s.messages.messages.news s.messages.messages.base in
    let p = revisions_commit part_key part_reaching s.messages.parts.news s.messages.parts.base in
    let r = commits reference_key s.allocations.references.news s.allocations.references.base in
    let h = commits handset_key s.allocations.handsets.news s.allocations.handsets.base in
    let t = revisions_commit report_key report_reaching s.reports.news s.reports.base in
    let q = commits priority_key s.messages.priorities.news s.messages.priorities.base in
    let b = commits bar_key s.bars.news s.bars.base in
    let z : Rows = rows_after (changes_in s) (base_of s) in
    ap (λ xs. record z { messages = xs }) m
    ∙ ap (λ xs. record z { messages = (rows_of s).messages; parts = xs }) p
    ∙ ap (λ xs. record z { messages = (rows_of s).messages; parts = (rows_of s).parts; references = xs }) r
    ∙ ap (λ xs. record (rows_of s) { handsets = xs; reports = z.reports; priorities = z.priorities; bars = z.bars }) h
    ∙ ap (λ xs. record (rows_of s) { reports = xs; priorities = z.priorities; bars = z.bars }) t
    ∙ ap (λ xs. record (rows_of s) { priorities = xs; bars = z.bars }) q
    ∙ ap (λ xs. record (rows_of s) { bars = xs }) b

pub happened_rests : (event : CentreEvent) (c : Core) → rows_after (changes_in (happened event c).store) c.rows ≡ rows_of (happened event c).store
happened_rests event c =
    let s : Store = (happened event c).store in
    ap (λ (base : Rows). rows_after (changes_in s) base) (sym (happened_consistent event c)) ∙ store_commits s

-- a centre that adopts what an event leads to is the centre after that event
pub adopted_is : (event : CentreEvent) (c : Core) → adopted (outcome_of (happened event c)) c ≡ core_of (happened event c)
adopted_is event c =
    let d : Draft = happened event c in
    ap (λ (r : Rows). record { rows = r; moment = d.store.moment; links = d.links.all; sessions = d.bindings.sessions }) (happened_rests event c)
