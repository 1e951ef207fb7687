-- Rows that say nothing of the references that a handset gave.
use Rattle.std.proofs.Common.{◌≡◌, ℕ, List, [], ◌∷◌, ◌++◌, true, false, cond, refl, sym, ◌∙◌, ap, inl, inr, ⊎_elim, Option, Some, None}
use Rattle.std.specs.Prelude.{◌⊎◌, ◌==◌, ◌&&◌, is_some, nat_le}
use Rattle.std.specs.Str.{bytes_eq}
use Rattle.std.proofs.lemmas.Bool.{and_parts, cases_Bool, cond-false, cond_both}
use Rattle.std.proofs.lemmas.Slice.Eq.{bytes_eq-Decides}
use Rattle.sms_base.specs.declared.carried.Carried.{Carried}
use Rattle.sms_base.specs.declared.carried.Kind.{Kind}
use Rattle.sms_base.specs.declared.carried.Kind.TheVariants.{Data, Ack, Error}
use Rattle.sms_base.specs.declared.holder.Holder.{Holder}
use Rattle.sms_base.specs.declared.holder.Holder.TheVariants.{Part, Report, Entry, Memory}
use Rattle.sms_link.specs.declared.outgoing.Outgoing.{Outgoing}
use Rattle.sms_centre_rows.specs.declared.messages.message.MessageRow.{MessageRow}
use Rattle.sms_centre_rows.specs.declared.messages.part.PartRow.{PartRow}
use Rattle.sms_centre_rows.specs.messages.Messages.{message_at}
use Rattle.sms_handset_rows.specs.declared.outbox.out_entry.OutEntry.{OutEntry}
use Rattle.sms_handset_rows.specs.outbox.Keys.{out_key}
use Rattle.sms_script.specs.declared.report.rows.Direction.TheVariants.{Up as UpRow}
use Rattle.sms_script.specs.declared.report.rows.GivenRow.{GivenRow}
use Rattle.sms_centre_rows.specs.declared.reports.report.ReportKind.{ReportKind}
use Rattle.sms_centre_rows.specs.declared.reports.report.ReportKind.TheVariants.{Receipt, Status, Unsent}
use Rattle.sms_centre_rows.specs.declared.reports.report.ReportRow.{ReportRow}
use Rattle.sms_rows.specs.declared.table.change.Change.{Change}
use Rattle.sms_rows.specs.declared.table.change.Change.TheVariants.{Put, Remove}
use Rattle.sms_rows.specs.table.Table.{put, row_at, without}
use Rattle.sms_centre_rows.specs.declared.waiting.revision.Revision.{Revision}
use Rattle.sms_centre_rows.specs.declared.waiting.revision.Revision.TheVariants.{Put as PutRow, Amend, Remove as RemoveRow}
use Rattle.sms_centre_spec.specs.Draft.{Draft as CentreDraft, changes_in, messages_in}
use Rattle.sms_handset_draft.specs.Draft.{Draft}
use Rattle.sms_play.specs.CentreSide.{given_by as centre_given, parts_given, report_given, reports_given, source_in}
use Rattle.sms_play.specs.PlayState.{Party}
use Rattle.sms_play.specs.HandsetSide.{carried_given, data_given, entries_given, entry_given, given_by, memories_given, memory_given}
use Rattle.sms_play.specs.Premises.{is_of_reference, is_same_side, last_holder}
use Rattle.sms_world.specs.entries_keep_references.ReportedEntries.{EntriesAgree}
use Rattle.sms_world.proofs.entries_keep_references.RowsGiven.{last_over}

-- ---- rows that say nothing of it

abbrev pub IsElsewhere : List ℕ → GivenRow → Type 0
IsElsewhere h g = (is_same_side g.direction UpRow ≡ false) ⊎ ¬ (g.handset ≡ h)

abbrev pub AllElsewhere : List ℕ → List GivenRow → Type 0
AllElsewhere h [] = Unit {0}
AllElsewhere h (g ∷ gs) = IsElsewhere h g × AllElsewhere h gs

elsewhere : (h : List ℕ) (r : ℕ) (g : GivenRow) → IsElsewhere h g → is_of_reference h UpRow r g ≡ false
elsewhere h r g is = ⊎_elim
    (λ (t : is_of_reference h UpRow r g ≡ true).
    let p = and_parts (bytes_eq g.handset h) (is_same_side g.direction UpRow && (g.reference == r)) t in
    let q = and_parts (is_same_side g.direction UpRow) (g.reference == r) p.1 in
    ⊎_elim
    (λ (e : is_same_side g.direction UpRow ≡ false). let bad : true ≡ false = sym q.0 ∙ e in absurd cc)
    (λ (ne : ¬ (g.handset ≡ h)). absurd (ne ((bytes_eq-Decides g.handset h).0 p.0)))
    is)
    (λ (f : is_of_reference h UpRow r g ≡ false). f)
    (cases_Bool (is_of_reference h UpRow r g))

pub last_elsewhere : (o : Option Holder) (h : List ℕ) (r : ℕ) (gs : List GivenRow) → AllElsewhere h gs → last_holder o h UpRow r gs ≡ o
last_elsewhere o h r [] all = refl
last_elsewhere o h r (g ∷ gs) all =
    ap (λ (z : Option Holder). last_holder z h UpRow r gs) (cond-false (is_of_reference h UpRow r g) (Some g.holder) o (elsewhere h r g all.0)) ∙ last_elsewhere o h r gs all.1

pub agrees_still : (h : List ℕ) (outbox : List OutEntry) (given more : List GivenRow) → AllElsewhere h more → EntriesAgree h outbox given → EntriesAgree h outbox (given ++ more)
agrees_still h outbox given more all tells o i u =
    last_over None h o.reference given more ∙ last_elsewhere (last_holder None h UpRow o.reference given) h o.reference more all ∙ tells o i u

both_elsewhere : (h : List ℕ) (xs ys : List GivenRow) → AllElsewhere h xs → AllElsewhere h ys → AllElsewhere h (xs ++ ys)
both_elsewhere h [] ys a b = b
both_elsewhere h (x ∷ xs) ys a b = (a.0, both_elsewhere h xs ys a.1 b)

-- ---- the centre's

module _ (h : List ℕ) where
  parts_elsewhere : (moment : ℕ) (ms : List MessageRow) (cs : List (Revision PartRow)) → AllElsewhere h (parts_given moment ms cs)
  parts_elsewhere moment ms [] = tt
  parts_elsewhere moment ms (PutRow p ∷ cs) = (inl refl, parts_elsewhere moment ms cs)
  parts_elsewhere moment ms (Amend n q ∷ cs) = parts_elsewhere moment ms cs
  parts_elsewhere moment ms (RemoveRow n ∷ cs) = parts_elsewhere moment ms cs

  kind_elsewhere : (moment id : ℕ) (handset : List ℕ) (k : ReportKind) → AllElsewhere h (report_given moment id handset k)
  kind_elsewhere moment id handset Receipt = tt
  kind_elsewhere moment id handset (Status reference tpdu) = (inl refl, tt)
  kind_elsewhere moment id handset Unsent = tt

  reports_elsewhere : (moment : ℕ) (ms : List MessageRow) (cs : List (Revision ReportRow)) → AllElsewhere h (reports_given moment ms cs)
  reports_elsewhere moment ms [] = tt
  reports_elsewhere moment ms (PutRow r ∷ cs) =
      both_elsewhere h (report_given moment r.id (source_in (message_at r.id ms)) r.kind) (reports_given moment ms cs) (kind_elsewhere moment r.id (source_in (message_at r.id ms)) r.kind)
      (reports_elsewhere moment ms cs)
  reports_elsewhere moment ms (Amend n q ∷ cs) = reports_elsewhere moment ms cs
  reports_elsewhere moment ms (RemoveRow n ∷ cs) = reports_elsewhere moment ms cs

  pub centre_elsewhere : (d : CentreDraft) → AllElsewhere h (centre_given d)
  centre_elsewhere d =
      both_elsewhere h (parts_given d.store.moment (messages_in d.store) (changes_in d.store).parts) (reports_given d.store.moment (messages_in d.store) (changes_in d.store).reports)
      (parts_elsewhere d.store.moment (messages_in d.store) (changes_in d.store).parts) (reports_elsewhere d.store.moment (messages_in d.store) (changes_in d.store).reports)

-- ---- another handset's

module _ (h a : List ℕ) (ne : ¬ (a ≡ h)) where
  entries_elsewhere : (moment : ℕ) (outbox : List OutEntry) (cs : List (Change OutEntry)) → AllElsewhere h (entries_given a moment outbox cs)
  entries_elsewhere moment outbox [] = tt
  entries_elsewhere moment outbox (Put o ∷ cs) =
      both_elsewhere h (cond (is_some (row_at out_key o.number outbox)) [] (entry_given a moment o)) (entries_given a moment (put out_key o outbox) cs)
      (cond_both (is_some (row_at out_key o.number outbox)) [] (entry_given a moment o) (λ (rows : List GivenRow). AllElsewhere h rows) (λ t. tt) (λ t. (inr ne, tt)))
      (entries_elsewhere moment (put out_key o outbox) cs)
  entries_elsewhere moment outbox (Remove key ∷ cs) = entries_elsewhere moment (without out_key key outbox) cs

  memory_elsewhere : (moment next reference : ℕ) (tag : Holder) → AllElsewhere h (memory_given a moment next reference tag)
  memory_elsewhere moment next reference (Part id number) = tt
  memory_elsewhere moment next reference (Report id) = tt
  memory_elsewhere moment next reference (Entry n) = tt
  memory_elsewhere moment next reference (Memory n) =
      cond_both (nat_le next n) (record { handset = a; direction = UpRow; reference = reference; holder = Memory n; moment = moment } ∷ []) [] (λ (rows : List GivenRow). AllElsewhere h rows)
      (λ t. (inr ne, tt)) (λ t. tt)

  data_elsewhere : (moment next reference : ℕ) (tag : Holder) (k : Kind) → AllElsewhere h (data_given a moment next reference tag k)
  data_elsewhere moment next reference tag Data = memory_elsewhere moment next reference tag
  data_elsewhere moment next reference tag Ack = tt
  data_elsewhere moment next reference tag Error = tt

  carried_elsewhere : (moment next : ℕ) (o : Option Carried) → AllElsewhere h (carried_given a moment next o)
  carried_elsewhere moment next None = tt
  carried_elsewhere moment next (Some x) = data_elsewhere moment next x.reference x.tag x.kind

  memories_elsewhere : (moment next : ℕ) (fs : List Outgoing) → AllElsewhere h (memories_given a moment next fs)
  memories_elsewhere moment next [] = tt
  memories_elsewhere moment next (f ∷ fs) =
      both_elsewhere h (cond f.is_copy [] (carried_given a moment next f.carried)) (memories_given a moment next fs)
      (cond_both f.is_copy [] (carried_given a moment next f.carried) (λ (rows : List GivenRow). AllElsewhere h rows) (λ t. tt) (λ t. carried_elsewhere moment next f.carried))
      (memories_elsewhere moment next fs)

pub other_elsewhere : (h : List ℕ) (p : Party) (d : Draft) → ¬ (p.number ≡ h) → AllElsewhere h (given_by p d)
other_elsewhere h p d ne =
    both_elsewhere h (entries_given p.number d.moment p.core.rows.outbox d.changes.outbox) (memories_given p.number d.moment p.core.rows.counters.notice d.frames)
    (entries_elsewhere h p.number ne d.moment p.core.rows.outbox d.changes.outbox) (memories_elsewhere h p.number ne d.moment p.core.rows.counters.notice d.frames)
