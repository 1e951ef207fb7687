-- What is kept once a plan was put in is that of the centre after the event.
use Rattle.std.proofs.Common.{◌≡◌, ℕ, List, [], sym, ◌∙◌, ap, subst}
use Rattle.sms_rows.specs.declared.table.change.Change.{Change}
use Rattle.sms_rows.specs.table.Since.{oldest_first as changes_of}
use Rattle.sms_rows.specs.table.Table.{Rises, all_applied}
use Rattle.sms_centre_messages.specs.references.ReferenceIndex.{ReferenceIndexOf, Represents as ReferencesRepresent}
use Rattle.sms_centre_messages.specs.references.Moves.{AreMoves, ArePartMoves}
use Rattle.sms_centre_messages.specs.reference_moves.ClaimMoves.{MoveReferenceIndex}
use Rattle.sms_centre_messages.proofs.reference_moves.EventMoves.{event_moves}
use Rattle.sms_centre_reports.specs.open_reports.OpenReports.{OpenReportsOf, Represents as RepresentsReports}
use Rattle.sms_centre_messages.specs.message_index.MessageIndex.{Represents, MessageIndexOf, Matches}
use Rattle.sms_centre_rows.specs.declared.messages.bar.BarRow.{BarRow}
use Rattle.sms_centre_rows.specs.declared.messages.message.MessageRow.{MessageRow}
use Rattle.sms_centre_rows.specs.declared.messages.part.PartRow.{PartRow}
use Rattle.sms_centre_rows.specs.messages.Bars.{bar_key}
use Rattle.sms_centre_rows.specs.messages.Messages.{message_key, part_key, part_reaching}
use Rattle.sms_centre_rows.specs.reports.Receipts.{Session}
use Rattle.sms_centre_queue.specs.queues.Plan.{IsAdopted}
use Rattle.sms_centre_queue.specs.queues.Queues.{DeliveryQueuesOf}
use Rattle.sms_centre_rows.specs.declared.waiting.revision.Revision.{Revision}
use Rattle.sms_centre_rows.specs.waiting.Revisions.{all_revised}
use Rattle.sms_centre_spec.specs.declared.event.CentreEvent.{CentreEvent}
use Rattle.sms_centre_spec.specs.declared.rows.Changes.{Changes}
use Rattle.sms_centre_spec.specs.declared.rows.Rows.{Rows}
use Rattle.sms_centre_spec.specs.declared.setup.Setup.{Setup}
use Rattle.sms_centre_spec.specs.CentreEvent.{happened}
use Rattle.sms_centre_spec.specs.Draft.{Core, Draft, core_of, messages_in, parts_in, reports_in, rows_after}
use Rattle.sms_centre_spec.specs.SoundCore.{IsEvent}
use Rattle.sms_centre_spec.proofs.EventLaws.{stays_sound}
use Rattle.sms_centre_spec.proofs.Resting.{happened_bars, happened_consistent, happened_rests}
use Rattle.sms_centre.specs.declared.plans.event_outcome.EventOutcome.{EventOutcome}
use Rattle.sms_centre.specs.plans.EventOutcome.{IsOutcome}
use Rattle.sms_centre_draft.specs.Beginning.{IsCentre}

-- what an event moves of messages and parts was put in
abbrev pub Moved : ReferenceIndexOf → ReferenceIndexOf → List (Change MessageRow) → List (Revision PartRow) → List (Change BarRow) → Type 0
Moved old new m r b =
    (bs : List BarRow) (ms : List MessageRow) (ps : List PartRow) → ReferencesRepresent old bs ms ps → Rises message_key ms → Rises part_key ps → b ≡ [] → AreMoves m ms ps
    → ArePartMoves m r (all_applied message_key m ms) ps → ReferencesRepresent new bs (all_applied message_key m ms) (all_revised part_key part_reaching r ps)

module _ (event : CentreEvent) (c : Core) (p : EventOutcome) (is : IsEvent event) (planned : IsOutcome (happened event c) p) where
  rows_are : rows_after p.changes c.rows ≡ (core_of (happened event c)).rows
  rows_are = ap (λ (x : Changes). rows_after x c.rows) planned.changes ∙ happened_rests event c

  pub centre_after : (setup : Setup) (moment now : ℕ) (messages kept : MessageIndexOf) (queues placed : DeliveryQueuesOf) (reports known : OpenReportsOf) (sessions seated : List Session) → IsCentre c setup moment messages queues reports sessions
      → now ≡ p.next_state.moment
      → ((ms : List MessageRow) (ps others : List PartRow) → Represents messages ms ps → Matches p.next_state.messages ps others → Represents kept (all_applied message_key p.changes.messages ms) others)
      → IsAdopted p.next_state.queues placed → known ≡ p.next_state.reports → seated ≡ p.next_state.sessions
      → IsCentre (core_of (happened event c)) setup now kept placed known seated
  centre_after setup moment now messages kept queues placed reports known sessions seated was outputs holds adopted shown bound =
      let d : Draft = happened event c in record {
        sound = stays_sound event c was.sound is;
        setup_is = was.setup_is ∙ sym (ap (λ (r : Rows). r.setup) (happened_consistent event c));
        moment_is = outputs ∙ planned.next_state.moment;
        messages_are =
            subst (λ (ms : List MessageRow). Represents kept ms (parts_in d.store)) (ap (λ (r : Rows). r.messages) rows_are)
            (holds c.rows.messages c.rows.parts (parts_in d.store) was.messages_are
            (subst (λ (r : Rows). Matches p.next_state.messages r.parts (parts_in d.store)) (happened_consistent event c) planned.next_state.messages));
        queues_are = planned.next_state.queues placed adopted;
        reports_are = subst (λ (k : OpenReportsOf). RepresentsReports (messages_in d.store) k (reports_in d.store)) (sym shown) planned.next_state.reports;
        sessions_are = bound ∙ planned.next_state.sessions;
      }

  pub reference_index_after : (setup : Setup) (moment : ℕ) (messages : MessageIndexOf) (queues : DeliveryQueuesOf) (reports : OpenReportsOf) (sessions : List Session) (reference_index claimed : ReferenceIndexOf) → IsCentre c setup moment messages queues reports sessions
      → ReferencesRepresent reference_index c.rows.bars c.rows.messages c.rows.parts
      → Moved reference_index claimed p.changes.messages p.changes.parts p.changes.bars
      → ReferencesRepresent claimed (core_of (happened event c)).rows.bars (core_of (happened event c)).rows.messages (core_of (happened event c)).rows.parts
  reference_index_after setup moment messages queues reports sessions reference_index claimed was holds moved =
      let moves : MoveReferenceIndex p.changes c.rows = subst (λ (x : Changes). MoveReferenceIndex x c.rows) (sym planned.changes) (event_moves event c was.sound is) in
      let none : p.changes.bars ≡ [] = ap (λ (x : Changes). x.bars) planned.changes ∙ ap (λ (l : List (Change BarRow)). changes_of l) (happened_bars event c) in
      let after : Rows = rows_after p.changes c.rows in
      subst (λ (r : Rows). ReferencesRepresent claimed r.bars r.messages r.parts) rows_are
      (subst (λ (bs : List BarRow). ReferencesRepresent claimed bs after.messages after.parts) (sym (ap (λ (l : List (Change BarRow)). all_applied bar_key l c.rows.bars) none))
      (moved c.rows.bars c.rows.messages c.rows.parts holds was.sound.rows.messages.message_keys was.sound.rows.messages.part_keys none moves.messages moves.parts))
