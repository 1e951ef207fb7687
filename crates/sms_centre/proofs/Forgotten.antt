-- What is kept once the plan of forgetting was put in is that of the centre without what went.
use Rattle.std.proofs.Common.{◌≡◌, ℕ, zero, suc, List, [], ◌∷◌, ◌++◌, map, Bool, false, Option, Some, None, sym, ◌∙◌, ap, subst}
use Rattle.sms_rows.specs.declared.table.change.Change.{Change}
use Rattle.sms_rows.specs.declared.table.change.Change.TheVariants.{Remove as RemoveRow}
use Rattle.sms_rows.specs.table.Table.{all_applied}
use Rattle.sms_centre_messages.specs.message_index.MessageIndex.{Matches, MessageIndexOf, Represents}
use Rattle.sms_centre_messages.specs.references.Moves.{ArePartRemovals, AreRemovals}
use Rattle.sms_centre_messages.specs.references.ReferenceIndex.{Barred, ReferenceIndexOf, Represents as ReferencesRepresent}
use Rattle.sms_centre_messages.proofs.references.Forgotten.{holds_without}
use Rattle.sms_centre_reports.specs.open_reports.Entries.{account_in}
use Rattle.sms_centre_reports.specs.open_reports.OpenReports.{OpenReportsOf, Represents as RepresentsReports}
use Rattle.sms_centre_reports.specs.sessions.Awaited.{AreAwaited}
use Rattle.sms_centre_rows.specs.declared.messages.bar.BarRow.{BarRow}
use Rattle.sms_centre_rows.specs.declared.messages.message.MessageRow.{MessageRow}
use Rattle.sms_centre_rows.specs.declared.messages.part.PartRow.{PartRow}
use Rattle.sms_centre_rows.specs.declared.waiting.revision.Revision.{Revision}
use Rattle.sms_centre_rows.specs.declared.messages.claim.Claim.{Claim}
use Rattle.sms_centre_rows.specs.messages.Messages.{Messages, message_key, part_at, parts_of}
use Rattle.sms_centre_rows.specs.reports.Receipts.{Session}
use Rattle.sms_centre_rows.specs.waiting.Revisions.{oldest_first as revisions_of}
use Rattle.sms_centre_queue.specs.queues.Plan.{IsAdopted}
use Rattle.sms_centre_queue.specs.queues.Queues.{DeliveryQueuesOf}
use Rattle.sms_centre_spec.specs.declared.rows.Changes.{Changes}
use Rattle.sms_centre_spec.specs.declared.rows.Rows.{Rows}
use Rattle.sms_centre_spec.specs.declared.setup.Setup.{Setup}
use Rattle.sms_centre_spec.specs.Draft.{Core, Draft, Store, core_of, messages_in, parts_in, reports_in, rows_after, store_of}
use Rattle.sms_centre_spec.specs.SoundCore.{IsSoundCore}
use Rattle.sms_centre_spec.specs.forgetting.Forget.{bars_put, forget, going_now, is_going_now, may_go_now, message_gone, messages_gone, part_gone, parts_out}
use Rattle.sms_centre_spec.specs.forgetting.Forgetting.{claims_left}
use Rattle.sms_centre_spec.proofs.forgetting.Begins.{is_member}
use Rattle.sms_centre_spec.proofs.forgetting.Looks.{message_stays}
use Rattle.sms_centre_spec.proofs.forgetting.Moves.{report_stays}
use Rattle.sms_centre_spec.proofs.forgetting.Now.{can_now, forgot_now}
use Rattle.sms_centre_spec.proofs.forgetting.Removed.{base_kept, forget_bars, forget_commits, forget_leaves, forget_messages, from_that, setup_kept}
use Rattle.sms_centre.specs.declared.plans.event_outcome.EventOutcome.{EventOutcome}
use Rattle.sms_centre.specs.plans.EventOutcome.{IsOutcome}
use Rattle.sms_centre_draft.specs.Beginning.{IsCentre}

-- ---- its changes only take out

all_removed : (ids : List ℕ) → AreRemovals (map (λ (id : ℕ). RemoveRow id) ids)
all_removed [] = tt
all_removed (id ∷ ids) = (tt, all_removed ids)

part_removed : (o : Option PartRow) (m : Messages) → ArePartRemovals m.parts.news → ArePartRemovals (part_gone o m).parts.news
part_removed None m h = h
part_removed (Some p) m h = (tt, h)

parts_removed : (id n : ℕ) (m : Messages) → ArePartRemovals m.parts.news → ArePartRemovals (parts_out id n m).parts.news
unfolding parts_out
parts_removed id zero m h = h
parts_removed id (suc n) m h = part_removed (part_at id (suc n) (parts_of (parts_out id n m))) (parts_out id n m) (parts_removed id n m h)

gone_removed : (ids : List ℕ) (s : Store) → ArePartRemovals s.messages.parts.news → ArePartRemovals (messages_gone ids s).messages.parts.news
gone_removed [] s h = h
gone_removed (id ∷ ids) s h = gone_removed ids (message_gone id s) (parts_removed id 20 s.messages h)

both_removed : (rs ss : List (Revision PartRow)) → ArePartRemovals rs → ArePartRemovals ss → ArePartRemovals (rs ++ ss)
both_removed [] ss h k = k
both_removed (r ∷ rs) ss h k = (h.0, both_removed rs ss h.1 k)

turned_removed : (rs : List (Revision PartRow)) → ArePartRemovals rs → ArePartRemovals (revisions_of rs)
turned_removed [] h = tt
turned_removed (r ∷ rs) h = both_removed (revisions_of rs) (r ∷ []) (turned_removed rs h.1) (h.0, tt)

-- ---- all that is kept

module _ (before from most : ℕ) (c : Core) (p : EventOutcome) (planned : IsOutcome (forget before from most c) p) where
  abbrev d : Draft
  d = forget before from most c

  abbrev ids : List ℕ
  ids = going_now before from most c

  pub rows_forgotten : rows_after p.changes c.rows ≡ (core_of d).rows
  rows_forgotten = ap (λ (x : Changes). rows_after x c.rows) planned.changes ∙ ap (λ (x : Core). x.rows) (forget_commits before from most c)

  base : d.store.messages.parts.base ≡ c.rows.parts
  base = ap (λ (r : Rows). r.parts) (base_kept ids (store_of c.rows c.moment))

  pub messages_removed : AreRemovals p.changes.messages
  messages_removed = subst (λ (x : List (Change MessageRow)). AreRemovals x) (sym (ap (λ (x : Changes). x.messages) planned.changes ∙ forget_messages before from most c)) (all_removed ids)

  pub parts_are_removed : ArePartRemovals p.changes.parts
  parts_are_removed =
      subst (λ (x : Changes). ArePartRemovals x.parts) (sym planned.changes)
      (turned_removed d.store.messages.parts.news (gone_removed ids (store_of c.rows c.moment) tt))

  pub centre_forgets : (setup : Setup) (moment now : ℕ) (messages kept : MessageIndexOf) (queues placed : DeliveryQueuesOf) (reports known : OpenReportsOf) (sessions seated : List Session) → IsCentre c setup moment messages queues reports sessions
      → now ≡ p.next_state.moment
      → ((ms : List MessageRow) (ps others : List PartRow) → Represents messages ms ps → Matches p.next_state.messages ps others → Represents kept (all_applied message_key p.changes.messages ms) others)
      → IsAdopted p.next_state.queues placed → known ≡ p.next_state.reports → seated ≡ p.next_state.sessions
      → IsCentre (core_of d) setup now kept placed known seated
  centre_forgets setup moment now messages kept queues placed reports known sessions seated was outputs holds adopted shown bound = record {
    sound = (forgot_now before from most c was.sound).left;
    setup_is = was.setup_is ∙ sym (setup_kept ids (store_of c.rows c.moment));
    moment_is = outputs ∙ planned.next_state.moment;
    messages_are =
        subst (λ (ms : List MessageRow). Represents kept ms (parts_in d.store)) (ap (λ (r : Rows). r.messages) rows_forgotten)
        (holds c.rows.messages c.rows.parts (parts_in d.store) was.messages_are
        (subst (λ (ps : List PartRow). Matches p.next_state.messages ps (parts_in d.store)) base planned.next_state.messages));
    queues_are = planned.next_state.queues placed adopted;
    reports_are = subst (λ (k : OpenReportsOf). RepresentsReports (messages_in d.store) k (reports_in d.store)) (sym shown) planned.next_state.reports;
    sessions_are = bound ∙ planned.next_state.sessions;
  }

  module _ (s : IsSoundCore c) where
    bars_are : p.changes.bars ≡ bars_put (claims_left (is_going_now before from most c) c.rows.messages c.rows.parts) c.rows.bars
    bars_are =
        ap (λ (x : Changes). x.bars) planned.changes ∙ forget_bars before from most c
        ∙ ap (λ (l : List Claim). bars_put l c.rows.bars) (from_that (may_go_now before c) from most c.rows.messages c.rows.parts s.rows.messages.message_keys)

    pub reference_index_forgets : (old new : ReferenceIndexOf) → ReferencesRepresent old c.rows.bars c.rows.messages c.rows.parts → Barred p.changes.bars old new
        → ReferencesRepresent new (core_of d).rows.bars (core_of d).rows.messages (core_of d).rows.parts
    reference_index_forgets old new holds barred =
        subst (λ (x : Core). ReferencesRepresent new x.rows.bars x.rows.messages x.rows.parts) (sym (forget_leaves before from most c s.rows))
        (holds_without (is_going_now before from most c) c.rows s.rows (can_now before from most c s).may old new holds
        (subst (λ (b : List (Change BarRow)). Barred b old new) bars_are barred))

    pub awaited_still : AreAwaited c.rows.messages c.rows.reports c.sessions → AreAwaited (core_of d).rows.messages (core_of d).rows.reports (core_of d).sessions
    awaited_still was =
        let goes : ℕ → Bool = is_going_now before from most c in
        subst (λ (x : Core). AreAwaited x.rows.messages x.rows.reports x.sessions) (sym (forget_leaves before from most c s.rows)) (record {
          each = λ x a id b.
              let w = was.each x a id b in
              let stays : goes id ≡ false = (can_now before from most c s).answered x id a (is_member id x.unanswered b) in
              record {
                report = (w.report.0, (report_stays goes id c.rows.reports stays ∙ w.report.1.0, w.report.1.1));
                account_is = ap (λ (o : Option MessageRow). account_in o) (message_stays goes id c.rows.messages stays) ∙ w.account_is;
              };
          apart = was.apart;
        })
