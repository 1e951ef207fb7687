-- A submission's message comes, and its parts.
use Rattle.std.proofs.Common.{◌≡◌, ℕ, ◌+◌, ◌<◌, ◌≤◌, List, Option, Some, None, refl, sym, ◌∙◌, ap, subst, ⊎_elim, inl, inr, zero, suc, [], ◌∷◌, length, get_or, arith, false}
use Rattle.std.specs.Option.{option_and_then}
use Rattle.sms_base.specs.Among.{Among}
use Rattle.sms_rows.specs.table.Keys.{pair_key}
use Rattle.sms_rows.specs.table.Table.{put}
use Rattle.sms_rows.proofs.table.Tables.{among_put, found_among, found_key, row_at_put, row_at_put_other}
use Rattle.sms_centre_rows.specs.declared.messages.message.MessageRow.{MessageRow}
use Rattle.sms_centre_rows.specs.declared.messages.part.PartRow.{PartRow}
use Rattle.sms_centre_rows.specs.declared.messages.priority.PriorityRow.{PriorityRow}
use Rattle.sms_centre_rows.specs.messages.Messages.{message_at, message_key, part_at, part_key, priority_in, priority_key, put_message, put_part, put_priority}
use Rattle.sms_centre_messages.specs.message_index.MessageIndex.{MessageIndexDraftOf as MessagesOf, DraftRepresents as RepresentsMessages}
use Rattle.sms_centre_rows.specs.declared.reports.report.ReportRow.{ReportRow}
use Rattle.sms_centre_rows.specs.reports.Reports.{report_of}
use Rattle.sms_centre_rows.specs.waiting.Keys.{queued_key}
use Rattle.sms_centre_rows.specs.waiting.References.{give, handset_of}
use Rattle.sms_centre_rows.specs.waiting.SoundAllocations.{IsNumber}
use Rattle.sms_centre_queue.specs.queues.Queues.{DeliveryQueuesDraftOf as QueuesOf}
use Rattle.sms_centre_queue.specs.queues.Representing.{DraftRepresents as RepresentsQueues, Waits}
use Rattle.sms_intake.specs.declared.submission.SinglePart.{SinglePart}
use Rattle.sms_intake.specs.declared.submission.Submission.{Submission}
use Rattle.sms_intake.specs.PartBodies.{deliver_octets}
use Rattle.sms_centre_spec.specs.Draft.{Draft, Store, handsets_in, in_store, messages_in, parts_in, priorities_in, reports_in, with_given, with_part}
use Rattle.sms_centre_spec.specs.SoundRows.{HasReportAddress}
use Rattle.sms_centre_spec.specs.Consistent.{IsConsistent}
use Rattle.sms_centre_spec.specs.Held.{SoundHeld}
use Rattle.sms_centre_spec.specs.Submitting.{enter, give_part, give_parts, message_of, part_given, put_part_of, reference_for}
use Rattle.sms_centre_spec.proofs.NextNumbers.{no_part, no_report}
use Rattle.sms_centre_spec.proofs.AcceptedConsistent.{enter_consistent, part_consistent}
use Rattle.sms_centre_draft.specs.Submitting.{CanGive, IsNewId}
use Rattle.sms_centre_draft.specs.CentreDraft.{AreFew, Represents, CentreDraftOf, all_waiting}
use Rattle.sms_centre_draft.proofs.MovesWaiting.{entered_waits, part_new_waits}
use Rattle.sms_centre_draft.proofs.ReportsStill.{entered_told}
use Rattle.sms_centre_draft.proofs.RepresentedMoves.{queues_alike}

-- ---- the message

part_below : (id : ℕ) (s : Store) → IsConsistent s → IsNewId id s → (p : PartRow) → Among p (parts_in s) → p.id < id
part_below id s k below p among =
    let of = k.parts p among in
    let same : of.0.id ≡ p.id = found_key message_key p.id of.0 (messages_in s) of.1 in
    let low = below of.0 (found_among message_key p.id of.0 (messages_in s) of.1) in omega (arith, same, low)

report_below : (id : ℕ) (s : Store) → IsConsistent s → IsNewId id s → (r : ReportRow) → Among r (reports_in s) → r.id < id
report_below id s k below r among =
    let of = k.reports r among in
    let same : of.0.id ≡ r.id = found_key message_key r.id of.0 (messages_in s) of.1.0 in
    let low = below of.0 (found_among message_key r.id of.0 (messages_in s) of.1.0) in omega (arith, same, low)

pub none_part : (id : ℕ) (s : Store) → IsConsistent s → IsNewId id s → (n : ℕ) → part_at id n (parts_in s) ≡ None
none_part id s k below n = no_part id n (parts_in s) k.held.parts (part_below id s k below)

pub none_report : (id : ℕ) (s : Store) → IsConsistent s → IsNewId id s → report_of id (reports_in s) ≡ None
none_report id s k below = no_report id (reports_in s) (λ r among e. let low = report_below id s k below r among in absurd (omega (arith, low, e)))

pub entered_represented : (d : Draft) (w : CentreDraftOf) (id : ℕ) (split : Option ℕ) (u : Submission) (messages : MessagesOf) → Represents d w → IsNewId id d.store → IsNumber u.handset → HasReportAddress u.originator u.source
    → RepresentsMessages messages (put_priority (record { id = id; priority = u.priority }) (put_message (message_of id w.moment split u) d.store.messages))
    → Represents (in_store (enter id split u d.store) d) (record w { messages = messages })
entered_represented d w id split u messages represents below is told kept =
    let s : Store = d.store in
    let m : MessageRow = message_of id s.moment split u in
    let q : PriorityRow = record { id = id; priority = u.priority } in
    record {
      consistent = enter_consistent id split u s represents.consistent below is told;
      few = represents.few;
      setup = represents.setup;
      moment = represents.moment;
      messages = subst (λ (n : ℕ). RepresentsMessages messages (put_priority (record { id = id; priority = u.priority }) (put_message (message_of id n split u) s.messages))) represents.moment kept;
      queues = queues_alike s.allocations d.links (all_waiting s) (all_waiting (enter id split u s)) w.queues represents.queues
          (entered_waits s m q represents.consistent.held refl (none_part id s represents.consistent below) (none_report id s represents.consistent below));
      reports = entered_told (messages_in s) m w.reports s.reports (λ r among e. let low = report_below id s represents.consistent below r among in absurd (omega (arith, low, e))) represents.reports;
      bindings = represents.bindings;
      answer = represents.answer;
    }

-- its parts can come
pub entered_can : (s : Store) (id : ℕ) (split : Option ℕ) (u : Submission) → IsConsistent s → IsNewId id s → CanGive id u 1 (enter id split u s)
entered_can s id split u consistent below =
    let m : MessageRow = message_of id s.moment split u in
    let q : PriorityRow = record { id = id; priority = u.priority } in
    record {
      message = (m, (row_at_put message_key m (messages_in s), refl, refl, refl));
      priority = ap (λ (o : Option PriorityRow). priority_in o) (row_at_put priority_key q (priorities_in s));
      first = omega arith;
      not_given = λ n from small. none_part id s consistent below n;
    }

-- ---- a part

part_row : ℕ → Submission → ℕ → SinglePart → ℕ → ℕ → PartRow
part_row id u n b reference moment = record {
  id = id;
  number = n;
  reference = reference;
  tpdu = deliver_octets moment u b;
  key = b.key;
  progress = record { is_done = false; attempts = 0; due = u.due };
}

pub given_waits : (s : Store) (id : ℕ) (u : Submission) (n : ℕ) (b : SinglePart) (reference : ℕ) → SoundHeld s → CanGive id u n s → n ≤ 20
    → Waits u.handset (put queued_key (record { id = id; number = n; reference = reference; priority = u.priority; due = u.due })) (all_waiting s)
    (all_waiting (put_part_of id u n b reference (with_given (handset_of u.handset (handsets_in s)) reference s)))
unfolding part_row
given_waits s id u n b reference held can few =
    let p : PartRow = part_row id u n b reference s.moment in
    let m = can.message.0 in
    let of = can.message.1 in
    let first = can.first in
    subst (λ (h : List ℕ). Waits h (put queued_key (record { id = id; number = n; reference = reference; priority = u.priority; due = u.due })) (all_waiting s) (all_waiting (with_part p s))) of.2
    (subst (λ (k : ℕ). Waits m.handset (put queued_key (record { id = id; number = n; reference = reference; priority = k; due = u.due })) (all_waiting s) (all_waiting (with_part p s))) can.priority
    (part_new_waits s p m held of.0 of.3 refl first (omega (arith, few)) (can.not_given n (omega arith) (omega (arith, few)))))

few_put : (p : PartRow) (ps : List PartRow) → p.number ≤ 20 → AreFew ps → AreFew (put part_key p ps)
few_put p ps own few x among = ⊎_elim
    (λ (e : x ≡ p). subst (λ (y : PartRow). y.number ≤ 20) (sym e) own)
    (λ (a : Among x ps × ¬ (part_key x ≡ part_key p)). few x a.0)
    (among_put part_key x p ps among)

pub given_consistent : (s : Store) (id : ℕ) (u : Submission) (n : ℕ) (b : SinglePart) (reference : ℕ) → IsConsistent s → CanGive id u n s → n ≤ 20
    → reference_for (handset_of u.handset (handsets_in s)) s ≡ Some reference
    → IsConsistent (put_part_of id u n b reference (with_given (handset_of u.handset (handsets_in s)) reference s))
given_consistent s id u n b reference k can few next =
    let m = can.message.0 in
    let of = can.message.1 in
    let first = can.first in
    let there : message_at m.id (messages_in s) ≡ Some m = subst (λ (i : ℕ). message_at i (messages_in s) ≡ Some m) (sym of.1) of.0 in
    let free : reference_for (handset_of m.handset (handsets_in s)) s ≡ Some reference = subst (λ (h : List ℕ). reference_for (handset_of h (handsets_in s)) s ≡ Some reference) (sym of.2) next in
    let consistent = part_consistent m u n b (Some reference) s (k, there) of.3 first (omega (arith, few)) free in
    subst (λ (h : List ℕ). IsConsistent (put_part_of id u n b reference (with_given (handset_of h (handsets_in s)) reference s))) of.2
    (subst (λ (i : ℕ). IsConsistent (put_part_of i u n b reference (with_given (handset_of m.handset (handsets_in s)) reference s))) of.1 consistent.0)

pub given_represented : (d : Draft) (w : CentreDraftOf) (id : ℕ) (u : Submission) (n : ℕ) (b : SinglePart) (reference : ℕ) (messages : MessagesOf) (queues : QueuesOf) → Represents d w → CanGive id u n d.store → n ≤ 20
    → reference_for (handset_of u.handset (handsets_in d.store)) d.store ≡ Some reference
    → RepresentsMessages messages (put_part (record { id = id; number = n; reference = reference; tpdu = deliver_octets w.moment u b; key = b.key; progress = record { is_done = false; attempts = 0; due = u.due } }) d.store.messages)
    → RepresentsQueues (give (handset_of u.handset (handsets_in d.store)) reference w.moment d.store.allocations) d.links
    (all_waiting (put_part_of id u n b reference (with_given (handset_of u.handset (handsets_in d.store)) reference d.store))) queues
    → Represents (in_store (put_part_of id u n b reference (with_given (handset_of u.handset (handsets_in d.store)) reference d.store)) d) (record w { messages = messages; queues = queues })
unfolding part_row
given_represented d w id u n b reference messages queues represents can few next kept placed =
    let s : Store = d.store in
    record {
      consistent = given_consistent s id u n b reference represents.consistent can few next;
      few = few_put (part_row id u n b reference s.moment) (parts_in s) few represents.few;
      setup = represents.setup;
      moment = represents.moment;
      messages = subst (λ (x : ℕ). RepresentsMessages messages (put_part (part_row id u n b reference x) s.messages)) represents.moment kept;
      queues = subst (λ (x : ℕ). RepresentsQueues (give (handset_of u.handset (handsets_in s)) reference x s.allocations) d.links
          (all_waiting (put_part_of id u n b reference (with_given (handset_of u.handset (handsets_in s)) reference s))) queues) represents.moment placed;
      reports = represents.reports;
      bindings = represents.bindings;
      answer = represents.answer;
    }

pub given_can : (s : Store) (id : ℕ) (u : Submission) (n : ℕ) (b : SinglePart) (reference : ℕ) → CanGive id u n s → n ≤ 20
    → CanGive id u (n + 1) (put_part_of id u n b reference (with_given (handset_of u.handset (handsets_in s)) reference s))
unfolding part_row
given_can s id u n b reference can few = record {
  message = can.message;
  priority = can.priority;
  first = omega arith;
  not_given = λ k from small.
      row_at_put_other part_key (pair_key id k) (part_row id u n b reference s.moment) (parts_in s) (λ e. let q : pair_key id n ≡ pair_key id k = e in absurd (omega (arith, q, from, small)))
      ∙ can.not_given k (omega (arith, from)) small;
}

-- ---- parts one after the other

pub record PartsToGive (d : Draft) (id : ℕ) (u : Submission) (last : Store) (number : ℕ) (rest : List SinglePart) (w : CentreDraftOf) : Type 0 where
  pub store : Store
  pub represents : Represents (in_store store d) w
  pub can : CanGive id u number store
  pub goes : give_parts id u number rest store ≡ Some last

next_can : (id : ℕ) (u : Submission) (n : ℕ) (b : SinglePart) (o : Option ℕ) (s e : Store) → part_given id u n b (handset_of u.handset (handsets_in s)) o s ≡ Some e → CanGive id u n s → n ≤ 20 → CanGive id u (n + 1) e
next_can id u n b None s e is can few = absurd cc
next_can id u n b (Some r) s e is can few =
    let same : put_part_of id u n b r (with_given (handset_of u.handset (handsets_in s)) r s) ≡ e = cc in
    subst (λ (x : Store). CanGive id u (n + 1) x) same (given_can s id u n b r can few)

-- where the parts behind one are given, it was
pub first_given : (id : ℕ) (u : Submission) (n : ℕ) (behind : List SinglePart) (o : Option Store) (last : Store) → option_and_then (λ (e : Store). give_parts id u (n + 1) behind e) o ≡ Some last
    → (e : Store) × ((o ≡ Some e) × (give_parts id u (n + 1) behind e ≡ Some last))
first_given id u n behind None last e = absurd cc
first_given id u n behind (Some x) last e = (x, (refl, e))

pub coming_next : (d : Draft) (id : ℕ) (u : Submission) (last : Store) (n : ℕ) (rest : List SinglePart) (b : SinglePart) (behind : List SinglePart) (w new : CentreDraftOf) → rest ≡ b ∷ behind → PartsToGive d id u last n rest w → n ≤ 20
    → ((x : Draft) (s : Store) → Represents x w → CanGive id u n x.store → n ≤ 20 → give_part id u n b (handset_of u.handset (handsets_in x.store)) x.store ≡ Some s → Represents (in_store s x) new)
    → PartsToGive d id u last (n + 1) behind new
coming_next d id u last n rest b behind w new split left few step =
    let s : Store = left.store in
    let h = handset_of u.handset (handsets_in s) in
    let g = first_given id u n behind (give_part id u n b h s) last (sym (ap (λ (bs : List SinglePart). give_parts id u n bs s) split) ∙ left.goes) in
    record {
      store = g.0;
      represents = step (in_store s d) g.0 left.represents left.can few g.1.0;
      can = next_can id u n b (reference_for h s) s g.0 g.1.0 left.can few;
      goes = g.1.1;
    }

pub coming_done : (d : Draft) (id : ℕ) (u : Submission) (last : Store) (n : ℕ) (rest : List SinglePart) (w : CentreDraftOf) → rest ≡ [] → PartsToGive d id u last n rest w → Represents (in_store last d) w
coming_done d id u last n rest w none left =
    let same : Some left.store ≡ Some last = sym (ap (λ (bs : List SinglePart). give_parts id u n bs left.store) none) ∙ left.goes in
    let is : left.store ≡ last = cc in
    subst (λ (s : Store). Represents (in_store s d) w) is left.represents

pub body_at : (xs : List SinglePart) (i : ℕ) (x : SinglePart) → i < length xs → Among (get_or xs i x) xs
body_at [] i x low = absurd (omega (arith, low))
body_at (y ∷ ys) zero x low = inl refl
body_at (y ∷ ys) (suc i) x low = inr (body_at ys i x (omega (arith, low)))
