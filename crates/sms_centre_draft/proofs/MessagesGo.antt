-- A centre forgets message by message.
use Rattle.std.proofs.Common.{◌≡◌, ℕ, zero, suc, ◌+◌, ◌<◌, List, [], ◌∷◌, ◌++◌, length, drop, get_or, append-nil, append_assoc, Bool, true, false, Option, Some, None, Result, OnOk, refl, sym, ◌∙◌, ap, subst, inl, inr, ⊎_elim, eq-eqb, arith}
use Rattle.std.specs.Prelude.{◌⊎◌, ◌==◌, ◌||◌, nat_lt}
use Rattle.std.proofs.lemmas.Bool.{cases_Bool, cond_both, ne_eqb, or_left, or_right}
use Rattle.std.proofs.lemmas.List.{drop_more}
use Rattle.sms_base.specs.Among.{Among}
use Rattle.sms_rows.specs.table.Table.{AllAbove, Rises, rows_from}
use Rattle.sms_centre_rows.specs.declared.messages.message.MessageRow.{MessageRow}
use Rattle.sms_centre_rows.specs.declared.reports.report.ReportRow.{ReportRow}
use Rattle.sms_centre_rows.specs.messages.Messages.{Messages, message_at, message_key}
use Rattle.sms_centre_rows.specs.messages.SplitReferences.{is_among}
use Rattle.sms_centre_rows.specs.reports.Reports.{next_place, report_of, reports_of}
use Rattle.sms_centre_rows.specs.waiting.References.{Allocations}
use Rattle.sms_centre_rows.specs.waiting.Revisions.{Revised}
use Rattle.sms_centre_rows.proofs.reports.AllWaiting.{report_found}
use Rattle.sms_centre_messages.specs.message_index.MessageIndex.{DraftRepresents as RepresentsMessages}
use Rattle.sms_centre_queue.specs.queues.Representing.{DraftRepresents as RepresentsQueues}
use Rattle.sms_centre_reports.specs.open_reports.Entries.{account_in}
use Rattle.sms_centre_reports.specs.open_reports.OpenReportsDraft.{DraftRepresents, OpenReportsDraftOf as ReportsOf, made_in}
use Rattle.sms_centre_spec.specs.declared.rows.Rows.{Rows}
use Rattle.sms_centre_spec.specs.Consistent.{IsConsistent}
use Rattle.sms_centre_spec.specs.Draft.{Core, Store, core_of, draft_of, messages_in, reports_in, rows_of, store_of}
use Rattle.sms_centre_spec.specs.SoundCore.{IsSoundCore}
use Rattle.sms_centre_spec.specs.forgetting.Forget.{forget, going_now, is_going_now, may_go_now, message_gone, message_out, messages_gone, remove_in, report_gone, report_out}
use Rattle.sms_centre_spec.specs.forgetting.Forgetting.{MayGo, going, kept, report_id, rows_cut}
use Rattle.sms_centre_spec.proofs.SoundStores.{store_sound}
use Rattle.sms_centre_spec.proofs.forgetting.Kept.{kept_among}
use Rattle.sms_centre_spec.proofs.forgetting.Looks.{message_stays, waiting_same}
use Rattle.sms_centre_spec.proofs.forgetting.Moves.{report_stays}
use Rattle.sms_centre_spec.proofs.forgetting.Now.{can_now, forgot_now}
use Rattle.sms_centre_spec.proofs.forgetting.Removed.{allocations_kept, moment_kept, rows_left, setup_kept}
use Rattle.sms_centre_spec.proofs.forgetting.Splits.{next_place_same}
use Rattle.sms_centre_draft.specs.CentreDraft.{CentreDraftOf, Represents, all_waiting}
use Rattle.sms_centre_draft.specs.Forgetting.{CanRemove, place_of}
use Rattle.sms_centre_draft.proofs.ReportsStill.{told_still}
use Rattle.sms_centre_draft.proofs.RepresentedMoves.{queues_alike}

-- ---- the numbers rise

going_above : (goes : MessageRow → Bool) (n most : ℕ) (ms : List MessageRow) → AllAbove message_key n ms → AllAbove (λ (k : ℕ). k) n (going goes most ms)
going_above goes n zero ms h = tt
going_above goes n (suc most) [] h = tt
going_above goes n (suc most) (m ∷ ms) h =
    cond_both (goes m) (m.id ∷ going goes most ms) (going goes most ms) (λ (l : List ℕ). AllAbove (λ (k : ℕ). k) n l)
    (λ t. (h.0, going_above goes n most ms h.1)) (λ t. going_above goes n most ms h.1)

going_rises : (goes : MessageRow → Bool) (most : ℕ) (ms : List MessageRow) → Rises message_key ms → Rises (λ (k : ℕ). k) (going goes most ms)
going_rises goes zero ms h = tt
going_rises goes (suc most) [] h = tt
going_rises goes (suc most) (m ∷ ms) h =
    cond_both (goes m) (m.id ∷ going goes most ms) (going goes most ms) (λ (l : List ℕ). Rises (λ (k : ℕ). k) l)
    (λ t. (going_above goes m.id most ms h.0, going_rises goes most ms h.1)) (λ t. going_rises goes most ms h.1)

from_rises : (n : ℕ) (ms : List MessageRow) → Rises message_key ms → Rises message_key (rows_from message_key n ms)
from_rises n [] h = tt
from_rises n (m ∷ ms) h =
    cond_both (nat_lt m.id n) (rows_from message_key n ms) (m ∷ ms) (λ (l : List MessageRow). Rises message_key l) (λ t. from_rises n ms h.1) (λ t. h)

-- what rises has none twice
above_other : (n x : ℕ) (ns ys : List ℕ) → AllAbove (λ (k : ℕ). k) n (ns ++ x ∷ ys) → (n == x) ≡ false
above_other n x [] ys h = let l : n < x = h.0 in ne_eqb n x (λ (e : n ≡ x). absurd (omega (arith, l, e)))
above_other n x (m ∷ ns) ys h = above_other n x ns ys h.1

not_before : (x : ℕ) (ns ys : List ℕ) → Rises (λ (k : ℕ). k) (ns ++ x ∷ ys) → is_among x ns ≡ false
not_before x [] ys h = refl
not_before x (n ∷ ns) ys h = ap (λ (b : Bool). b || is_among x ns) (above_other n x ns ys h.0) ∙ not_before x ns ys h.1

before_among : (k x : ℕ) (ns ys : List ℕ) → is_among k ns ≡ true → is_among k (ns ++ x ∷ ys) ≡ true
before_among k x [] ys e = let bad : false ≡ true = e in absurd cc
before_among k x (n ∷ ns) ys e = ⊎_elim
    (λ (t : (n == k) ≡ true). or_left (n == k) (is_among k (ns ++ x ∷ ys)) t)
    (λ (t : (n == k) ≡ false). or_right (n == k) (is_among k (ns ++ x ∷ ys)) (before_among k x ns ys (sym (ap (λ (b : Bool). b || is_among k ns) t) ∙ e)))
    (cases_Bool (n == k))

here_among : (x : ℕ) (ns ys : List ℕ) → is_among x (ns ++ x ∷ ys) ≡ true
here_among x [] ys = ap (λ (b : Bool). b || is_among x ys) (eq-eqb x x refl)
here_among x (n ∷ ns) ys = or_right (n == x) (is_among x (ns ++ x ∷ ys)) (here_among x ns ys)

-- ---- one message more

gone_more : (ns : List ℕ) (x : ℕ) (s : Store) → messages_gone (ns ++ x ∷ []) s ≡ message_gone x (messages_gone ns s)
gone_more [] x s = refl
gone_more (n ∷ ns) x s = gone_more ns x (message_gone n s)

unmade_one : (id : ℕ) (o : Option ReportRow) (t : Revised ReportRow) → made_in id t.news ≡ None → made_in id (report_gone o t).news ≡ None
unmade_one id None t e = e
unmade_one id (Some r) t e = e

unmade_all : (id : ℕ) (ns : List ℕ) (s : Store) → made_in id s.reports.news ≡ None → made_in id (messages_gone ns s).reports.news ≡ None
unmade_all id [] s e = e
unmade_all id (n ∷ ns) s e = unmade_all id ns (message_gone n s) (unmade_one id (report_of n (reports_of s.reports)) s.reports e)

-- ---- a report goes

some_place : (o : Option ReportRow) (place : ℕ) → Some place ≡ place_of o → (r : ReportRow) × ((o ≡ Some r) × (place ≡ r.place))
some_place None place e = absurd cc
some_place (Some r) place e = (r, (refl, cc))

no_place : (o : Option ReportRow) → None ≡ place_of o → o ≡ None
no_place None e = refl
no_place (Some r) e = absurd cc

pub removed_ok : {E : Type 0} (ms : List MessageRow) (id place : ℕ) (p : ReportsOf) (t : Revised ReportRow) (done : Result (Unit {0}) E) → Some place ≡ place_of (report_of id (reports_of t)) → CanRemove id t
    → ((r : ReportRow) → report_of r.id (reports_of t) ≡ Some r → place ≡ r.place → r.progress.is_done ≡ true → r.place + 1 < next_place (reports_of t) → made_in r.id t.news ≡ None
    → OnOk done (DraftRepresents ms p (remove_in place t)))
    → OnOk done (DraftRepresents ms p (report_out id t))
removed_ok ms id place p t done e can goes =
    let f = some_place (report_of id (reports_of t)) place e in
    let r : ReportRow = f.0 in
    let own : r.id ≡ id = (report_found id r (reports_of t) f.1.0).1 in
    subst (λ (o : Option ReportRow). OnOk done (DraftRepresents ms p (report_gone o t))) (sym f.1.0)
    (subst (λ (n : ℕ). OnOk done (DraftRepresents ms p (remove_in n t))) f.1.1
    (goes r (ap (λ (n : ℕ). report_of n (reports_of t)) own ∙ f.1.0) f.1.1 (can.closed r f.1.0) (can.low r f.1.0) (ap (λ (n : ℕ). made_in n t.news) own ∙ can.unmade)))

pub none_removed : (ms : List MessageRow) (id : ℕ) (p : ReportsOf) (t : Revised ReportRow) → None ≡ place_of (report_of id (reports_of t)) → DraftRepresents ms p t → DraftRepresents ms p (report_out id t)
none_removed ms id p t e h = subst (λ (o : Option ReportRow). DraftRepresents ms p (report_gone o t)) (sym (no_place (report_of id (reports_of t)) e)) h

-- ---- message by message

-- those of the first so many went
pub record Went (first : Store) (ms : List MessageRow) (ids : List ℕ) (i : ℕ) (was w : CentreDraftOf) : Type 0 where
  pub done : List ℕ
  pub left : done ++ drop i ids ≡ ids
  pub messages : RepresentsMessages w.messages (messages_gone done first).messages
  pub reports : DraftRepresents ms w.reports (messages_gone done first).reports
  pub rest : w ≡ record was { messages = w.messages; reports = w.reports }

module _ (before from most : ℕ) (c : Core) (s : IsSoundCore c) where
  abbrev ids : List ℕ
  ids = going_now before from most c

  abbrev goes : ℕ → Bool
  goes = is_going_now before from most c

  abbrev first : Store
  first = store_of c.rows c.moment

  may : MayGo goes c.rows
  may = (can_now before from most c s).may

  pub rises : Rises (λ (k : ℕ). k) ids
  rises = going_rises (may_go_now before c) most (rows_from message_key from c.rows.messages) (from_rises from c.rows.messages s.rows.messages.message_keys)

  left_reports : (done : List ℕ) → reports_in (messages_gone done first) ≡ kept report_id (λ (n : ℕ). is_among n done) c.rows.reports
  left_reports done = ap (λ (r : Rows). r.reports) (rows_left done c.rows c.moment s.rows)

  module _ (done : List ℕ) (x : ℕ) (ys : List ℕ) (split : done ++ x ∷ ys ≡ ids) where
    abbrev t : Revised ReportRow
    t = (messages_gone done first).reports

    among_done : (n : ℕ) → is_among n done ≡ true → goes n ≡ true
    among_done n e = ap (λ (l : List ℕ). is_among n l) (sym split) ∙ before_among n x done ys e

    x_goes : goes x ≡ true
    x_goes = ap (λ (l : List ℕ). is_among x l) (sym split) ∙ here_among x done ys

    new : is_among x done ≡ false
    new = not_before x done ys (subst (λ (l : List ℕ). Rises (λ (k : ℕ). k) l) (sym split) rises)

    same_report : report_of x (reports_of t) ≡ report_of x c.rows.reports
    same_report = ap (λ (l : List ReportRow). report_of x l) (left_reports done) ∙ report_stays (λ (n : ℕ). is_among n done) x c.rows.reports new

    same_next : next_place (reports_of t) ≡ next_place c.rows.reports
    same_next = ap (λ (l : List ReportRow). next_place l) (left_reports done) ∙ next_place_same (λ (n : ℕ). is_among n done) 1 c.rows.reports (λ r a e. may.place r a (among_done r.id e))

    pub can_remove : CanRemove x t
    can_remove = record {
      closed = λ r e.
          let f = report_found x r c.rows.reports (sym same_report ∙ e) in
          may.closed r f.0 (ap goes f.1 ∙ x_goes);
      low = λ r e.
          let f = report_found x r c.rows.reports (sym same_report ∙ e) in
          subst (λ (n : ℕ). r.place + 1 < n) (sym same_next) (may.place r f.0 (ap goes f.1 ∙ x_goes));
      unmade = unmade_all x done first refl;
    }

    pub placed : place_of (report_of x c.rows.reports) ≡ place_of (report_of x (reports_of t))
    placed = ap (λ (o : Option ReportRow). place_of o) (sym same_report)

  pub went_first : (w : CentreDraftOf) → Represents (draft_of c) w → Went first c.rows.messages ids 0 w w
  went_first w h = record { done = []; left = refl; messages = h.messages; reports = h.reports; rest = refl }

  pub went_on : (i x : ℕ) (was w after : CentreDraftOf) (place : Option ℕ) → i < length ids → x ≡ get_or ids i x → place ≡ place_of (report_of x c.rows.reports)
      → ((m : Messages) → RepresentsMessages w.messages m → RepresentsMessages after.messages (message_out x m))
      → ((t : Revised ReportRow) → DraftRepresents c.rows.messages w.reports t → place ≡ place_of (report_of x (reports_of t)) → CanRemove x t
      → DraftRepresents c.rows.messages after.reports (report_out x t))
      → after ≡ record w { messages = after.messages; reports = after.reports }
      → Went first c.rows.messages ids i was w → Went first c.rows.messages ids (i + 1) was after
  went_on i x was w after place l is at messages reports rest so_far =
      let next : drop i ids ≡ x ∷ drop (i + 1) ids = drop_more ids i x l ∙ ap (λ (y : ℕ). y ∷ drop (i + 1) ids) (sym is) in
      let split : so_far.done ++ x ∷ drop (i + 1) ids ≡ ids = ap (λ (l : List ℕ). so_far.done ++ l) (sym next) ∙ so_far.left in
      let more : messages_gone (so_far.done ++ x ∷ []) first ≡ message_gone x (messages_gone so_far.done first) = gone_more so_far.done x first in
      record {
        done = so_far.done ++ x ∷ [];
        left = append_assoc so_far.done (x ∷ []) (drop (i + 1) ids) ∙ split;
        messages = subst (λ (z : Store). RepresentsMessages after.messages z.messages) (sym more) (messages (messages_gone so_far.done first).messages so_far.messages);
        reports = subst (λ (z : Store). DraftRepresents c.rows.messages after.reports z.reports) (sym more)
            (reports (messages_gone so_far.done first).reports so_far.reports (at ∙ placed so_far.done x (drop (i + 1) ids) split) (can_remove so_far.done x (drop (i + 1) ids) split));
        rest = rest ∙ ap (λ (z : CentreDraftOf). record z { messages = after.messages; reports = after.reports }) so_far.rest;
      }

  -- ---- all of them went

  abbrev behind : Store
  behind = messages_gone ids first

  -- with their bars
  abbrev after : Store
  after = (forget before from most c).store

  after_rows : rows_of behind ≡ rows_cut goes c.rows
  after_rows = rows_left ids c.rows c.moment s.rows

  sound_after : IsSoundCore (core_of (forget before from most c))
  sound_after = (forgot_now before from most c s).left

  consistent_after : IsConsistent after
  consistent_after =
      let k = (store_sound (rows_of after) after.moment sound_after.rows sound_after.now sound_after.moment).consistent in
      record {
        held = record {
          allocations = k.held.allocations;
          parts = k.held.parts;
          alone = k.held.alone;
          report_keys = k.held.report_keys;
          numbers = k.held.numbers;
          waiting = k.held.waiting;
        };
        message_keys = k.message_keys;
        report_addresses = k.report_addresses;
        parts = k.parts;
        reports = k.reports;
      }

  waits_same : (number : List ℕ) → all_waiting behind number ≡ all_waiting first number
  waits_same number =
      ap (λ (r : Rows). all_waiting (store_of r c.moment) number) after_rows
      ∙ waiting_same goes number c.rows.messages c.rows.priorities c.rows.parts c.rows.reports may.ended may.closed

  told_after : (p : ReportsOf) → DraftRepresents c.rows.messages p behind.reports → DraftRepresents (messages_in behind) p behind.reports
  told_after p h = told_still c.rows.messages (messages_in behind) p behind.reports h (λ r a.
      let b = kept_among report_id goes r c.rows.reports (subst (λ (l : List ReportRow). Among r l) (left_reports ids) a) in
      ap (λ (o : Option MessageRow). account_in o)
      (ap (λ (z : Rows). message_at r.id z.messages) after_rows ∙ message_stays goes r.id c.rows.messages b.1))

  pub went_all : (i : ℕ) (was w : CentreDraftOf) → drop i ids ≡ [] → Represents (draft_of c) was → Went first c.rows.messages ids i was w → Represents (forget before from most c) w
  went_all i was w none h so_far =
      let all : so_far.done ≡ ids = sym (append-nil so_far.done) ∙ ap (λ (l : List ℕ). so_far.done ++ l) (sym none) ∙ so_far.left in
      let z : CentreDraftOf = record was { messages = w.messages; reports = w.reports } in
      subst (λ (x : CentreDraftOf). Represents (forget before from most c) x) (sym so_far.rest) (record {
        consistent = consistent_after;
        few = λ p a. (sound_after.rows.messages.each_part p a).few;
        setup = h.setup ∙ sym (setup_kept ids first);
        moment = h.moment ∙ sym (moment_kept ids first);
        messages = subst (λ (l : List ℕ). RepresentsMessages w.messages (messages_gone l first).messages) all so_far.messages;
        queues =
            queues_alike behind.allocations (draft_of c).links (all_waiting first) (all_waiting behind) was.queues
            (subst (λ (g : Allocations). RepresentsQueues g (draft_of c).links (all_waiting first) was.queues) (sym (allocations_kept ids first)) h.queues) waits_same;
        reports = told_after w.reports (subst (λ (l : List ℕ). DraftRepresents c.rows.messages w.reports (messages_gone l first).reports) all so_far.reports);
        bindings = h.bindings;
        answer = h.answer;
      })
