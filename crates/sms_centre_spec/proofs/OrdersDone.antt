-- What becomes of an operator's order.
use Rattle.std.proofs.Common.{◌≡◌, ◌<◌, ℕ, List, [], ◌∷◌, Bool, true, false, Option, Some, None, refl, sym, ◌∙◌, ap, subst, inl, inr, ⊎_elim}
use Rattle.std.specs.Prelude.{◌⊎◌, ◌==◌, ◌&&◌, not, if◌then◌else◌}
use Rattle.std.proofs.lemmas.Bool.{and_parts, cases_eq, cond_both, cond-false, cond-true, not-true}
use Rattle.sms_base.specs.Among.{Among}
use Rattle.sms_base.specs.declared.final_state.FinalState.TheVariants.{Deleted}
use Rattle.smpp_pdu.specs.declared.status.CommandStatus.TheVariants.{ESME_RCANCELFAIL, ESME_RINVMSGID}
use Rattle.sms_rows.specs.table.Table.{row_at}
use Rattle.sms_rows.proofs.table.Tables.{found_key}
use Rattle.sms_centre_rows.specs.declared.messages.message.MessageRow.{MessageRow}
use Rattle.sms_centre_rows.specs.declared.messages.part.PartRow.{PartRow}
use Rattle.sms_centre_rows.specs.declared.reports.report.ReportRow.{ReportRow}
use Rattle.sms_centre_rows.specs.declared.waiting.queued_part.QueuedPart.{QueuedPart}
use Rattle.sms_centre_rows.specs.reports.Reports.{report_of}
use Rattle.sms_centre_rows.specs.messages.Messages.{is_pending, message_at, part_at, part_key, part_reaching}
use Rattle.sms_centre_rows.specs.waiting.Keys.{queued_key}
use Rattle.sms_centre_rows.specs.waiting.Trying.{due_at}
use Rattle.sms_centre_rows.proofs.messages.PartRows.{part_amended, part_amended_other}
use Rattle.sms_centre_spec.specs.declared.answer.CentreAnswer.TheVariants.{Cancelled, Queried, Refused}
use Rattle.sms_centre_spec.specs.declared.event.CentreEvent.TheVariants.{Ordered}
use Rattle.sms_centre_spec.specs.declared.order.Order.{Order}
use Rattle.sms_centre_spec.specs.declared.order.Order.TheVariants.{Retry, Delete}
use Rattle.sms_centre_spec.specs.CentreEvent.{follow, happened}
use Rattle.sms_centre_spec.specs.Draft.{Core, Draft, Store, answer_with, draft_of, in_store, messages_in, parts_in, reports_in, waiting_in}
use Rattle.sms_centre_spec.specs.Ends.{end}
use Rattle.sms_centre_spec.specs.Orders.{is_part_of, message_due, ordered, parts_among, retried}
use Rattle.sms_centre_spec.specs.Receiving.{all_due, queued_due, part_due, report_due}
use Rattle.sms_centre_spec.specs.Requests.{cancelled, refused}

-- ---- the order is done, or refused

pub retry_does : (id : ℕ) (c : Core) (m : MessageRow) → message_at id c.rows.messages ≡ Some m
    → ((happened (Ordered Retry id) c).store ≡ message_due m (draft_of c).store) × ((happened (Ordered Retry id) c).answer ≡ Some (Queried m.id m.state m.done))
retry_does id c m e =
    (ap (λ (o : Option MessageRow). (follow (retried o (draft_of c))).store) e, ap (λ (o : Option MessageRow). (follow (retried o (draft_of c))).answer) e)

pub delete_does : (id : ℕ) (c : Core) (m : MessageRow) → message_at id c.rows.messages ≡ Some m → is_pending m ≡ true
    → ((happened (Ordered Delete id) c).store ≡ end Deleted m (draft_of c).store) × ((happened (Ordered Delete id) c).answer ≡ Some Cancelled)
delete_does id c m e pending =
    let d : Draft = draft_of c in
    let is : ordered Delete id d ≡ answer_with Cancelled (in_store (end Deleted m d.store) d) =
    ap (λ (o : Option MessageRow). cancelled o d) e ∙ cond-true (is_pending m) (answer_with Cancelled (in_store (end Deleted m d.store) d)) (refused ESME_RCANCELFAIL d) pending in
    (ap (λ (x : Draft). (follow x).store) is, ap (λ (x : Draft). (follow x).answer) is)

pub delete_fails : (id : ℕ) (c : Core) (m : MessageRow) → message_at id c.rows.messages ≡ Some m → is_pending m ≡ false
    → ((happened (Ordered Delete id) c).store ≡ (draft_of c).store) × ((happened (Ordered Delete id) c).answer ≡ Some (Refused ESME_RCANCELFAIL))
delete_fails id c m e ended =
    let d : Draft = draft_of c in
    let is : ordered Delete id d ≡ refused ESME_RCANCELFAIL d =
    ap (λ (o : Option MessageRow). cancelled o d) e ∙ cond-false (is_pending m) (answer_with Cancelled (in_store (end Deleted m d.store) d)) (refused ESME_RCANCELFAIL d) ended in
    (ap (λ (x : Draft). (follow x).store) is, ap (λ (x : Draft). (follow x).answer) is)

pub none_ordered : (order : Order) (id : ℕ) (c : Core) → message_at id c.rows.messages ≡ None
    → ((happened (Ordered order id) c).store ≡ (draft_of c).store) × ((happened (Ordered order id) c).answer ≡ Some (Refused ESME_RINVMSGID))
none_ordered Retry id c e =
    (ap (λ (o : Option MessageRow). (follow (retried o (draft_of c))).store) e, ap (λ (o : Option MessageRow). (follow (retried o (draft_of c))).answer) e)
none_ordered Delete id c e =
    (ap (λ (o : Option MessageRow). (follow (cancelled o (draft_of c))).store) e, ap (λ (o : Option MessageRow). (follow (cancelled o (draft_of c))).answer) e)

-- ---- the parts of a message among what waits

more_among : (b : Bool) (l x : QueuedPart) (ls xs : List QueuedPart) → (Among l ls → Among l xs) → Among l (if b then x ∷ ls else ls) → Among l (x ∷ xs)
more_among true l x ls xs f a = ⊎_elim (λ (same : l ≡ x). inl same) (λ (b : Among l ls). inr (f b)) a
more_among false l x ls xs f a = inr (f a)

pub among_parts : (id : ℕ) (l : QueuedPart) (ls : List QueuedPart) → Among l (parts_among id ls) → Among l ls
among_parts id l [] a = a
among_parts id l (x ∷ xs) a = more_among (is_part_of id x) l x (parts_among id xs) xs (λ b. among_parts id l xs b) a

is_part : (b : Bool) (l x : QueuedPart) (ls : List QueuedPart) → (b ≡ true → (x.number == 0) ≡ false) → (Among l ls → (l.number == 0) ≡ false) → Among l (if b then x ∷ ls else ls)
    → (l.number == 0) ≡ false
is_part true l x ls is f a = ⊎_elim (λ (same : l ≡ x). ap (λ (y : QueuedPart). y.number == 0) same ∙ is refl) (λ (b : Among l ls). f b) a
is_part false l x ls is f a = f a

-- none of them is a status report
parts_are : (id : ℕ) (l : QueuedPart) (ls : List QueuedPart) → Among l (parts_among id ls) → (l.number == 0) ≡ false
parts_are id l [] a = absurd a
parts_are id l (x ∷ xs) a =
    is_part (is_part_of id x) l x (parts_among id xs)
    (λ e. not-true (x.number == 0) (and_parts (x.id == id) (not (x.number == 0)) e).1) (λ b. parts_are id l xs b) a

-- ---- due now: each of them, and nothing else

-- the part as it is once it is due then
abbrev due_then : ℕ → PartRow → PartRow
due_then moment p = part_reaching (due_at moment p.progress) p

part_queued : (l : QueuedPart) (s : Store) → (l.number == 0) ≡ false → queued_due l s ≡ part_due (part_at l.id l.number (parts_in s)) s
part_queued l s e = cond-false (l.number == 0) (report_due (report_of l.id (reports_in s)) s) (part_due (part_at l.id l.number (parts_in s)) s) e

part_moment : (o : Option PartRow) (s : Store) → (part_due o s).moment ≡ s.moment
part_moment None s = refl
part_moment (Some p) s = refl

-- the part of that key
part_here : (k : ℕ) (p : PartRow) (s : Store) → row_at part_key k (parts_in s) ≡ Some p → row_at part_key k (parts_in (part_due (row_at part_key k (parts_in s)) s)) ≡ Some (due_then s.moment p)
part_here k p s e =
    let own : part_key p ≡ k = found_key part_key k p (parts_in s) e in
    let there : row_at part_key (part_key p) (parts_in s) ≡ Some p = subst (λ (n : ℕ). row_at part_key n (parts_in s) ≡ Some p) (sym own) e in
    ap (λ (o : Option PartRow). row_at part_key k (parts_in (part_due o s))) e
    ∙ subst (λ (n : ℕ). row_at part_key n (parts_in (part_due (Some p) s)) ≡ Some (due_then s.moment p)) own (part_amended p (due_at s.moment p.progress) (parts_in s) there)

-- and of another
part_there : (k n : ℕ) (s : Store) → ¬ (n ≡ k) → row_at part_key k (parts_in (part_due (row_at part_key n (parts_in s)) s)) ≡ row_at part_key k (parts_in s)
part_there k n s ne = by (row_at part_key n (parts_in s)) refl where
  by : (o : Option PartRow) → row_at part_key n (parts_in s) ≡ o → row_at part_key k (parts_in (part_due o s)) ≡ row_at part_key k (parts_in s)
  by None e = refl
  by (Some p) e = part_amended_other p (due_at s.moment p.progress) (parts_in s) k (λ f. ne (sym (found_key part_key n p (parts_in s) e) ∙ f))

part_becomes : (l : QueuedPart) (s : Store) (p : PartRow) → (l.number == 0) ≡ false → part_at l.id l.number (parts_in s) ≡ Some p
    → row_at part_key (queued_key l) (parts_in (queued_due l s)) ≡ Some (due_then s.moment p)
part_becomes l s p is e = ap (λ (x : Store). row_at part_key (queued_key l) (parts_in x)) (part_queued l s is) ∙ part_here (queued_key l) p s e

part_stays : (k : ℕ) (l : QueuedPart) (s : Store) → (l.number == 0) ≡ false → ¬ (queued_key l ≡ k) → row_at part_key k (parts_in (queued_due l s)) ≡ row_at part_key k (parts_in s)
part_stays k l s is ne = ap (λ (x : Store). row_at part_key k (parts_in x)) (part_queued l s is) ∙ part_there k (queued_key l) s ne

queued_moment : (l : QueuedPart) (s : Store) → (l.number == 0) ≡ false → (queued_due l s).moment ≡ s.moment
queued_moment l s is = ap (λ (x : Store). x.moment) (part_queued l s is) ∙ part_moment (part_at l.id l.number (parts_in s)) s

-- it is due then already, or it is among those that will be
abbrev WillBeDue : ℕ → PartRow → List QueuedPart → ℕ → Type 0
WillBeDue k p ls moment = (due_then moment p ≡ p) ⊎ ((l : QueuedPart) × (Among l ls × (queued_key l ≡ k)))

still_will : (x : QueuedPart) (xs : List QueuedPart) (k : ℕ) (p : PartRow) (moment : ℕ) → ¬ (queued_key x ≡ k) → WillBeDue k p (x ∷ xs) moment → WillBeDue k p xs moment
still_will x xs k p moment other will = ⊎_elim
    (λ (same : due_then moment p ≡ p). inl same)
    (λ (f : (l : QueuedPart) × (Among l (x ∷ xs) × (queued_key l ≡ k))). inr (⊎_elim
    (λ (is : f.0 ≡ x). absurd (other (ap (λ (l : QueuedPart). queued_key l) (sym is) ∙ f.1.1)))
    (λ (a : Among f.0 xs). (f.0, (a, f.1.1)))
    f.1.0))
    will

all_become : (ls : List QueuedPart) (k : ℕ) (p : PartRow) (s : Store) → ((l : QueuedPart) → Among l ls → (l.number == 0) ≡ false) → row_at part_key k (parts_in s) ≡ Some p
    → WillBeDue k p ls s.moment → row_at part_key k (parts_in (all_due ls s)) ≡ Some (due_then s.moment p)
all_become [] k p s are e will =
    ⊎_elim (λ (same : due_then s.moment p ≡ p). e ∙ ap (λ (x : PartRow). Some x) (sym same)) (λ (f : (l : QueuedPart) × (Among l [] × (queued_key l ≡ k))). absurd f.1.0) will
all_become (x ∷ xs) k p s are e will =
    let is : (x.number == 0) ≡ false = are x (inl refl) in
    let now : (queued_due x s).moment ≡ s.moment = queued_moment x s is in
    let others : (l : QueuedPart) → Among l xs → (l.number == 0) ≡ false = λ l a. are l (inr a) in
    ⊎_elim
    (λ (same : queued_key x ≡ k).
    let q : PartRow = due_then s.moment p in
    let there : row_at part_key k (parts_in (queued_due x s)) ≡ Some q =
    subst (λ (n : ℕ). row_at part_key n (parts_in (queued_due x s)) ≡ Some q) same (part_becomes x s p is (subst (λ (n : ℕ). row_at part_key n (parts_in s) ≡ Some p) (sym same) e)) in
    let already : due_then (queued_due x s).moment q ≡ q = ap (λ (n : ℕ). due_then n q) now in
    all_become xs k q (queued_due x s) others there (inl already) ∙ ap (λ (y : PartRow). Some y) already)
    (λ (other : queued_key x ≡ k → ⊥).
    let there : row_at part_key k (parts_in (queued_due x s)) ≡ Some p = part_stays k x s is other ∙ e in
    let will_be : WillBeDue k p xs (queued_due x s).moment = subst (λ (n : ℕ). WillBeDue k p xs n) (sym now) (still_will x xs k p s.moment other will) in
    all_become xs k p (queued_due x s) others there will_be ∙ ap (λ (n : ℕ). Some (due_then n p)) now)
    (cases_eq (queued_key x) k)

all_stay : (ls : List QueuedPart) (k : ℕ) (s : Store) → ((l : QueuedPart) → Among l ls → ((l.number == 0) ≡ false) × (¬ (queued_key l ≡ k)))
    → row_at part_key k (parts_in (all_due ls s)) ≡ row_at part_key k (parts_in s)
all_stay [] k s are = refl
all_stay (x ∷ xs) k s are =
    let is = are x (inl refl) in all_stay xs k (queued_due x s) (λ l a. are l (inr a)) ∙ part_stays k x s is.0 is.1

-- messages and reports stay
messages_stay : (ls : List QueuedPart) (s : Store) → messages_in (all_due ls s) ≡ messages_in s
messages_stay [] s = refl
messages_stay (x ∷ xs) s = messages_stay xs (queued_due x s) ∙ cond_both (x.number == 0) (report_due (report_of x.id (reports_in s)) s) (part_due (part_at x.id x.number (parts_in s)) s) (λ (e : Store). messages_in e ≡ messages_in s)
    (λ t. report (report_of x.id (reports_in s))) (λ t. part (part_at x.id x.number (parts_in s)))
  where
    report : (o : Option ReportRow) → messages_in (report_due o s) ≡ messages_in s
    report None = refl
    report (Some r) = refl

    part : (o : Option PartRow) → messages_in (part_due o s) ≡ messages_in s
    part None = refl
    part (Some p) = refl

part_reports : (o : Option PartRow) (s : Store) → reports_in (part_due o s) ≡ reports_in s
part_reports None s = refl
part_reports (Some p) s = refl

reports_stay : (ls : List QueuedPart) (s : Store) → ((l : QueuedPart) → Among l ls → (l.number == 0) ≡ false) → reports_in (all_due ls s) ≡ reports_in s
reports_stay [] s are = refl
reports_stay (x ∷ xs) s are =
    reports_stay xs (queued_due x s) (λ l a. are l (inr a)) ∙ ap (λ (e : Store). reports_in e) (part_queued x s (are x (inl refl))) ∙ part_reports (part_at x.id x.number (parts_in s)) s

pub due_messages : (m : MessageRow) (s : Store) → messages_in (message_due m s) ≡ messages_in s
due_messages m s = messages_stay (parts_among m.id (waiting_in m.handset s)) s

pub due_reports : (m : MessageRow) (s : Store) → reports_in (message_due m s) ≡ reports_in s
due_reports m s = reports_stay (parts_among m.id (waiting_in m.handset s)) s (λ l a. parts_are m.id l (waiting_in m.handset s) a)

pub due_parts : (m : MessageRow) (s : Store) (l : QueuedPart) (p : PartRow) → Among l (parts_among m.id (waiting_in m.handset s)) → part_at l.id l.number (parts_in s) ≡ Some p
    → part_at l.id l.number (parts_in (message_due m s)) ≡ Some (record p { progress = due_at s.moment p.progress })
due_parts m s l p a e =
    all_become (parts_among m.id (waiting_in m.handset s)) (queued_key l) p s (λ x b. parts_are m.id x (waiting_in m.handset s) b) e (inr (l, (a, refl)))

pub due_others : (m : MessageRow) (s : Store) (key : ℕ) → ((l : QueuedPart) → Among l (parts_among m.id (waiting_in m.handset s)) → ¬ (queued_key l ≡ key))
    → row_at part_key key (parts_in (message_due m s)) ≡ row_at part_key key (parts_in s)
due_others m s key others =
    all_stay (parts_among m.id (waiting_in m.handset s)) key s (λ l a. (parts_are m.id l (waiting_in m.handset s) a, others l a))
