-- What becomes of all that waits for a handset when a part, a report or a message changes.
use Rattle.std.proofs.Common.{◌≡◌, ◌⊎◌, ℕ, zero, suc, ◌<◌, List, Option, Some, None, true, false, refl, sym, ◌∙◌, ap, subst, inl, inr, ⊎_elim, arith}
use Rattle.std.proofs.lemmas.Bool.{cases_Bool, cases_eq, cond-true, cond-false}
use Rattle.sms_rows.specs.table.Keys.{pair_key}
use Rattle.sms_rows.specs.table.Table.{Rises, put, row_at}
use Rattle.sms_rows.proofs.table.Tables.{found_among, rises_put, rises_without, row_at_put, row_at_put_other, row_at_without, row_at_without_other}
use Rattle.sms_centre_rows.specs.declared.messages.message.MessageRow.{MessageRow}
use Rattle.sms_centre_rows.specs.declared.messages.part.PartRow.{PartRow}
use Rattle.sms_centre_rows.specs.declared.messages.priority.PriorityRow.{PriorityRow}
use Rattle.sms_centre_rows.specs.messages.Messages.{message_at, part_at, part_key}
use Rattle.sms_centre_rows.specs.messages.OpenParts.{part_queued, part_wait, waits_for}
use Rattle.sms_centre_rows.specs.declared.reports.report.ReportRow.{ReportRow}
use Rattle.sms_centre_rows.specs.reports.Reports.{report_of}
use Rattle.sms_centre_rows.specs.messages.OpenParts.{Numbered}
use Rattle.sms_centre_rows.specs.reports.Waiting.{Alone, report_queued, report_wait, reports_to, waiting_as, waiting_for}
use Rattle.sms_centre_rows.proofs.reports.AllWaiting.{part_waits_at, report_waits_at, rises_all}
use Rattle.sms_centre_rows.specs.declared.waiting.queued_part.QueuedPart.{QueuedPart}
use Rattle.sms_centre_rows.specs.waiting.Keys.{queued_key}
use Rattle.sms_centre_rows.specs.waiting.Waiting.{withdrawn}
use Rattle.sms_centre_rows.proofs.waiting.Alike.{pairs_alike}
use Rattle.sms_centre_rows.proofs.waiting.Withdrawing.{AreFew, rises_withdrawn, withdrawn_other, withdrawn_part}

-- ---- one key

rises_as : (key : ℕ) (o : Option QueuedPart) (ls : List QueuedPart) → Rises queued_key ls → Rises queued_key (waiting_as key o ls)
rises_as key None ls rises = rises_without queued_key key ls rises
rises_as key (Some l) ls rises = rises_put queued_key l ls rises

-- what waits there has the key
abbrev pub IsUnder : ℕ → Option QueuedPart → Type 0
IsUnder key None = Unit {0}
IsUnder key (Some l) = queued_key l ≡ key

as_here : (key : ℕ) (o : Option QueuedPart) (ls : List QueuedPart) → IsUnder key o → row_at queued_key key (waiting_as key o ls) ≡ o
as_here key None ls under = row_at_without queued_key key ls
as_here key (Some l) ls under = subst (λ (n : ℕ). row_at queued_key n (put queued_key l ls) ≡ Some l) under (row_at_put queued_key l ls)

as_other : (key k : ℕ) (o : Option QueuedPart) (ls : List QueuedPart) → IsUnder key o → ¬ (key ≡ k) → row_at queued_key k (waiting_as key o ls) ≡ row_at queued_key k ls
as_other key k None ls under ne = row_at_without_other queued_key key k ls ne
as_other key k (Some l) ls under ne = row_at_put_other queued_key k l ls (λ e. ne (sym under ∙ e))

part_under : (h : List ℕ) (ms : List MessageRow) (qs : List PriorityRow) (p : PartRow) → IsUnder (part_key p) (part_wait h ms qs (Some p))
part_under h ms qs p = ⊎_elim
    (λ (t : waits_for h p (message_at p.id ms) ≡ true). subst (λ (o : Option QueuedPart). IsUnder (part_key p) o) (sym (cond-true (waits_for h p (message_at p.id ms)) (Some (part_queued p qs)) None t)) (let e : part_key p ≡ part_key p = refl in e))
    (λ (t : waits_for h p (message_at p.id ms) ≡ false). subst (λ (o : Option QueuedPart). IsUnder (part_key p) o) (sym (cond-false (waits_for h p (message_at p.id ms)) (Some (part_queued p qs)) None t)) tt)
    (cases_Bool (waits_for h p (message_at p.id ms)))

report_under : (h : List ℕ) (ms : List MessageRow) (r : ReportRow) → IsUnder (pair_key r.id 0) (report_wait h ms (Some r))
report_under h ms r = ⊎_elim
    (λ (t : reports_to h r (message_at r.id ms) ≡ true). subst (λ (o : Option QueuedPart). IsUnder (pair_key r.id 0) o) (sym (cond-true (reports_to h r (message_at r.id ms)) (Some (report_queued r)) None t)) (let e : pair_key r.id 0 ≡ pair_key r.id 0 = refl in e))
    (λ (t : reports_to h r (message_at r.id ms) ≡ false). subst (λ (o : Option QueuedPart). IsUnder (pair_key r.id 0) o) (sym (cond-false (reports_to h r (message_at r.id ms)) (Some (report_queued r)) None t)) tt)
    (cases_Bool (reports_to h r (message_at r.id ms)))

-- ---- a number is 0 or greater

pub cases_number : (n : ℕ) → (n ≡ 0) ⊎ (0 < n)
cases_number zero = inl refl
cases_number (suc n) = inr (omega arith)

-- what waits is told by its parts and by its reports
by_numbers : (f : ℕ → ℕ → Type 0) → ((id : ℕ) → f id 0) → ((id n : ℕ) → 0 < n → n < 256 → f id n) → (id n : ℕ) → n < 256 → f id n
by_numbers f zeros others id n small = ⊎_elim
    (λ (e : n ≡ 0). subst (λ (k : ℕ). f id k) (sym e) (zeros id))
    (λ (some : 0 < n). others id n some small)
    (cases_number n)

-- ---- a part comes, or is so far

pub part_changes : (h : List ℕ) (ms : List MessageRow) (qs : List PriorityRow) (ps after : List PartRow) (rs : List ReportRow) (p : PartRow) → Numbered ps → Numbered after → Alone rs
    → row_at part_key (part_key p) after ≡ Some p → ((k : ℕ) → ¬ (part_key p ≡ k) → row_at part_key k after ≡ row_at part_key k ps)
    → waiting_for h ms qs after rs ≡ waiting_as (part_key p) (part_wait h ms qs (Some p)) (waiting_for h ms qs ps rs)
part_changes h ms qs ps after rs p numbered later alone here others =
    let under = part_under h ms qs p in
    let own = later.numbers p (found_among part_key (part_key p) p after here) in
    pairs_alike queued_key (waiting_for h ms qs after rs) (waiting_as (part_key p) (part_wait h ms qs (Some p)) (waiting_for h ms qs ps rs))
    (rises_all h ms qs after rs later) (rises_as (part_key p) (part_wait h ms qs (Some p)) (waiting_for h ms qs ps rs) (rises_all h ms qs ps rs numbered))
    (by_numbers (λ (id n : ℕ). row_at queued_key (pair_key id n) (waiting_for h ms qs after rs) ≡ row_at queued_key (pair_key id n) (waiting_as (part_key p) (part_wait h ms qs (Some p)) (waiting_for h ms qs ps rs)))
    (λ id. report_waits_at h ms qs after rs id later alone ∙ sym (report_waits_at h ms qs ps rs id numbered alone)
    ∙ sym (as_other (part_key p) (pair_key id 0) (part_wait h ms qs (Some p)) (waiting_for h ms qs ps rs) under (λ e. absurd (omega (arith, e, own.0, own.1)))))
    (λ id n some small. part_waits_at h ms qs after rs id n later some small ∙ ⊎_elim
    (λ (e : part_key p ≡ pair_key id n).
    ap (λ (o : Option PartRow). part_wait h ms qs o) (ap (λ (k : ℕ). row_at part_key k after) (sym e) ∙ here)
    ∙ sym (ap (λ (k : ℕ). row_at queued_key k (waiting_as (part_key p) (part_wait h ms qs (Some p)) (waiting_for h ms qs ps rs))) (sym e)
    ∙ as_here (part_key p) (part_wait h ms qs (Some p)) (waiting_for h ms qs ps rs) under))
    (λ (e : part_key p ≡ pair_key id n → ⊥).
    ap (λ (o : Option PartRow). part_wait h ms qs o) (others (pair_key id n) e) ∙ sym (part_waits_at h ms qs ps rs id n numbered some small)
    ∙ sym (as_other (part_key p) (pair_key id n) (part_wait h ms qs (Some p)) (waiting_for h ms qs ps rs) under e))
    (cases_eq (part_key p) (pair_key id n))))

-- ---- a report comes, or is so far

pub report_changes : (h : List ℕ) (ms : List MessageRow) (qs : List PriorityRow) (ps : List PartRow) (rs after : List ReportRow) (r : ReportRow) → Numbered ps → Alone rs → Alone after
    → report_of r.id after ≡ Some r → ((id : ℕ) → ¬ (r.id ≡ id) → report_of id after ≡ report_of id rs)
    → waiting_for h ms qs ps after ≡ waiting_as (pair_key r.id 0) (report_wait h ms (Some r)) (waiting_for h ms qs ps rs)
report_changes h ms qs ps rs after r numbered alone later here others =
    let under = report_under h ms r in
    let key : ℕ = pair_key r.id 0 in
    pairs_alike queued_key (waiting_for h ms qs ps after) (waiting_as key (report_wait h ms (Some r)) (waiting_for h ms qs ps rs))
    (rises_all h ms qs ps after numbered) (rises_as key (report_wait h ms (Some r)) (waiting_for h ms qs ps rs) (rises_all h ms qs ps rs numbered))
    (by_numbers (λ (id n : ℕ). row_at queued_key (pair_key id n) (waiting_for h ms qs ps after) ≡ row_at queued_key (pair_key id n) (waiting_as key (report_wait h ms (Some r)) (waiting_for h ms qs ps rs)))
    (λ id. report_waits_at h ms qs ps after id numbered later ∙ ⊎_elim
    (λ (e : r.id ≡ id).
    ap (λ (o : Option ReportRow). report_wait h ms o) (ap (λ (k : ℕ). report_of k after) (sym e) ∙ here)
    ∙ sym (ap (λ (k : ℕ). row_at queued_key (pair_key k 0) (waiting_as key (report_wait h ms (Some r)) (waiting_for h ms qs ps rs))) (sym e)
    ∙ as_here key (report_wait h ms (Some r)) (waiting_for h ms qs ps rs) under))
    (λ (e : r.id ≡ id → ⊥).
    ap (λ (o : Option ReportRow). report_wait h ms o) (others id e) ∙ sym (report_waits_at h ms qs ps rs id numbered alone)
    ∙ sym (as_other key (pair_key id 0) (report_wait h ms (Some r)) (waiting_for h ms qs ps rs) under (λ q. e (omega (arith, q)))))
    (cases_eq r.id id))
    (λ id n some small. part_waits_at h ms qs ps after id n numbered some small ∙ sym (part_waits_at h ms qs ps rs id n numbered some small)
    ∙ sym (as_other key (pair_key id n) (report_wait h ms (Some r)) (waiting_for h ms qs ps rs) under (λ e. absurd (omega (arith, e, some, small))))))

-- ---- messages and priorities change, and what waits stays

pub nothing_changes : (h : List ℕ) (ms others : List MessageRow) (qs priorities : List PriorityRow) (ps : List PartRow) (rs : List ReportRow) → Numbered ps → Alone rs
    → ((id n : ℕ) → 0 < n → n < 256 → part_wait h others priorities (part_at id n ps) ≡ part_wait h ms qs (part_at id n ps))
    → ((id : ℕ) → report_wait h others (report_of id rs) ≡ report_wait h ms (report_of id rs))
    → waiting_for h others priorities ps rs ≡ waiting_for h ms qs ps rs
nothing_changes h ms others qs priorities ps rs numbered alone parts reports =
    pairs_alike queued_key (waiting_for h others priorities ps rs) (waiting_for h ms qs ps rs) (rises_all h others priorities ps rs numbered) (rises_all h ms qs ps rs numbered)
    (by_numbers (λ (id n : ℕ). row_at queued_key (pair_key id n) (waiting_for h others priorities ps rs) ≡ row_at queued_key (pair_key id n) (waiting_for h ms qs ps rs))
    (λ id. report_waits_at h others priorities ps rs id numbered alone ∙ reports id ∙ sym (report_waits_at h ms qs ps rs id numbered alone))
    (λ id n some small. part_waits_at h others priorities ps rs id n numbered some small ∙ parts id n some small ∙ sym (part_waits_at h ms qs ps rs id n numbered some small)))

-- ---- a message ends: its parts wait no more

pub message_ends : (h : List ℕ) (ms others : List MessageRow) (qs : List PriorityRow) (ps : List PartRow) (rs : List ReportRow) (id : ℕ) → Numbered ps → Alone rs
    → ((n : ℕ) → 0 < n → n < 256 → part_wait h others qs (part_at id n ps) ≡ None)
    → ((i n : ℕ) → n < 256 → ¬ (i ≡ id) → part_wait h others qs (part_at i n ps) ≡ part_wait h ms qs (part_at i n ps))
    → ((i : ℕ) → report_wait h others (report_of i rs) ≡ report_wait h ms (report_of i rs))
    → AreFew (waiting_for h ms qs ps rs)
    → waiting_for h others qs ps rs ≡ withdrawn id (waiting_for h ms qs ps rs)
message_ends h ms others qs ps rs id numbered alone own parts reports few =
    let w : List QueuedPart = waiting_for h ms qs ps rs in
    pairs_alike queued_key (waiting_for h others qs ps rs) (withdrawn id w) (rises_all h others qs ps rs numbered) (rises_withdrawn id w (rises_all h ms qs ps rs numbered))
    (by_numbers (λ (i n : ℕ). row_at queued_key (pair_key i n) (waiting_for h others qs ps rs) ≡ row_at queued_key (pair_key i n) (withdrawn id w))
    (λ i. report_waits_at h others qs ps rs i numbered alone ∙ reports i ∙ sym (report_waits_at h ms qs ps rs i numbered alone)
    ∙ sym (withdrawn_other id i 0 w few (omega arith) (inr refl)))
    (λ i n some small. part_waits_at h others qs ps rs i n numbered some small ∙ ⊎_elim
    (λ (e : i ≡ id).
    ap (λ (k : ℕ). part_wait h others qs (part_at k n ps)) e ∙ own n some small
    ∙ sym (ap (λ (k : ℕ). row_at queued_key (pair_key k n) (withdrawn id w)) e ∙ withdrawn_part id n w few some small))
    (λ (e : i ≡ id → ⊥).
    parts i n small e ∙ sym (part_waits_at h ms qs ps rs i n numbered some small) ∙ sym (withdrawn_other id i n w few small (inl e)))
    (cases_eq i id)))
