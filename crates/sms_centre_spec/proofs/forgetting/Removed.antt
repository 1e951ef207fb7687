-- The stages that forget leave the rows without the messages of their numbers, and change nothing else.
use Rattle.std.proofs.Common.{◌≡◌, ℕ, zero, suc, ◌+◌, ◌*◌, ◌<◌, ◌≤◌, arith, List, [], ◌∷◌, ◌++◌, map, Bool, true, false, Option, Some, None, refl, sym, ◌∙◌, ap, subst, inl, inr, ⊎_elim, append-nil, append_assoc, eq-eqb}
use Rattle.std.specs.Prelude.{◌⊎◌, ◌==◌, ◌||◌, nat_lt, if◌then◌else◌}
use Rattle.std.proofs.lemmas.Bool.{cases_Bool, cases_eq, eqb-true, ne_eqb, or_right}
use Rattle.sms_base.specs.Among.{Among}
use Rattle.sms_rows.specs.declared.table.change.Change.TheVariants.{Remove as RemoveRow}
use Rattle.sms_rows.specs.table.Since.{Since, oldest_first as changes_of, take_out, untouched}
use Rattle.sms_rows.specs.table.Keys.{pair_key}
use Rattle.sms_rows.specs.table.Table.{AllAbove, Rises, row_at, rows_from, without}
use Rattle.sms_rows.proofs.table.Tables.{found_key, row_behind, row_here, without_behind}
use Rattle.sms_centre_rows.specs.declared.messages.bar.BarRow.{BarRow}
use Rattle.sms_centre_rows.specs.declared.messages.message.MessageRow.{MessageRow}
use Rattle.sms_centre_rows.specs.declared.messages.part.PartRow.{PartRow}
use Rattle.sms_centre_rows.specs.declared.messages.priority.PriorityRow.{PriorityRow}
use Rattle.sms_centre_rows.specs.declared.messages.claim.Claim.{Claim}
use Rattle.sms_centre_rows.specs.messages.Bars.{bars_of, claims_of, put_bars, with_bars}
use Rattle.sms_centre_rows.specs.messages.Messages.{Messages, message_at, message_key, part_at, part_key, part_reaching, priority_key}
use Rattle.sms_centre_rows.specs.messages.SplitReferences.{is_among}
use Rattle.sms_centre_rows.specs.declared.reports.report.ReportRow.{ReportRow}
use Rattle.sms_centre_rows.specs.reports.Reports.{report_key, report_of, reports_of}
use Rattle.sms_centre_rows.specs.reports.SoundReports.{AreOnce}
use Rattle.sms_centre_rows.proofs.reports.AllWaiting.{report_behind, report_found, report_here}
use Rattle.sms_centre_rows.specs.waiting.References.{Allocations}
use Rattle.sms_centre_rows.specs.waiting.Revisions.{Revised, rows_of as revised_rows}
use Rattle.sms_centre_spec.specs.declared.rows.Rows.{Rows}
use Rattle.sms_centre_spec.specs.Draft.{Core, Store, changes_in, core_of, messages_in, parts_in, priorities_in, reports_in, rows_after, rows_of, store_of}
use Rattle.sms_centre_spec.specs.Planning.{adopted, outcome_of}
use Rattle.sms_centre_spec.specs.SoundRows.{IsSound}
use Rattle.sms_centre_spec.specs.forgetting.Forget.{claims_at, claims_by, forget, going_now, is_going_now, may_go_now, message_gone, messages_gone, part_gone, part_out, parts_out, remove_in, report_gone, report_out, without_message, without_priority}
use Rattle.sms_centre_spec.specs.forgetting.Forgetting.{bars_beside, claims_left, going, going_from, kept, part_id, report_id, rows_cut, rows_without}
use Rattle.sms_centre_spec.specs.forgetting.Forgot.{core_without}
use Rattle.sms_centre_spec.proofs.Resting.{base_of, store_commits}
use Rattle.sms_centre_spec.proofs.forgetting.Going.{gone, gone_from, one_row}
use Rattle.sms_centre_spec.proofs.forgetting.BarsStand.{all_put, puts_base}
use Rattle.sms_centre_spec.proofs.forgetting.Kept.{kept_among, rises_kept}
use Rattle.sms_centre_spec.proofs.forgetting.Splits.{above_among}

-- ---- tests of numbers

pub turn : (a b : ℕ) → (a == b) ≡ (b == a)
turn a b = ⊎_elim
    (λ (e : a ≡ b). eq-eqb a b e ∙ sym (eq-eqb b a (sym e)))
    (λ (e : a ≡ b → ⊥). ne_eqb a b e ∙ sym (ne_eqb b a (λ f. e (sym f))))
    (cases_eq a b)

or_swap : (a b : Bool) → (a || b) ≡ (b || a)
or_swap true true = refl
or_swap true false = refl
or_swap false true = refl
or_swap false false = refl

-- the same rows stay where the tests agree on each
kept_same : {A : Type 0} (f g : A → ℕ) (p q : ℕ → Bool) (xs : List A) → ((x : A) → Among x xs → p (f x) ≡ q (g x)) → kept f p xs ≡ kept g q xs
kept_same f g p q [] e = refl
kept_same {A = A} f g p q (x ∷ xs) e =
    ap (λ (b : Bool). if b then kept f p xs else x ∷ kept f p xs) (e x (inl refl))
    ∙ ap (λ (l : List A). if q (g x) then l else x ∷ l) (kept_same f g p q xs (λ y a. e y (inr a)))

kept_all : {A : Type 0} (f : A → ℕ) (xs : List A) → kept f (λ (n : ℕ). false) xs ≡ xs
kept_all f [] = refl
kept_all {A = A} f (x ∷ xs) = ap (λ (l : List A). x ∷ l) (kept_all f xs)

kept_twice : {A : Type 0} (f : A → ℕ) (p q : ℕ → Bool) (xs : List A) → kept f q (kept f p xs) ≡ kept f (λ (n : ℕ). p n || q n) xs
kept_twice f p q [] = refl
kept_twice {A = A} f p q (x ∷ xs) = go (p (f x)) (kept_twice f p q xs)
  where
    few : List A
    few = kept f p xs

    rest : List A
    rest = kept f (λ (n : ℕ). p n || q n) xs

    go : (b : Bool) → kept f q few ≡ rest → kept f q (if b then few else x ∷ few) ≡ (if b || q (f x) then rest else x ∷ rest)
    go true e = e
    go false e = ap (λ (l : List A). if q (f x) then l else x ∷ l) e

without_one : {A : Type 0} (key : A → ℕ) (n : ℕ) (xs : List A) → without key n xs ≡ kept key (λ (k : ℕ). k == n) xs
without_one key n [] = refl
without_one {A = A} key n (x ∷ xs) = ap (λ (l : List A). if key x == n then l else x ∷ l) (without_one key n xs)

-- ---- parts

unfoldable keys_to : ℕ → ℕ → List ℕ
keys_to id zero = []
keys_to id (suc n) = pair_key id (suc n) ∷ keys_to id n

abbrev rows_of_parts : Revised PartRow → List PartRow
rows_of_parts t = revised_rows part_key part_reaching t

abbrev part_after : Option PartRow → Revised PartRow → Revised PartRow
part_after None t = t
part_after (Some p) t = remove_in (part_key p) t

unfoldable parts_after : ℕ → ℕ → Revised PartRow → Revised PartRow
parts_after id zero t = t
parts_after id (suc n) t = part_after (part_at id (suc n) (rows_of_parts (parts_after id n t))) (parts_after id n t)

part_only : (o : Option PartRow) (m : Messages) → part_gone o m ≡ record m { parts = part_after o m.parts }
part_only None m = refl
part_only (Some p) m = refl

parts_only : (id n : ℕ) (m : Messages) → parts_out id n m ≡ record m { parts = parts_after id n m.parts }
unfolding parts_out parts_after
parts_only id zero m = refl
parts_only id (suc n) m =
    let t : Revised PartRow = parts_after id n m.parts in
    ap (λ (e : Messages). part_out id (suc n) e) (parts_only id n m) ∙ part_only (part_at id (suc n) (rows_of_parts t)) (record m { parts = t })

part_base : (o : Option PartRow) (t : Revised PartRow) → (part_after o t).base ≡ t.base
part_base None t = refl
part_base (Some p) t = refl

parts_base : (id n : ℕ) (t : Revised PartRow) → (parts_after id n t).base ≡ t.base
unfolding parts_after
parts_base id zero t = refl
parts_base id (suc n) t = part_base (part_at id (suc n) (rows_of_parts (parts_after id n t))) (parts_after id n t) ∙ parts_base id n t

-- what is not there need not be taken out
absent_same : (k : ℕ) (ps : List PartRow) → row_at part_key k ps ≡ None → without part_key k ps ≡ ps
absent_same k [] e = refl
absent_same k (p ∷ ps) e = ⊎_elim
    (λ (h : part_key p ≡ k). let bad : Some p ≡ None = sym (row_here part_key k p ps h) ∙ e in absurd cc)
    (λ (h : part_key p ≡ k → ⊥). without_behind part_key k p ps h ∙ ap (λ (l : List PartRow). p ∷ l) (absent_same k ps (sym (row_behind part_key k p ps h) ∙ e)))
    (cases_eq (part_key p) k)

one_out : (k : ℕ) (t : Revised PartRow) (o : Option PartRow) → row_at part_key k (rows_of_parts t) ≡ o → rows_of_parts (part_after o t) ≡ without part_key k (rows_of_parts t)
one_out k t None e = sym (absent_same k (rows_of_parts t) e)
one_out k t (Some p) e = ap (λ (n : ℕ). without part_key n (rows_of_parts t)) (found_key part_key k p (rows_of_parts t) e)

parts_left : (id n : ℕ) (t : Revised PartRow) → rows_of_parts (parts_after id n t) ≡ kept part_key (λ (k : ℕ). is_among k (keys_to id n)) (rows_of_parts t)
unfolding parts_after keys_to
parts_left id zero t = sym (kept_all part_key (rows_of_parts t))
parts_left id (suc n) t =
    let u : Revised PartRow = parts_after id n t in
    let rows : List PartRow = rows_of_parts t in
    let key : ℕ = pair_key id (suc n) in
    one_out key u (part_at id (suc n) (rows_of_parts u)) refl
    ∙ ap (λ (l : List PartRow). without part_key key l) (parts_left id n t)
    ∙ without_one part_key key (kept part_key (λ (k : ℕ). is_among k (keys_to id n)) rows)
    ∙ kept_twice part_key (λ (k : ℕ). is_among k (keys_to id n)) (λ (k : ℕ). k == key) rows
    ∙ kept_same part_key part_key (λ (k : ℕ). is_among k (keys_to id n) || (k == key)) (λ (k : ℕ). is_among k (keys_to id (suc n))) rows
    (λ x a. or_swap (is_among (part_key x) (keys_to id n)) (part_key x == key) ∙ ap (λ (b : Bool). b || is_among (part_key x) (keys_to id n)) (turn (part_key x) key))

-- a key is among them exactly where its part is of the message
key_there : (id n number : ℕ) → 0 < number → number ≤ n → is_among (pair_key id number) (keys_to id n) ≡ true
unfolding keys_to
key_there id zero number some l = absurd (omega (arith, some, l))
key_there id (suc n) number some l = ⊎_elim
    (λ (e : number ≡ suc n).
    ap (λ (b : Bool). b || is_among (pair_key id number) (keys_to id n)) (eq-eqb (pair_key id (suc n)) (pair_key id number) (ap (λ (k : ℕ). pair_key id k) (sym e))))
    (λ (e : number ≡ suc n → ⊥).
    or_right (pair_key id (suc n) == pair_key id number) (is_among (pair_key id number) (keys_to id n)) (key_there id n number some (omega (arith, l, e))))
    (cases_eq number (suc n))

-- and the number of such a key
record Numbered (id n k : ℕ) : Type 0 where
  number : ℕ
  few : number ≤ n
  key : pair_key id number ≡ k

key_number : (id n k : ℕ) → is_among k (keys_to id n) ≡ true → Numbered id n k
unfolding keys_to
key_number id zero k e = let bad : false ≡ true = e in absurd cc
key_number id (suc n) k e = ⊎_elim
    (λ (t : (pair_key id (suc n) == k) ≡ true). record { number = suc n; few = omega arith; key = eqb-true (pair_key id (suc n)) k t })
    (λ (t : (pair_key id (suc n) == k) ≡ false).
    let f = key_number id n k (sym (ap (λ (b : Bool). b || is_among k (keys_to id n)) t) ∙ e) in
    let l : f.number ≤ n = f.few in
    let is : Numbered id (suc n) k = record { number = f.number; few = omega (arith, l); key = f.key } in is)
    (cases_Bool (pair_key id (suc n) == k))

part_test : (id : ℕ) (p : PartRow) → 0 < p.number → p.number ≤ 20 → is_among (part_key p) (keys_to id 20) ≡ (p.id == id)
part_test id p some few = ⊎_elim
    (λ (e : p.id ≡ id). ap (λ (n : ℕ). is_among (pair_key n p.number) (keys_to id 20)) e ∙ key_there id 20 p.number some few ∙ sym (eq-eqb p.id id e))
    (λ (e : p.id ≡ id → ⊥). ⊎_elim
    (λ (t : is_among (part_key p) (keys_to id 20) ≡ true).
    let f = key_number id 20 (part_key p) t in
    let l : f.number ≤ 20 = f.few in
    let k : 256 * id + f.number ≡ 256 * p.id + p.number = f.key in
    absurd (e (omega (arith, l, k, few))))
    (λ (t : is_among (part_key p) (keys_to id 20) ≡ false). t ∙ sym (ne_eqb p.id id e))
    (cases_Bool (is_among (part_key p) (keys_to id 20))))
    (cases_eq p.id id)

-- ---- a report

report_base : (o : Option ReportRow) (t : Revised ReportRow) → (report_gone o t).base ≡ t.base
report_base None t = refl
report_base (Some r) t = refl

no_report : (id : ℕ) (r : ReportRow) (rs : List ReportRow) → report_of id rs ≡ None → Among r rs → (r.id == id) ≡ false
no_report id r [] e a = absurd a
no_report id r (x ∷ xs) e a = ⊎_elim
    (λ (q : x.id ≡ id). let bad : Some x ≡ None = sym (report_here id x xs q) ∙ e in absurd cc)
    (λ (q : x.id ≡ id → ⊥). ⊎_elim
    (λ (f : r ≡ x). ne_eqb r.id id (λ g. q (ap (λ (y : ReportRow). y.id) (sym f) ∙ g)))
    (λ (b : Among r xs). no_report id r xs (sym (report_behind id x xs q) ∙ e) b)
    a)
    (cases_eq x.id id)

report_left : (id : ℕ) (t : Revised ReportRow) → Rises report_key (reports_of t) → AreOnce (reports_of t)
    → reports_of (report_out id t) ≡ kept report_id (λ (n : ℕ). n == id) (reports_of t)
report_left id t rises once = of (report_of id (reports_of t)) refl
  where
    rows : List ReportRow
    rows = reports_of t

    of : (o : Option ReportRow) → report_of id rows ≡ o → reports_of (report_gone o t) ≡ kept report_id (λ (n : ℕ). n == id) rows
    of None e = sym (kept_same report_id report_id (λ (n : ℕ). n == id) (λ (n : ℕ). false) rows (λ x a. no_report id x rows e a) ∙ kept_all report_id rows)
    of (Some r) e =
        let f = report_found id r rows e in
        without_one report_key (report_key r) rows ∙ kept_same report_key report_id (λ (k : ℕ). k == report_key r) (λ (n : ℕ). n == id) rows (λ x a. ⊎_elim
        (λ (q : x.place ≡ r.place).
        let same : x ≡ r = one_row report_key x r rows rises a f.0 q in
        eq-eqb x.place r.place q ∙ sym (eq-eqb x.id id (ap (λ (y : ReportRow). y.id) same ∙ f.1)))
        (λ (q : x.place ≡ r.place → ⊥). ne_eqb x.place r.place q ∙ sym (ne_eqb x.id id (λ g. q (once x r a f.0 (g ∙ sym f.1)))))
        (cases_eq x.place r.place))

-- ---- one message

-- what is so of sound rows, and of what is left of them
record Sure (rows : Rows) : Type 0 where
  numbers : (p : PartRow) → Among p rows.parts → (0 < p.number) × (p.number ≤ 20)
  report_keys : Rises report_key rows.reports
  once : AreOnce rows.reports

sure_left : (goes : ℕ → Bool) (rows : Rows) → Sure rows → Sure (rows_cut goes rows)
sure_left goes rows s = record {
  numbers = λ p a. s.numbers p (kept_among part_id goes p rows.parts a).0;
  report_keys = rises_kept report_id goes report_key rows.reports s.report_keys;
  once = λ r x a b e. s.once r x (kept_among report_id goes r rows.reports a).0 (kept_among report_id goes x rows.reports b).0 e;
}

abbrev left : ℕ → Store → Store
left id s = record s {
  messages = record {
    messages = take_out id s.messages.messages;
    parts = parts_after id 20 s.messages.parts;
    priorities = take_out id s.messages.priorities;
  };
  reports = report_out id s.reports;
}

gone_is : (id : ℕ) (s : Store) → message_gone id s ≡ left id s
gone_is id s = ap (λ (m : Messages). record s { messages = without_message id (without_priority id m); reports = report_out id s.reports }) (parts_only id 20 s.messages)

one_left : (id : ℕ) (s : Store) → Sure (rows_of s) → rows_of (left id s) ≡ rows_cut (λ (n : ℕ). n == id) (rows_of s)
one_left id s sure =
    let is : ℕ → Bool = λ (n : ℕ). n == id in
    let z : Rows = rows_of (left id s) in
    let w : Rows = rows_cut is (rows_of s) in
    let parts : z.parts ≡ w.parts =
    parts_left id 20 s.messages.parts
    ∙ kept_same part_key part_id (λ (k : ℕ). is_among k (keys_to id 20)) is (parts_in s) (λ p a. let n = sure.numbers p a in part_test id p n.0 n.1) in
    ap (λ (l : List MessageRow). record z { messages = l }) (without_one message_key id (messages_in s))
    ∙ ap (λ (l : List PartRow). record z { messages = w.messages; parts = l }) parts
    ∙ ap (λ (l : List ReportRow). record z { messages = w.messages; parts = w.parts; reports = l }) (report_left id s.reports sure.report_keys sure.once)
    ∙ ap (λ (l : List PriorityRow). record z { messages = w.messages; parts = w.parts; reports = w.reports; priorities = l }) (without_one priority_key id (priorities_in s))

-- ---- all of them

rows_same : (p q : ℕ → Bool) (rows : Rows) → ((n : ℕ) → p n ≡ q n) → rows_cut p rows ≡ rows_cut q rows
rows_same p q rows e =
    let z : Rows = rows_cut p rows in
    let w : Rows = rows_cut q rows in
    ap (λ (l : List MessageRow). record z { messages = l }) (kept_same message_key message_key p q rows.messages (λ x a. e x.id))
    ∙ ap (λ (l : List PartRow). record z { messages = w.messages; parts = l }) (kept_same part_id part_id p q rows.parts (λ x a. e x.id))
    ∙ ap (λ (l : List ReportRow). record z { messages = w.messages; parts = w.parts; reports = l }) (kept_same report_id report_id p q rows.reports (λ x a. e x.id))
    ∙ ap (λ (l : List PriorityRow). record z { messages = w.messages; parts = w.parts; reports = w.reports; priorities = l }) (kept_same priority_key priority_key p q rows.priorities (λ x a. e x.id))

rows_twice : (p q : ℕ → Bool) (rows : Rows) → rows_cut q (rows_cut p rows) ≡ rows_cut (λ (n : ℕ). p n || q n) rows
rows_twice p q rows =
    let z : Rows = rows_cut q (rows_cut p rows) in
    let w : Rows = rows_cut (λ (n : ℕ). p n || q n) rows in
    ap (λ (l : List MessageRow). record z { messages = l }) (kept_twice message_key p q rows.messages)
    ∙ ap (λ (l : List PartRow). record z { messages = w.messages; parts = l }) (kept_twice part_id p q rows.parts)
    ∙ ap (λ (l : List ReportRow). record z { messages = w.messages; parts = w.parts; reports = l }) (kept_twice report_id p q rows.reports)
    ∙ ap (λ (l : List PriorityRow). record z { messages = w.messages; parts = w.parts; reports = w.reports; priorities = l }) (kept_twice priority_key p q rows.priorities)

rows_all : (rows : Rows) → rows_cut (λ (n : ℕ). false) rows ≡ rows
rows_all rows =
    let z : Rows = rows_cut (λ (n : ℕ). false) rows in
    ap (λ (l : List MessageRow). record z { messages = l }) (kept_all message_key rows.messages)
    ∙ ap (λ (l : List PartRow). record z { messages = rows.messages; parts = l }) (kept_all part_id rows.parts)
    ∙ ap (λ (l : List ReportRow). record z { messages = rows.messages; parts = rows.parts; reports = l }) (kept_all report_id rows.reports)
    ∙ ap (λ (l : List PriorityRow). record z { messages = rows.messages; parts = rows.parts; reports = rows.reports; priorities = l }) (kept_all priority_key rows.priorities)

all_left : (ids : List ℕ) (s : Store) → Sure (rows_of s) → rows_of (messages_gone ids s) ≡ rows_cut (λ (n : ℕ). is_among n ids) (rows_of s)
all_left [] s sure = sym (rows_all (rows_of s))
all_left (id ∷ ids) s sure =
    let is : ℕ → Bool = λ (n : ℕ). n == id in
    let rest : ℕ → Bool = λ (n : ℕ). is_among n ids in
    let one : rows_of (message_gone id s) ≡ rows_cut is (rows_of s) = ap (λ (e : Store). rows_of e) (gone_is id s) ∙ one_left id s sure in
    all_left ids (message_gone id s) (subst (λ (r : Rows). Sure r) (sym one) (sure_left is (rows_of s) sure))
    ∙ ap (λ (r : Rows). rows_cut rest r) one
    ∙ rows_twice is rest (rows_of s)
    ∙ rows_same (λ (n : ℕ). is n || rest n) (λ (n : ℕ). is_among n (id ∷ ids)) (rows_of s) (λ n. ap (λ (b : Bool). b || rest n) (turn n id))

pub moment_kept : (ids : List ℕ) (s : Store) → (messages_gone ids s).moment ≡ s.moment
moment_kept [] s = refl
moment_kept (id ∷ ids) s = moment_kept ids (message_gone id s)

one_base : (id : ℕ) (s : Store) → base_of (left id s) ≡ base_of s
one_base id s =
    let z : Rows = base_of (left id s) in
    ap (λ (l : List PartRow). record z { parts = l }) (parts_base id 20 s.messages.parts)
    ∙ ap (λ (l : List ReportRow). record z { parts = s.messages.parts.base; reports = l }) (report_base (report_of id (reports_in s)) s.reports)

pub base_kept : (ids : List ℕ) (s : Store) → base_of (messages_gone ids s) ≡ base_of s
base_kept [] s = refl
base_kept (id ∷ ids) s = base_kept ids (message_gone id s) ∙ ap (λ (e : Store). base_of e) (gone_is id s) ∙ one_base id s

-- ---- the event

sure_rows : (rows : Rows) → IsSound rows → Sure rows
sure_rows rows s = record { numbers = λ p a. let i = s.messages.each_part p a in (i.first, i.few); report_keys = s.reports.keys; once = s.reports.once }

pub rows_left : (ids : List ℕ) (rows : Rows) (moment : ℕ) → IsSound rows → rows_of (messages_gone ids (store_of rows moment)) ≡ rows_cut (λ (n : ℕ). is_among n ids) rows
rows_left ids rows moment s = all_left ids (store_of rows moment) (sure_rows rows s)

pub bars_kept : (ids : List ℕ) (s : Store) → (messages_gone ids s).bars ≡ s.bars
bars_kept [] s = refl
bars_kept (id ∷ ids) s = bars_kept ids (message_gone id s)

-- ---- what they lay claim to, by their numbers and by their messages

-- none of these numbers is lower
abbrev AreFrom : ℕ → List ℕ → Type 0
AreFrom n ids = (id : ℕ) → is_among id ids ≡ true → n ≤ id

going_above : (test : MessageRow → Bool) (most n : ℕ) (ms : List MessageRow) → AllAbove message_key n ms → AreFrom (suc n) (going test most ms)
going_above test most n ms h id e =
    let g = gone test most ms id e in
    let low : n < g.row.id = above_among n g.row ms h g.among in
    let own : g.row.id ≡ id = g.own in omega (arith, low, own)

-- a message that is lower than all of them is none of them
lower_out : (m : MessageRow) (ids : List ℕ) → AreFrom (suc m.id) ids → is_among m.id ids ≡ false
lower_out m ids f = ⊎_elim
    (λ (t : is_among m.id ids ≡ true). let low : suc m.id ≤ m.id = f m.id t in absurd (omega (arith, low)))
    (λ (t : is_among m.id ids ≡ false). t)
    (cases_Bool (is_among m.id ids))

claims_behind : (m : MessageRow) (ms : List MessageRow) (ps : List PartRow) (ids : List ℕ) → AreFrom (suc m.id) ids → claims_by ids (m ∷ ms) ps ≡ claims_by ids ms ps
claims_behind m ms ps [] f = refl
claims_behind m ms ps (id ∷ ids) f =
    let other : m.id ≡ id → ⊥ = λ e. let low : suc m.id ≤ id = f id (ap (λ (b : Bool). b || is_among id ids) (eq-eqb id id refl)) in omega (arith, low, e) in
    ap (λ (o : Option MessageRow). claims_at o ps ++ claims_by ids (m ∷ ms) ps) (row_behind message_key id m ms other)
    ∙ ap (λ (l : List Claim). claims_at (message_at id ms) ps ++ l) (claims_behind m ms ps ids (λ n e. f n (or_right (id == n) (is_among n ids) e)))

left_same : (p q : ℕ → Bool) (ms : List MessageRow) (ps : List PartRow) → ((m : MessageRow) → Among m ms → p m.id ≡ q m.id) → claims_left p ms ps ≡ claims_left q ms ps
left_same p q [] ps e = refl
left_same p q (m ∷ ms) ps e =
    ap (λ (b : Bool). (if b then claims_of m ps else []) ++ claims_left p ms ps) (e m (inl refl))
    ∙ ap (λ (l : List Claim). (if q m.id then claims_of m ps else []) ++ l) (left_same p q ms ps (λ x a. e x (inr a)))

none_left : (ms : List MessageRow) (ps : List PartRow) → claims_left (λ (n : ℕ). false) ms ps ≡ []
none_left [] ps = refl
none_left (m ∷ ms) ps = none_left ms ps

by_message : (test : MessageRow → Bool) (most : ℕ) (ms : List MessageRow) (ps : List PartRow) → Rises message_key ms
    → claims_by (going test most ms) ms ps ≡ claims_left (λ (n : ℕ). is_among n (going test most ms)) ms ps
by_message test zero ms ps rises = sym (none_left ms ps)
by_message test (suc most) [] ps rises = refl
by_message test (suc most) (m ∷ ms) ps rises = of (by_message test most ms ps rises.1) (test m)
  where
    ids : List ℕ
    ids = going test most ms

    high : AreFrom (suc m.id) ids
    high = going_above test most m.id ms rises.0

    of : claims_by ids ms ps ≡ claims_left (λ (n : ℕ). is_among n ids) ms ps → (b : Bool)
        → claims_by (if b then m.id ∷ ids else ids) (m ∷ ms) ps ≡ claims_left (λ (n : ℕ). is_among n (if b then m.id ∷ ids else ids)) (m ∷ ms) ps
    of rest true =
        ap (λ (o : Option MessageRow). claims_at o ps ++ claims_by ids (m ∷ ms) ps) (row_here message_key m.id m ms refl)
        ∙ ap (λ (l : List Claim). claims_of m ps ++ l) (claims_behind m ms ps ids high ∙ rest
        ∙ left_same (λ (n : ℕ). is_among n ids) (λ (n : ℕ). is_among n (m.id ∷ ids)) ms ps (λ x a.
        let low : m.id < x.id = above_among m.id x ms rises.0 a in
        sym (ap (λ (b : Bool). b || is_among x.id ids) (ne_eqb m.id x.id (λ e. absurd (omega (arith, low, e)))))))
        ∙ ap (λ (b : Bool). (if b || is_among m.id ids then claims_of m ps else []) ++ claims_left (λ (n : ℕ). is_among n (m.id ∷ ids)) ms ps) (sym (eq-eqb m.id m.id refl))
    of rest false =
        claims_behind m ms ps ids high ∙ rest
        ∙ ap (λ (b : Bool). (if b then claims_of m ps else []) ++ claims_left (λ (n : ℕ). is_among n ids) ms ps) (sym (lower_out m ids high))

pub from_that : (test : MessageRow → Bool) (from most : ℕ) (ms : List MessageRow) (ps : List PartRow) → Rises message_key ms
    → claims_by (going_from test from most ms) ms ps ≡ claims_left (λ (n : ℕ). is_among n (going_from test from most ms)) ms ps
from_that test from most [] ps rises = by_message test most [] ps rises
from_that test from most (m ∷ ms) ps rises = of (from_that test from most ms ps rises.1) (nat_lt m.id from)
  where
    ids : List ℕ
    ids = going_from test from most ms

    high : AreFrom (suc m.id) ids
    high id t =
        let g = gone_from test from most ms id t in
        let low : m.id < g.row.id = above_among m.id g.row ms rises.0 g.among in
        let own : g.row.id ≡ id = g.own in omega (arith, low, own)

    of : claims_by ids ms ps ≡ claims_left (λ (n : ℕ). is_among n ids) ms ps → (b : Bool)
        → claims_by (going test most (if b then rows_from message_key from ms else m ∷ ms)) (m ∷ ms) ps
        ≡ claims_left (λ (n : ℕ). is_among n (going test most (if b then rows_from message_key from ms else m ∷ ms))) (m ∷ ms) ps
    of rest false = by_message test most (m ∷ ms) ps rises
    of rest true =
        claims_behind m ms ps ids high ∙ rest
        ∙ ap (λ (b : Bool). (if b then claims_of m ps else []) ++ claims_left (λ (n : ℕ). is_among n ids) ms ps) (sym (lower_out m ids high))

pub forget_leaves : (before from most : ℕ) (c : Core) → IsSound c.rows → core_of (forget before from most c) ≡ core_without (is_going_now before from most c) c
forget_leaves before from most c s =
    let ids : List ℕ = going_now before from most c in
    let goes : ℕ → Bool = is_going_now before from most c in
    let start : Store = store_of c.rows c.moment in
    let d : Store = messages_gone ids start in
    let claims : List Claim = claims_by ids c.rows.messages c.rows.parts in
    let bars : bars_of (put_bars claims d.bars) ≡ bars_beside goes c.rows =
    ap (λ (t : Since BarRow). bars_of (put_bars claims t)) (bars_kept ids start) ∙ all_put claims (untouched c.rows.bars)
    ∙ ap (λ (l : List Claim). with_bars l c.rows.bars) (from_that (may_go_now before c) from most c.rows.messages c.rows.parts s.messages.message_keys) in
    ap (λ (l : List BarRow). record { rows = record (rows_of d) { bars = l }; moment = d.moment; links = c.links; sessions = c.sessions }) bars
    ∙ ap (λ (r : Rows). record { rows = record r { bars = bars_beside goes c.rows }; moment = d.moment; links = c.links; sessions = c.sessions }) (all_left ids start (sure_rows c.rows s))
    ∙ ap (λ (n : ℕ). record { rows = rows_without goes c.rows; moment = n; links = c.links; sessions = c.sessions }) (moment_kept ids start)

pub forget_commits : (before from most : ℕ) (c : Core) → adopted (outcome_of (forget before from most c)) c ≡ core_of (forget before from most c)
forget_commits before from most c =
    let ids : List ℕ = going_now before from most c in
    let s : Store = (forget before from most c).store in
    let d : Store = messages_gone ids (store_of c.rows c.moment) in
    let base : base_of s ≡ c.rows =
    ap (λ (l : List BarRow). record (base_of d) { bars = l }) (puts_base (claims_by ids c.rows.messages c.rows.parts) d.bars) ∙ base_kept ids (store_of c.rows c.moment) in
    ap (λ (r : Rows). record { rows = r; moment = s.moment; links = c.links; sessions = c.sessions }) (ap (λ (r : Rows). rows_after (changes_in s) r) (sym base) ∙ store_commits s)

pub forget_bars : (before from most : ℕ) (c : Core) → (changes_in (forget before from most c).store).bars
    ≡ changes_of (put_bars (claims_by (going_now before from most c) c.rows.messages c.rows.parts) (untouched c.rows.bars)).news
forget_bars before from most c =
    let ids : List ℕ = going_now before from most c in
    ap (λ (t : Since BarRow). changes_of (put_bars (claims_by ids c.rows.messages c.rows.parts) t).news) (bars_kept ids (store_of c.rows c.moment))

-- ---- its changes

messages_changed : (ids : List ℕ) (s : Store)
    → changes_of (messages_gone ids s).messages.messages.news ≡ changes_of s.messages.messages.news ++ map (λ (id : ℕ). RemoveRow id) ids
messages_changed [] s = sym (append-nil (changes_of s.messages.messages.news))
messages_changed (id ∷ ids) s =
    messages_changed ids (message_gone id s)
    ∙ ap (λ (e : Store). changes_of e.messages.messages.news ++ map (λ (n : ℕ). RemoveRow n) ids) (gone_is id s)
    ∙ append_assoc (changes_of s.messages.messages.news) (RemoveRow id ∷ []) (map (λ (n : ℕ). RemoveRow n) ids)

priorities_changed : (ids : List ℕ) (s : Store)
    → changes_of (messages_gone ids s).messages.priorities.news ≡ changes_of s.messages.priorities.news ++ map (λ (id : ℕ). RemoveRow id) ids
priorities_changed [] s = sym (append-nil (changes_of s.messages.priorities.news))
priorities_changed (id ∷ ids) s =
    priorities_changed ids (message_gone id s)
    ∙ ap (λ (e : Store). changes_of e.messages.priorities.news ++ map (λ (n : ℕ). RemoveRow n) ids) (gone_is id s)
    ∙ append_assoc (changes_of s.messages.priorities.news) (RemoveRow id ∷ []) (map (λ (n : ℕ). RemoveRow n) ids)

pub forget_messages : (before from most : ℕ) (c : Core) → (changes_in (forget before from most c).store).messages ≡ map (λ (id : ℕ). RemoveRow id) (going_now before from most c)
forget_messages before from most c = messages_changed (going_now before from most c) (store_of c.rows c.moment)

pub forget_priorities : (before from most : ℕ) (c : Core) → (changes_in (forget before from most c).store).priorities ≡ map (λ (id : ℕ). RemoveRow id) (going_now before from most c)
forget_priorities before from most c = priorities_changed (going_now before from most c) (store_of c.rows c.moment)

pub setup_kept : (ids : List ℕ) (s : Store) → (messages_gone ids s).setup ≡ s.setup
setup_kept [] s = refl
setup_kept (id ∷ ids) s = setup_kept ids (message_gone id s)

pub allocations_kept : (ids : List ℕ) (s : Store) → (messages_gone ids s).allocations ≡ s.allocations
allocations_kept [] s = refl
allocations_kept (id ∷ ids) s = allocations_kept ids (message_gone id s)

pub forget_references : (before from most : ℕ) (c : Core) → (changes_in (forget before from most c).store).references ≡ []
forget_references before from most c = ap (λ (a : Allocations). changes_of a.references.news) (allocations_kept (going_now before from most c) (store_of c.rows c.moment))

pub forget_handsets : (before from most : ℕ) (c : Core) → (changes_in (forget before from most c).store).handsets ≡ []
forget_handsets before from most c = ap (λ (a : Allocations). changes_of a.handsets.news) (allocations_kept (going_now before from most c) (store_of c.rows c.moment))
