-- The numbers that are forgotten are those of messages that may go.
use Rattle.std.proofs.Common.{◌≡◌, ℕ, zero, suc, ◌+◌, ◌<◌, List, [], ◌∷◌, Bool, true, false, Option, Some, None, refl, sym, ◌∙◌, ap, subst, inl, inr, ⊎_elim, arith, eq-eqb}
use Rattle.std.specs.Prelude.{◌⊎◌, ◌≤◌, ◌==◌, ◌&&◌, ◌||◌, not, nat_le, nat_lt, is_none, is_some, length, if◌then◌else◌}
use Rattle.std.specs.Str.{bytes_eq}
use Rattle.std.proofs.lemmas.Slice.Eq.{bytes_eq-Decides}
use Rattle.sms_base.specs.AddressKind.{type_number}
use Rattle.sms_base.specs.declared.address.Address.{Address}
use Rattle.sms_centre_spec.proofs.forgetting.Splits.{above_among}
use Rattle.std.proofs.lemmas.Bool.{and_from, and_parts, cases_Bool, cases_eq, cond_both, eqb-true, leb-true, ltb-true}
use Rattle.sms_base.specs.Among.{Among}
use Rattle.sms_rows.specs.table.Table.{Rises, row_at, rows_from}
use Rattle.sms_rows.proofs.table.Tables.{among_found}
use Rattle.sms_centre_rows.specs.declared.messages.message.MessageRow.{MessageRow}
use Rattle.sms_centre_rows.specs.messages.Messages.{is_pending, message_key, next_id}
use Rattle.sms_centre_rows.specs.messages.SplitReferences.{is_among, is_between, is_same_address, last_split, or_later}
use Rattle.sms_centre_rows.specs.declared.reports.report.ReportRow.{ReportRow}
use Rattle.sms_centre_rows.specs.reports.Reports.{next_place, report_key, report_of}
use Rattle.sms_centre_rows.proofs.reports.AllWaiting.{report_behind, report_here}
use Rattle.sms_centre_spec.specs.declared.rows.Rows.{Rows}
use Rattle.sms_centre_spec.specs.SoundRows.{IsSound}
use Rattle.sms_centre_spec.specs.forgetting.Forgetting.{IsLaterSplit, MayGo, going, going_from, is_before, is_given, is_reported, is_split_on, last_submitted, leaves_number, leaves_split, may_go}

-- ---- each of them is the number of a message that passes the test

pub record Gone (goes : MessageRow → Bool) (ms : List MessageRow) (id : ℕ) : Type 0 where
  pub row : MessageRow
  pub among : Among row ms
  pub own : row.id ≡ id
  pub passes : goes row ≡ true

behind : (goes : MessageRow → Bool) (m : MessageRow) (ms : List MessageRow) (id : ℕ) → Gone goes ms id → Gone goes (m ∷ ms) id
behind goes m ms id g = record { row = g.row; among = inr g.among; own = g.own; passes = g.passes }

pub gone : (goes : MessageRow → Bool) (most : ℕ) (ms : List MessageRow) (id : ℕ) → is_among id (going goes most ms) ≡ true → Gone goes ms id
gone goes zero ms id e = let bad : false ≡ true = e in absurd cc
gone goes (suc most) [] id e = let bad : false ≡ true = e in absurd cc
gone goes (suc most) (m ∷ ms) id e =
    cond_both (goes m) (m.id ∷ going goes most ms) (going goes most ms) (λ (l : List ℕ). is_among id l ≡ true → Gone goes (m ∷ ms) id)
    (λ t f. ⊎_elim
    (λ (q : (m.id == id) ≡ true). record { row = m; among = inl refl; own = eqb-true m.id id q; passes = t })
    (λ (q : (m.id == id) ≡ false). behind goes m ms id (gone goes most ms id (sym (ap (λ (b : Bool). b || is_among id (going goes most ms)) q) ∙ f)))
    (cases_Bool (m.id == id)))
    (λ t f. behind goes m ms id (gone goes most ms id f))
    e

from_among : (n : ℕ) (x : MessageRow) (ms : List MessageRow) → Among x (rows_from message_key n ms) → Among x ms
from_among n x [] a = a
from_among n x (m ∷ ms) a =
    cond_both (nat_lt m.id n) (rows_from message_key n ms) (m ∷ ms) (λ (l : List MessageRow). Among x l → Among x (m ∷ ms)) (λ t b. inr (from_among n x ms b)) (λ t b. b) a

pub gone_from : (goes : MessageRow → Bool) (from most : ℕ) (ms : List MessageRow) (id : ℕ) → is_among id (going_from goes from most ms) ≡ true → Gone goes ms id
gone_from goes from most ms id e =
    let g = gone goes most (rows_from message_key from ms) id e in
    record { row = g.row; among = from_among from g.row ms g.among; own = g.own; passes = g.passes }

-- ---- rows of one key are one

pub one_row : {A : Type 0} (key : A → ℕ) (x y : A) (xs : List A) → Rises key xs → Among x xs → Among y xs → key x ≡ key y → x ≡ y
one_row {A} key x y xs rises a b e =
    let p : row_at key (key y) xs ≡ Some x = subst (λ (n : ℕ). row_at key n xs ≡ Some x) e (among_found key x xs rises a) in
    let q : row_at key (key y) xs ≡ Some y = among_found key y xs rises b in
    let same : Some x ≡ Some y = sym p ∙ q in cc

report_own : (r : ReportRow) (rs : List ReportRow) → Among r rs → ((s : ReportRow) → Among s rs → s.id ≡ r.id → s ≡ r) → report_of r.id rs ≡ Some r
report_own r [] a one = absurd a
report_own r (x ∷ xs) a one = ⊎_elim
    (λ (e : x.id ≡ r.id). report_here r.id x xs e ∙ ap (λ (s : ReportRow). Some s) (one x (inl refl) e))
    (λ (e : x.id ≡ r.id → ⊥).
    report_behind r.id x xs e ∙ ⊎_elim
    (λ (q : r ≡ x). absurd (e (ap (λ (s : ReportRow). s.id) (sym q))))
    (λ (b : Among r xs). report_own r xs b (λ s c. one s (inr c)))
    a)
    (cases_eq x.id r.id)

-- ---- what the tests say

-- what is between its own source and handset
self_between : (m : MessageRow) → is_between m.source m.handset m ≡ true
self_between m =
    let a : Address = m.source in
    and_from (is_same_address a a) (bytes_eq m.handset m.handset)
    (and_from (type_number a.ton == type_number a.ton) ((a.npi == a.npi) && bytes_eq a.digits a.digits) (eq-eqb (type_number a.ton) (type_number a.ton) refl)
    (and_from (a.npi == a.npi) (bytes_eq a.digits a.digits) (eq-eqb a.npi a.npi refl) ((bytes_eq-Decides a.digits a.digits).1 refl)))
    ((bytes_eq-Decides m.handset m.handset).1 refl)

-- one of these was split of that source and handset
abbrev SplitAmong : Address → List ℕ → List MessageRow → Type 0
SplitAmong source h ms = (w : MessageRow) × (Among w ms × ((is_between source h w ≡ true) × (is_some w.split_reference ≡ true)))

split_behind : (source : Address) (h : List ℕ) (x : MessageRow) (xs : List MessageRow) → SplitAmong source h xs → SplitAmong source h (x ∷ xs)
split_behind source h x xs s = (s.0, (inr s.1.0, s.1.1))

-- the last reference with one message more: as it was, or this one was split
one_more : (source : Address) (h : List ℕ) (last : Option ℕ) (x : MessageRow) (xs : List MessageRow)
    → ((if is_between source h x then or_later last x.split_reference else last) ≡ last) ⊎ SplitAmong source h (x ∷ xs)
one_more source h last x xs = by (is_between source h x) refl x.split_reference refl
  where
    by : (b : Bool) → is_between source h x ≡ b → (o : Option ℕ) → x.split_reference ≡ o
        → ((if is_between source h x then or_later last x.split_reference else last) ≡ last) ⊎ SplitAmong source h (x ∷ xs)
    by true t None e = inl (ap (λ (b : Bool). if b then or_later last x.split_reference else last) t ∙ ap (λ (o : Option ℕ). or_later last o) e)
    by true t (Some n) e = inr (x, (inl refl, (t, ap is_some e)))
    by false t o e = inl (ap (λ (b : Bool). if b then or_later last x.split_reference else last) t)

-- the last reference stays, or another was split
last_stays : (source : Address) (h : List ℕ) (last : Option ℕ) (ms : List MessageRow) → (last_split source h last ms ≡ last) ⊎ SplitAmong source h ms
last_stays source h last [] = inl refl
last_stays source h last (x ∷ xs) =
    let next : Option ℕ = if is_between source h x then or_later last x.split_reference else last in
    ⊎_elim
    (λ (e : next ≡ last). ⊎_elim
    (λ (f : last_split source h next xs ≡ next). let is : (last_split source h next xs ≡ last) ⊎ SplitAmong source h (x ∷ xs) = inl (f ∙ e) in is)
    (λ (s : SplitAmong source h xs). let is : (last_split source h next xs ≡ last) ⊎ SplitAmong source h (x ∷ xs) = inr (split_behind source h x xs s) in is)
    (last_stays source h next xs))
    (λ (s : SplitAmong source h (x ∷ xs)). let is : (last_split source h next xs ≡ last) ⊎ SplitAmong source h (x ∷ xs) = inr s in is)
    (one_more source h last x xs)

-- a message that was split gave the last reference, or a later one was split
abbrev LaterAmong : MessageRow → List MessageRow → Type 0
LaterAmong m ms = (w : MessageRow) × (Among w ms × IsLaterSplit m w)

given_or_later : (m : MessageRow) (n : ℕ) (last : Option ℕ) (ms : List MessageRow) → Rises message_key ms → Among m ms → m.split_reference ≡ Some n
    → (last_split m.source m.handset last ms ≡ Some n) ⊎ LaterAmong m ms
given_or_later m n last [] rises a e = absurd a
given_or_later m n last (x ∷ xs) rises a e =
    let next : Option ℕ = if is_between m.source m.handset x then or_later last x.split_reference else last in
    ⊎_elim
    (λ (q : m ≡ x).
    let first : next ≡ Some n =
    ap (λ (y : MessageRow). if is_between m.source m.handset y then or_later last y.split_reference else last) (sym q)
    ∙ ap (λ (b : Bool). if b then or_later last m.split_reference else last) (self_between m) ∙ ap (λ (o : Option ℕ). or_later last o) e in
    ⊎_elim
    (λ (f : last_split m.source m.handset next xs ≡ next). let is : (last_split m.source m.handset next xs ≡ Some n) ⊎ LaterAmong m (x ∷ xs) = inl (f ∙ first) in is)
    (λ (s : SplitAmong m.source m.handset xs).
    let high : m.id < s.0.id = subst (λ (y : MessageRow). y.id < s.0.id) (sym q) (above_among x.id s.0 xs rises.0 s.1.0) in
    let later : LaterAmong m (x ∷ xs) = (s.0, (inr s.1.0, (high, s.1.1))) in let is : (last_split m.source m.handset next xs ≡ Some n) ⊎ LaterAmong m (x ∷ xs) = inr later in is)
    (last_stays m.source m.handset next xs))
    (λ (b : Among m xs). ⊎_elim
    (λ (f : last_split m.source m.handset next xs ≡ Some n). let is : (last_split m.source m.handset next xs ≡ Some n) ⊎ LaterAmong m (x ∷ xs) = inl f in is)
    (λ (s : LaterAmong m xs). let later : LaterAmong m (x ∷ xs) = (s.0, (inr s.1.0, s.1.1)) in let is : (last_split m.source m.handset next xs ≡ Some n) ⊎ LaterAmong m (x ∷ xs) = inr later in is)
    (given_or_later m n next xs rises.1 b e))
    a

later_of : (m : MessageRow) (ms : List MessageRow) (n : ℕ) → Rises message_key ms → Among m ms → leaves_split m ms ≡ true → m.split_reference ≡ Some n → LaterAmong m ms
later_of m ms n rises a leaves e = ⊎_elim
    (λ (f : last_split m.source m.handset None ms ≡ Some n).
    let on : not (is_given n (last_split m.source m.handset None ms)) ≡ true = sym (ap (λ (o : Option ℕ). is_split_on o (last_split m.source m.handset None ms)) e) ∙ leaves in
    let off : not (is_given n (last_split m.source m.handset None ms)) ≡ false = ap (λ (o : Option ℕ). not (is_given n o)) f ∙ ap not (eq-eqb n n refl) in
    let bad : true ≡ false = sym on ∙ off in absurd cc)
    (λ (s : LaterAmong m ms). s)
    (given_or_later m n None ms rises a e)

ended_some : (m : MessageRow) → is_some m.state ≡ true → is_pending m ≡ false
ended_some m e = of m.state refl
  where
    of : (o : Option _) → m.state ≡ o → is_none o ≡ false
    of None q = let bad : false ≡ true = sym (ap is_some q) ∙ e in absurd cc
    of (Some f) q = refl

record Tests (rows : Rows) (m : MessageRow) : Type 0 where
  ended : is_some m.state ≡ true
  reported : is_reported rows.reports (report_of m.id rows.reports) ≡ true
  leaves : leaves_split m rows.messages ≡ true
  number : m.id + 1 < next_id rows.messages
  submitted : m.submitted ≤ last_submitted 0 rows.messages

tests : (before : ℕ) (rows : Rows) (m : MessageRow) → may_go before rows m ≡ true → Tests rows m
tests before rows m e =
    let a = and_parts (is_some m.state && is_before before m.done) _ e in
    let b = and_parts (is_reported rows.reports (report_of m.id rows.reports)) _ a.1 in
    let c = and_parts (leaves_split m rows.messages) (leaves_number m rows.messages) b.1 in
    let d = and_parts (nat_lt (m.id + 1) (next_id rows.messages)) (nat_le m.submitted (last_submitted 0 rows.messages)) c.1 in
    record {
      ended = (and_parts (is_some m.state) (is_before before m.done) a.0).0;
      reported = b.0;
      leaves = c.0;
      number = ltb-true (m.id + 1) (next_id rows.messages) d.0;
      submitted = leb-true m.submitted (last_submitted 0 rows.messages) d.1;
    }

-- what goes has a closed report that is not the last, or none
record Reported (rs : List ReportRow) (r : ReportRow) : Type 0 where
  done : r.progress.is_done ≡ true
  place : r.place + 1 < next_place rs

reported_of : (rs : List ReportRow) (o : Option ReportRow) (r : ReportRow) → is_reported rs o ≡ true → o ≡ Some r → Reported rs r
reported_of rs o r e q =
    let f : is_reported rs (Some r) ≡ true = ap (λ (x : Option ReportRow). is_reported rs x) (sym q) ∙ e in
    let p = and_parts r.progress.is_done (nat_lt (r.place + 1) (next_place rs)) f in
    record { done = p.0; place = ltb-true (r.place + 1) (next_place rs) p.1 }

-- ---- all of it

module _ (before from most : ℕ) (rows : Rows) (test : MessageRow → Bool) (may : (m : MessageRow) → test m ≡ true → may_go before rows m ≡ true) (s : IsSound rows) where
  abbrev goes : ℕ → Bool
  goes id = is_among id (going_from test from most rows.messages)

  pub passes : (m : MessageRow) → Among m rows.messages → goes m.id ≡ true → test m ≡ true
  passes m a g =
      let f = gone_from test from most rows.messages m.id g in
      subst (λ (x : MessageRow). test x ≡ true) (one_row message_key f.row m rows.messages s.messages.message_keys f.among a f.own) f.passes

  of : (m : MessageRow) → Among m rows.messages → goes m.id ≡ true → Tests rows m
  of m a g = tests before rows m (may m (passes m a g))

  report : (r : ReportRow) → Among r rows.reports → goes r.id ≡ true → Reported rows.reports r
  report r a g =
      let f = gone_from test from most rows.messages r.id g in
      let found : report_of r.id rows.reports ≡ Some r = report_own r rows.reports a (λ x b e. one_row report_key x r rows.reports s.reports.keys b a (s.reports.once x r b a e)) in
      reported_of rows.reports (report_of f.row.id rows.reports) r (tests before rows f.row (may f.row f.passes)).reported (ap (λ (n : ℕ). report_of n rows.reports) f.own ∙ found)

  pub going_may : MayGo goes rows
  going_may = record {
    ended = λ m a g. ended_some m (of m a g).ended;
    closed = λ r a g. (report r a g).done;
    place = λ r a g. (report r a g).place;
    id = λ m a g. (of m a g).number;
    later = λ m n a g e. later_of m rows.messages n s.messages.message_keys a (of m a g).leaves e;
  }

  pub going_submitted : (m : MessageRow) → Among m rows.messages → goes m.id ≡ true → m.submitted ≤ last_submitted 0 rows.messages
  going_submitted m a g = (of m a g).submitted

  pub going_given : (id : ℕ) → goes id ≡ true → id + 1 < next_id rows.messages
  going_given id g =
      let f = gone_from test from most rows.messages id g in
      let low : f.row.id + 1 < next_id rows.messages = (tests before rows f.row (may f.row f.passes)).number in
      let own : f.row.id ≡ id = f.own in
      omega (arith, low, own)

-- no more than so many go
pub going_most : (goes : MessageRow → Bool) (most : ℕ) (ms : List MessageRow) → length (going goes most ms) ≤ most
going_most goes zero ms = omega arith
going_most goes (suc most) [] = omega arith
going_most goes (suc most) (m ∷ ms) =
    cond_both (goes m) (m.id ∷ going goes most ms) (going goes most ms) (λ (l : List ℕ). length l ≤ suc most)
    (λ t. let few = going_most goes most ms in omega (arith, few))
    (λ t. let few = going_most goes most ms in omega (arith, few))
