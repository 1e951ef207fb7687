-- What the search finds is the first of all that is due.
use Rattle.std.proofs.Common.{◌≡◌, inl, inr, ℕ, ◌<◌, ◌≤◌, ◌∙◌, Bool, true, false, cond, List, [], ◌∷◌, Option, Some, None, refl, sym, subst, ap, arith}
use Rattle.std.specs.Prelude.{◌↔◌}
use Rattle.std.proofs.lemmas.Bool.{leb-true, leb-false}
use Rattle.sms_base.specs.Among.{Among}
use Rattle.sms_rows.specs.table.Table.{Rises, row_at}
use Rattle.sms_rows.proofs.table.Tables.{among_found}
use Rattle.sms_centre_rows.specs.declared.waiting.queued_part.QueuedPart.{QueuedPart}
use Rattle.sms_centre_rows.specs.waiting.Keys.{queued_key}
use Rattle.sms_centre_rows.specs.waiting.Waiting.{is_due, next, precedes, preceding}
use Rattle.sms_schedule.specs.Precedence.{IsNext}
use Rattle.sms_schedule.proofs.Orders.{no_later, one_key, precedes-flip, precedes-self}

-- what a search of the rows found
abbrev Finds : ℕ → List QueuedPart → Option QueuedPart → Type 0
Finds now rows None = (s : QueuedPart) → Among s rows → now < s.due
Finds now rows (Some s) = IsNext now rows s

-- a row that isn't due changes nothing
skips : (now : ℕ) (x : QueuedPart) (rows : List QueuedPart) (r : Option QueuedPart) → now < x.due → Finds now rows r → Finds now (x ∷ rows) r
skips now x rows None late h = λ s at. elim at as (λ _. now < s.due) [ inl e ↦ subst (λ (row : QueuedPart). now < row.due) (sym e) late | inr there ↦ h s there ]
skips now x rows (Some s) late h = record {
  among = inr h.among;
  due = h.due;
  first = λ other at le. elim at as (λ _. precedes other s ≡ false) [ inl e ↦ absurd (let d : now < other.due = subst (λ (row : QueuedPart). now < row.due) (sym e) late in omega arith) | inr there ↦ h.first other there le ];
}

-- a row that is due is the first, or the first of the others is
takes_by : (now : ℕ) (x s : QueuedPart) (rows : List QueuedPart) (b : Bool) → precedes s x ≡ b → x.due ≤ now → IsNext now rows s → IsNext now (x ∷ rows) (cond b s x)
takes_by now x s rows true e due h = record {
  among = inr h.among;
  due = h.due;
  first = λ other at le. elim at as (λ _. precedes other s ≡ false) [ inl same ↦ subst (λ (row : QueuedPart). precedes row s ≡ false) (sym same) (precedes-flip x s e) | inr there ↦ h.first other there le ];
}
takes_by now x s rows false e due h = record {
  among = inl refl;
  due = due;
  first = λ other at le. elim at as (λ _. precedes other x ≡ false) [ inl same ↦ subst (λ (row : QueuedPart). precedes row x ≡ false) (sym same) (precedes-self x) | inr there ↦ no_later x s other e (h.first other there le) ];
}

takes : (now : ℕ) (x : QueuedPart) (rows : List QueuedPart) (r : Option QueuedPart) → x.due ≤ now → Finds now rows r → Finds now (x ∷ rows) (preceding (Some x) r)
takes now x rows None due h = record {
  among = inl refl;
  due = due;
  first = λ other at le. elim at as (λ _. precedes other x ≡ false) [ inl same ↦ subst (λ (row : QueuedPart). precedes row x ≡ false) (sym same) (precedes-self x) | inr there ↦ absurd (let d : now < other.due = h other there in omega arith) ];
}
takes now x rows (Some s) due h = takes_by now x s rows (precedes s x) refl due h

by_due : (now : ℕ) (x : QueuedPart) (rows : List QueuedPart) (r : Option QueuedPart) (b : Bool) → is_due now x ≡ b → Finds now rows r → Finds now (x ∷ rows) (preceding (cond b (Some x) None) r)
by_due now x rows r true e h = takes now x rows r (leb-true _ _ e) h
by_due now x rows r false e h = skips now x rows r (leb-false _ _ e) h

finds : (now : ℕ) (rows : List QueuedPart) → Finds now rows (next now rows)
finds now [] = λ s at. absurd at
finds now (x ∷ rows) = by_due now x rows (next now rows) (is_due now x) refl (finds now rows)

pub next_is : (now : ℕ) (rows : List QueuedPart) (s : QueuedPart) → next now rows ≡ Some s → IsNext now rows s
next_is now rows s e = subst (Finds now rows) e (finds now rows)

pub nothing_is_due : (now : ℕ) (rows : List QueuedPart) (s : QueuedPart) → next now rows ≡ None → Among s rows → now < s.due
nothing_is_due now rows s e = subst (Finds now rows) e (finds now rows) s

-- each message and number waits once
abbrev AreApart : List QueuedPart → Type 0
AreApart rows = (a b : QueuedPart) → Among a rows → Among b rows → queued_key a ≡ queued_key b → a ≡ b

are_apart : (rows : List QueuedPart) → Rises queued_key rows → AreApart rows
are_apart rows rises a b there here e =
    let same : Some a ≡ Some b = sym (among_found queued_key a rows rises there) ∙ ap (λ (n : ℕ). row_at queued_key n rows) e ∙ among_found queued_key b rows rises here in cc

-- the first that is due is what the search finds
found_is : (now : ℕ) (rows : List QueuedPart) (s : QueuedPart) (r : Option QueuedPart) → AreApart rows → IsNext now rows s → Finds now rows r → r ≡ Some s
found_is now rows s None apart h f = absurd (let d : now < s.due = f s h.among in let e = h.due in omega arith)
found_is now rows s (Some t) apart h f = ap Some (apart t s f.among h.among (one_key t s (h.first t f.among f.due) (f.first s h.among h.due)))

is_next_of : (now : ℕ) (rows : List QueuedPart) (s : QueuedPart) → AreApart rows → IsNext now rows s → next now rows ≡ Some s
is_next_of now rows s apart h = found_is now rows s (next now rows) apart h (finds now rows)

pub is_next : (now : ℕ) (rows : List QueuedPart) (s : QueuedPart) → Rises queued_key rows → IsNext now rows s → next now rows ≡ Some s
is_next now rows s rises h = is_next_of now rows s (are_apart rows rises) h

-- where nothing is due the search finds nothing
none_by : (now : ℕ) (rows : List QueuedPart) (r : Option QueuedPart) → ((s : QueuedPart) → Among s rows → now < s.due) → Finds now rows r → r ≡ None
none_by now rows None h f = refl
none_by now rows (Some s) h f = absurd (let d : now < s.due = h s f.among in let e = f.due in omega arith)

pub none_is_next : (now : ℕ) (rows : List QueuedPart) → ((s : QueuedPart) → Among s rows → now < s.due) → next now rows ≡ None
none_is_next now rows h = none_by now rows (next now rows) h (finds now rows)

same_by : (now : ℕ) (rows others : List QueuedPart) (r : Option QueuedPart) → AreApart others → ((s : QueuedPart) → Among s rows ↔ Among s others) → Finds now rows r → r ≡ next now others
same_by now rows others None apart same f = sym (none_is_next now others (λ s at. f s ((same s).1 at)))
same_by now rows others (Some s) apart same f =
    sym (is_next_of now others s apart (record { among = (same s).0 f.among; due = f.due; first = λ other at le. f.first other ((same other).1 at) le }))

pub same_next : (now : ℕ) (rows others : List QueuedPart) → Rises queued_key rows → ((s : QueuedPart) → Among s rows ↔ Among s others) → next now rows ≡ next now others
same_next now rows others rises same =
    same_by now rows others (next now rows) (λ a b at bt e. are_apart rows rises a b ((same a).1 at) ((same b).1 bt) e) same (finds now rows)
