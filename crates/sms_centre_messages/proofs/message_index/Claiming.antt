-- What a message lays claim to is told by the parts that memory has of it.
use Rattle.std.proofs.Common.{◌≡◌, ℕ, ◌+◌, ◌*◌, ◌<◌, ◌≤◌, List, [], ◌∷◌, ◌++◌, map, slice_range, Some, None, Bool, true, false, refl, sym, ◌∙◌, ap, subst, inl, inr, ⊎_elim, append_assoc, append-nil, eq-eqb, arith}
use Rattle.std.specs.Prelude.{◌==◌, nat_lt, if◌then◌else◌}
use Rattle.std.proofs.lemmas.Bool.{cases_Bool, cond-true, cond-false, ltb-false, ltb-true, ne_eqb}
use Rattle.std.specs.List.{slice_get}
use Rattle.sms_base.specs.Among.{Among}
use Rattle.sms_rows.specs.table.Keys.{pair_key}
use Rattle.sms_rows.specs.table.Table.{AllAbove, Rises, rows_before, rows_between, rows_from}
use Rattle.sms_centre_rows.specs.declared.messages.message.MessageRow.{MessageRow}
use Rattle.sms_centre_rows.specs.declared.messages.part.PartRow.{PartRow}
use Rattle.sms_centre_rows.specs.declared.messages.parts.PartEntry.{PartEntry}
use Rattle.sms_centre_rows.specs.declared.messages.claim.Claim.{Claim}
use Rattle.sms_centre_rows.specs.messages.Bars.{claims_of_header, claims_of_parts}
use Rattle.sms_centre_rows.specs.messages.Messages.{part_key}
use Rattle.sms_centre_rows.specs.messages.PartEntries.{Few, entry_key, part_entry}
use Rattle.sms_centre_rows.specs.messages.SplitReferences.{unless_split, wide_in}
use Rattle.sms_centre_messages.specs.message_index.Forgettable.{claims_of_entries}
use Rattle.sms_centre_messages.proofs.message_index.Between.{range_beyond, range_more, range_of_one}
use Rattle.sms_centre_messages.proofs.message_index.Numbers.{entries_before, entries_from}

-- ---- one entry after another

entries_append : (m : MessageRow) (xs ys : List PartEntry) → claims_of_entries m (xs ++ ys) ≡ claims_of_entries m xs ++ claims_of_entries m ys
entries_append m [] ys = refl
entries_append m (x ∷ xs) ys =
    let one : List Claim = claims_of_header m (unless_split m.split_reference (wide_in x.key)) in
    ap (λ (l : List Claim). one ++ l) (entries_append m xs ys) ∙ sym (append_assoc one (claims_of_entries m xs) (claims_of_entries m ys))

-- the entries from a place to another, and the next one
pub claims_more : (m : MessageRow) (es : List PartEntry) (start place : ℕ) (first now next : List Claim) → start ≤ place → now ≡ first ++ claims_of_entries m (slice_range es start place)
    → next ≡ now ++ claims_of_entries m (slice_range es place (place + 1)) → next ≡ first ++ claims_of_entries m (slice_range es start (place + 1))
claims_more m es start place first now next l so_far more =
    let those : List PartEntry = slice_range es start place in
    let one : List PartEntry = slice_range es place (place + 1) in
    more ∙ ap (λ (c : List Claim). c ++ claims_of_entries m one) so_far ∙ append_assoc first (claims_of_entries m those) (claims_of_entries m one)
    ∙ ap (λ (c : List Claim). first ++ c) (sym (entries_append m those one))
    ∙ ap (λ (xs : List PartEntry). first ++ claims_of_entries m xs) (sym (range_more start place es l))

pub claims_at : (m : MessageRow) (es : List PartEntry) (place : ℕ) (e : PartEntry) (now next : List Claim) → slice_get es place ≡ Some e
    → next ≡ now ++ claims_of_header m (unless_split m.split_reference (wide_in e.key)) → next ≡ now ++ claims_of_entries m (slice_range es place (place + 1))
claims_at m es place e now next at more =
    let one : List Claim = claims_of_header m (unless_split m.split_reference (wide_in e.key)) in
    more ∙ ap (λ (c : List Claim). now ++ c) (sym (append-nil one)) ∙ ap (λ (xs : List PartEntry). now ++ claims_of_entries m xs) (sym (range_of_one place es e at))

pub claims_beyond : (m : MessageRow) (es : List PartEntry) (place : ℕ) (now : List Claim) → slice_get es place ≡ None → now ≡ now ++ claims_of_entries m (slice_range es place (place + 1))
claims_beyond m es place now at = sym (ap (λ (xs : List PartEntry). now ++ claims_of_entries m xs) (range_beyond place es at) ∙ append-nil now)

-- ---- the parts between the first key of the message and the last

-- their numbers are 1 to 20
abbrev AreNumbered : List PartRow → Type 0
AreNumbered ps = (p : PartRow) → Among p ps → p.number ≤ 20

other : (m : MessageRow) (p : PartRow) (ps : List PartRow) → ¬ (p.id ≡ m.id) → claims_of_parts m (p ∷ ps) ≡ claims_of_parts m ps
other m p ps ne =
    ap (λ (b : Bool). (if b then claims_of_header m (unless_split m.split_reference (wide_in p.key)) else []) ++ claims_of_parts m ps) (ne_eqb p.id m.id ne)

from_first : (m : MessageRow) (ps : List PartRow) → AreNumbered ps → claims_of_parts m (rows_from part_key (pair_key m.id 0) ps) ≡ claims_of_parts m ps
from_first m [] few = refl
from_first m (p ∷ ps) few = ⊎_elim
    (λ (t : nat_lt (part_key p) (pair_key m.id 0) ≡ true).
    let low : 256 * p.id + p.number < 256 * m.id + 0 = ltb-true (part_key p) (pair_key m.id 0) t in
    ap (λ (l : List PartRow). claims_of_parts m l) (cond-true (nat_lt (part_key p) (pair_key m.id 0)) (rows_from part_key (pair_key m.id 0) ps) (p ∷ ps) t)
    ∙ from_first m ps (λ x a. few x (inr a)) ∙ sym (other m p ps (λ e. omega (arith, low, e))))
    (λ (t : nat_lt (part_key p) (pair_key m.id 0) ≡ false).
    ap (λ (l : List PartRow). claims_of_parts m l) (cond-false (nat_lt (part_key p) (pair_key m.id 0)) (rows_from part_key (pair_key m.id 0) ps) (p ∷ ps) t))
    (cases_Bool (nat_lt (part_key p) (pair_key m.id 0)))

-- those of greater keys are of other messages
none_above : (m : MessageRow) (n : ℕ) (ps : List PartRow) → pair_key m.id 255 ≤ n → AllAbove part_key n ps → AreNumbered ps → claims_of_parts m ps ≡ []
none_above m n [] l above few = refl
none_above m n (p ∷ ps) l above few =
    let high : n < 256 * p.id + p.number = above.0 in
    let low : 256 * m.id + 255 ≤ n = l in
    let small : p.number ≤ 20 = few p (inl refl) in
    other m p ps (λ e. omega (arith, high, low, small, e)) ∙ none_above m n ps l above.1 (λ x a. few x (inr a))

to_last : (m : MessageRow) (ps : List PartRow) → Rises part_key ps → AreNumbered ps → claims_of_parts m (rows_before part_key (pair_key m.id 255) ps) ≡ claims_of_parts m ps
to_last m [] rises few = refl
to_last m (p ∷ ps) rises few = ⊎_elim
    (λ (t : nat_lt (part_key p) (pair_key m.id 255) ≡ true).
    ap (λ (l : List PartRow). claims_of_parts m l) (cond-true (nat_lt (part_key p) (pair_key m.id 255)) (p ∷ rows_before part_key (pair_key m.id 255) ps) [] t)
    ∙ ap (λ (l : List Claim). (if p.id == m.id then claims_of_header m (unless_split m.split_reference (wide_in p.key)) else []) ++ l) (to_last m ps rises.1 (λ x a. few x (inr a))))
    (λ (t : nat_lt (part_key p) (pair_key m.id 255) ≡ false).
    let high : 256 * m.id + 255 ≤ 256 * p.id + p.number = ltb-false (part_key p) (pair_key m.id 255) t in
    let small : p.number ≤ 20 = few p (inl refl) in
    ap (λ (l : List PartRow). claims_of_parts m l) (cond-false (nat_lt (part_key p) (pair_key m.id 255)) (p ∷ rows_before part_key (pair_key m.id 255) ps) [] t)
    ∙ sym (other m p ps (λ e. omega (arith, high, small, e)) ∙ none_above m (part_key p) ps high rises.0 (λ x a. few x (inr a))))
    (cases_Bool (nat_lt (part_key p) (pair_key m.id 255)))

-- the rows from that key on rise, and are some of the rows
rises_from : (n : ℕ) (ps : List PartRow) → Rises part_key ps → Rises part_key (rows_from part_key n ps)
rises_from n [] rises = rises
rises_from n (p ∷ ps) rises = by (nat_lt (part_key p) n) (rises_from n ps rises.1)
  where
    by : (b : Bool) → Rises part_key (rows_from part_key n ps) → Rises part_key (if b then rows_from part_key n ps else p ∷ ps)
    by true h = h
    by false h = rises

numbered_from : (n : ℕ) (ps : List PartRow) → AreNumbered ps → AreNumbered (rows_from part_key n ps)
numbered_from n [] few = few
numbered_from n (p ∷ ps) few = by (nat_lt (part_key p) n) (numbered_from n ps (λ x a. few x (inr a)))
  where
    by : (b : Bool) → AreNumbered (rows_from part_key n ps) → AreNumbered (if b then rows_from part_key n ps else p ∷ ps)
    by true h = h
    by false h = few

-- all that are left are of the message
abbrev AreIts : MessageRow → List PartRow → Type 0
AreIts m ps = (p : PartRow) → Among p ps → p.id ≡ m.id

its_entries : (m : MessageRow) (ps : List PartRow) → AreIts m ps → claims_of_parts m ps ≡ claims_of_entries m (map part_entry ps)
its_entries m [] its = refl
its_entries m (p ∷ ps) its =
    ap (λ (b : Bool). (if b then claims_of_header m (unless_split m.split_reference (wide_in p.key)) else []) ++ claims_of_parts m ps) (eq-eqb p.id m.id (its p (inl refl)))
    ∙ ap (λ (l : List Claim). claims_of_header m (unless_split m.split_reference (wide_in p.key)) ++ l) (its_entries m ps (λ x a. its x (inr a)))

-- a row between these keys
between : (m : MessageRow) (p : PartRow) → pair_key m.id 0 ≤ part_key p → part_key p < pair_key m.id 255 → p.number ≤ 20 → p.id ≡ m.id
between m p low high small =
    let l : 256 * m.id + 0 ≤ 256 * p.id + p.number = low in
    let h : 256 * p.id + p.number < 256 * m.id + 255 = high in omega (arith, l, h, small)

before_below : (n : ℕ) (p : PartRow) (ps : List PartRow) → Among p (rows_before part_key n ps) → (part_key p < n) × Among p ps
before_below n p [] a = absurd a
before_below n p (x ∷ xs) a = by (nat_lt (part_key x) n) refl a (before_below n p xs)
  where
    by : (b : Bool) → nat_lt (part_key x) n ≡ b → Among p (if b then x ∷ rows_before part_key n xs else []) → (Among p (rows_before part_key n xs) → (part_key p < n) × Among p xs)
        → (part_key p < n) × Among p (x ∷ xs)
    by true t among rest = ⊎_elim
        (λ (e : p ≡ x). let is : (part_key p < n) × Among p (x ∷ xs) = (subst (λ (y : PartRow). part_key y < n) (sym e) (ltb-true (part_key x) n t), inl e) in is)
        (λ (c : Among p (rows_before part_key n xs)). let r = rest c in let is : (part_key p < n) × Among p (x ∷ xs) = (r.0, inr r.1) in is)
        among
    by false t among rest = absurd among

-- rows from a key on have no lower one
from_above : (n : ℕ) (p : PartRow) (ps : List PartRow) → Rises part_key ps → Among p (rows_from part_key n ps) → n ≤ part_key p
from_above n p [] rises a = absurd a
from_above n p (x ∷ xs) rises a = by (nat_lt (part_key x) n) refl a (from_above n p xs rises.1)
  where
    high : (q : ℕ) (ys : List PartRow) → AllAbove part_key q ys → Among p ys → q < part_key p
    high q [] above b = absurd b
    high q (y ∷ ys) above b = ⊎_elim (λ (e : p ≡ y). subst (λ (z : PartRow). q < part_key z) (sym e) above.0) (λ (c : Among p ys). high q ys above.1 c) b

    by : (b : Bool) → nat_lt (part_key x) n ≡ b → Among p (if b then rows_from part_key n xs else x ∷ xs) → (Among p (rows_from part_key n xs) → n ≤ part_key p) → n ≤ part_key p
    by true t among rest = rest among
    by false t among rest =
        let l : n ≤ part_key x = ltb-false (part_key x) n t in
        ⊎_elim
        (λ (e : p ≡ x). subst (λ (y : PartRow). n ≤ part_key y) (sym e) l)
        (λ (c : Among p xs). let h : part_key x < part_key p = high (part_key x) xs rises.0 c in let is : n ≤ part_key p = omega (arith, l, h) in is)
        among

between_alike : (low high : ℕ) (ps : List PartRow) → rows_between entry_key low high (map part_entry ps) ≡ map part_entry (rows_between part_key low high ps)
between_alike low high ps = ap (λ (l : List PartEntry). rows_before entry_key high l) (entries_from low ps) ∙ entries_before high (rows_from part_key low ps)

pub claims_between : (m : MessageRow) (ps : List PartRow) → Few ps → claims_of_entries m (rows_between entry_key (pair_key m.id 0) (pair_key m.id 255) (map part_entry ps)) ≡ claims_of_parts m ps
claims_between m ps few =
    let first : List PartRow = rows_from part_key (pair_key m.id 0) ps in
    let numbered : AreNumbered ps = λ p a. (few.numbers p a).1 in
    let its : AreIts m (rows_between part_key (pair_key m.id 0) (pair_key m.id 255) ps) = λ p a.
    let b = before_below (pair_key m.id 255) p first a in
    between m p (from_above (pair_key m.id 0) p ps few.keys b.1) b.0 (numbered_from (pair_key m.id 0) ps numbered p b.1) in
    ap (λ (l : List PartEntry). claims_of_entries m l) (between_alike (pair_key m.id 0) (pair_key m.id 255) ps)
    ∙ sym (its_entries m (rows_between part_key (pair_key m.id 0) (pair_key m.id 255) ps) its)
    ∙ to_last m first (rises_from (pair_key m.id 0) ps few.keys) (numbered_from (pair_key m.id 0) ps numbered)
    ∙ from_first m ps numbered
