-- Parts that stand as their entries.
use Rattle.std.proofs.Common.{Result, Ok, Err, OnOk, ◌≡◌, List, [], ◌∷◌, Option, Some, refl, sym, subst, inl, inr, ◌∙◌, ap, None, ℕ, suc, length, cond, Bool, true, false, ◌++◌, ◌≤◌, arith}
use Rattle.std.specs.Prelude.{◌==◌}
use Rattle.sms_base.specs.Among.{Among}
use Rattle.sms_rows.specs.table.Table.{row_at, Rises}
use Rattle.sms_rows.proofs.table.Tables.{among_found}
use Rattle.sms_handset_rows.specs.declared.inbox.entry.Entry.{Entry}
use Rattle.sms_handset_rows.specs.inbox.Keys.{entry_key}
use Rattle.sms_handset_rows.specs.inbox.OpenGroups.{AreFound, IsFoundAs, stored_part, stored_parts, entries_of, found_then, one_more, open_at}
use Rattle.sms_handset_rows.specs.declared.inbox.open_group.Regrouping.TheVariants.{Grown}
use Rattle.sms_handset_rows.specs.declared.inbox.entry.Group.{Group}
use Rattle.sms_handset_rows.specs.inbox.Groups.{members, part_number, part_numbers, part_with, first_number}
use Rattle.sms_handset_rows.proofs.inbox.GroupMembers.{members_among}
use Rattle.sms_handset_rows.specs.declared.inbox.open_group.StoredPart.{StoredPart}
use Rattle.sms_handset_rows.specs.inbox.StoredParts.{numbers_of, entry_with}
use Rattle.sms_handset_rows.specs.declared.inbox.open_group.OpenGroup.{OpenGroup}
use Rattle.sms_handset_rows.specs.inbox.TakenParts.{carried_by, taken_of}
use Rattle.sms_handset_rows.proofs.inbox.Indexing.{is_first}
use Rattle.sms_handset_rows.specs.inbox.OpenIndex.{first_entry_of}

-- what is known where it is done leads to more
pub done : {X E : Type 0} (r : Result X E) (P Q : Type 0) → (P → Q) → OnOk r P → OnOk r Q
done (Ok x) P Q f h = f h
done (Err e) P Q f h = tt

-- ---- the parts of a group are found

standing : (xs es : List Entry) → ((x : Entry) → Among x xs → row_at entry_key x.number es ≡ Some x) → AreFound (stored_parts xs) es
standing [] es h = tt
standing (x ∷ xs) es h = (
  subst (λ (o : Option Entry). IsFoundAs (stored_part x) o) (sym (h x (inl refl))) refl,
  standing xs es (λ y m. h y (inr m)),
)

again : (xs es : List Entry) → ((x : Entry) → Among x xs → row_at entry_key x.number es ≡ Some x) → entries_of (stored_parts xs) es ≡ xs
again [] es h = refl
again (x ∷ xs) es h =
    ap (λ (o : Option Entry). found_then o (entries_of (stored_parts xs) es)) (h x (inl refl))
    ∙ ap (λ (l : List Entry). x ∷ l) (again xs es (λ y m. h y (inr m)))

pub members_found : (g : Group) (es : List Entry) → Rises entry_key es → AreFound (stored_parts (members g es)) es
members_found g es r = standing (members g es) es (λ x m. among_found entry_key x es r (members_among g x es m).0)

pub members_again : (g : Group) (es : List Entry) → Rises entry_key es → entries_of (stored_parts (members g es)) es ≡ members g es
members_again g es r = again (members g es) es (λ x m. among_found entry_key x es r (members_among g x es m).0)

-- ---- parts tell of their entries

next_stored : (p : StoredPart) (o : Option Entry) (rest : List Entry) → IsFoundAs p o → stored_parts (found_then o rest) ≡ p ∷ stored_parts rest
next_stored p None rest h = absurd h
next_stored p (Some e) rest h = ap (λ (q : StoredPart). q ∷ stored_parts rest) h

pub stored_again : (ps : List StoredPart) (es : List Entry) → AreFound ps es → stored_parts (entries_of ps es) ≡ ps
stored_again [] es h = refl
stored_again (p ∷ ps) es h =
    next_stored p (row_at entry_key p.entry es) (entries_of ps es) h.0 ∙ ap (λ (l : List StoredPart). p ∷ l) (stored_again ps es h.1)

numbers_stored : (es : List Entry) → numbers_of (stored_parts es) ≡ part_numbers es
numbers_stored [] = refl
numbers_stored (e ∷ es) = ap (λ (l : List ℕ). part_number e.message ∷ l) (numbers_stored es)

pub numbers_are : (ps : List StoredPart) (es : List Entry) → AreFound ps es → numbers_of ps ≡ part_numbers (entries_of ps es)
numbers_are ps es h = ap (λ (l : List StoredPart). numbers_of l) (sym (stored_again ps es h)) ∙ numbers_stored (entries_of ps es)

length_stored : (es : List Entry) → length (stored_parts es) ≡ length es
length_stored [] = refl
length_stored (e ∷ es) = ap suc (length_stored es)

pub length_is : (ps : List StoredPart) (es : List Entry) → AreFound ps es → length ps ≡ length (entries_of ps es)
length_is ps es h = ap (λ (l : List StoredPart). length l) (sym (stored_again ps es h)) ∙ length_stored (entries_of ps es)

with_next : (n : ℕ) (p : StoredPart) (o : Option Entry) (rest : List Entry) → IsFoundAs p o → part_with n (found_then o rest) ≡ cond (p.number == n) o (part_with n rest)
with_next n p None rest h = absurd h
with_next n p (Some e) rest h = ap (λ (q : StoredPart). cond (q.number == n) (Some e) (part_with n rest)) h

-- the entry of that number, if there is a number
abbrev pub row_of : Option ℕ → List Entry → Option Entry
row_of None es = None
row_of (Some k) es = row_at entry_key k es

row_next : (b : Bool) (k : ℕ) (o : Option ℕ) (es : List Entry) → row_of (cond b (Some k) o) es ≡ cond b (row_at entry_key k es) (row_of o es)
row_next true k o es = refl
row_next false k o es = refl

pub with_is : (n : ℕ) (ps : List StoredPart) (es : List Entry) → AreFound ps es → row_of (entry_with n ps) es ≡ part_with n (entries_of ps es)
with_is n [] es h = refl
with_is n (p ∷ ps) es h =
    row_next (p.number == n) p.entry (entry_with n ps) es
    ∙ ap (λ (o : Option Entry). cond (p.number == n) (row_at entry_key p.entry es) o) (with_is n ps es h.1)
    ∙ sym (with_next n p (row_at entry_key p.entry es) (entries_of ps es) h.0)

-- ---- what stands under a number

pub open_parts : (n : ℕ) (o : OpenGroup) (es : List Entry) → open_at n es ≡ Some o → o.parts ≡ stored_parts (members o.group es)
open_parts n o es s =
    let f = is_first n o es s in
    ap (λ (z : OpenGroup). z.parts) f.open_is ∙ ap (λ (l : List Entry). stored_parts l) (sym f.members_are)

pub open_joined : (n : ℕ) (o : OpenGroup) (es : List Entry) → open_at n es ≡ Some o → o.joined ≡ taken_of o.group (members o.group es)
open_joined n o es s =
    let f = is_first n o es s in
    ap (λ (z : OpenGroup). z.joined) f.open_is ∙ ap (λ (l : List Entry). taken_of o.group l) (sym f.members_are)

stored_append : (xs ys : List Entry) → stored_parts (xs ++ ys) ≡ stored_parts xs ++ stored_parts ys
stored_append [] ys = refl
stored_append (x ∷ xs) ys = ap (λ (l : List StoredPart). stored_part x ∷ l) (stored_append xs ys)

pub stored_more : (xs : List Entry) (e : Entry) → stored_parts (xs ++ e ∷ []) ≡ stored_parts xs ++ stored_part e ∷ []
stored_more xs e = stored_append xs (e ∷ [])

-- the number of the first entry
pub first_is : (ps : List StoredPart) (es : List Entry) (n : ℕ) (e : Entry) → AreFound ps es → e.number ≡ n → first_entry_of ps n ≡ first_number (entries_of ps es ++ e ∷ [])
first_is [] es n e h q = sym q
first_is (p ∷ ps) es n e h q = first_more p (row_at entry_key p.entry es) (entries_of ps es) e h.0
  where
    first_more : (p : StoredPart) (o : Option Entry) (rest : List Entry) (e : Entry) → IsFoundAs p o → p.entry ≡ first_number (found_then o rest ++ e ∷ [])
    first_more p None rest e h = absurd h
    first_more p (Some x) rest e h = ap (λ (q : StoredPart). q.entry) (sym h)

-- a group that has parts has one more
pub grows_as : (g : Group) (ps : List StoredPart) (es : List Entry) (e : Entry) (first : ℕ) → 1 ≤ length ps → first ≡ first_entry_of ps e.number → ps ≡ stored_parts es
    → Grown first (ps ++ stored_part e ∷ []) (carried_by e) ≡ one_more g es e
grows_as g ps [] e first l i q = absurd (let none : length ps ≡ 0 = ap (λ (z : List StoredPart). length z) q in omega (arith, l, none))
grows_as g ps (x ∷ xs) e first l i q =
    let is : first ≡ x.number = i ∙ ap (λ (z : List StoredPart). first_entry_of z e.number) q in
    ap (λ (k : ℕ). Grown k (ps ++ stored_part e ∷ []) (carried_by e)) is
    ∙ ap (λ (z : List StoredPart). Grown x.number (z ++ stored_part e ∷ []) (carried_by e)) q
    ∙ ap (λ (z : List StoredPart). Grown x.number z (carried_by e)) (sym (stored_more (x ∷ xs) e))
