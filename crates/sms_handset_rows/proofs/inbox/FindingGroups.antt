-- Groups in the index.
use Rattle.std.proofs.Common.{◌≡◌, ℕ, List, nat_eq, Some, [], ◌∷◌, false, None, refl, ◌∙◌, true, sym, ap, ⊎_elim, eq-eqb, true≢false, Option, ◌+◌, ◌++◌, append-nil, append_assoc, subst, zero, suc, take, ◌<◌, length, get_or}
use Rattle.std.specs.Map.{lookup, keys_of}
use Rattle.std.specs.List.{AllByRecursion, IsDistinct}
use Rattle.std.proofs.lemmas.Bool.{cond-false, cases_Bool, cases_eq, cond-true, ne_eqb}
use Rattle.std.specs.Cmp.{nat_eq_equiv}
use Rattle.std.proofs.lemmas.List.{take_more}
use Rattle.indexmap.specs.IndexMap.{insert_all, insert_entry}
use Rattle.indexmap.proofs.MapLemmas.{absent_before, absent_from_lookup, insert_entry-absent}
use Rattle.sms_rows.specs.table.Table.{Rises, AllAbove}
use Rattle.sms_handset_rows.specs.declared.inbox.entry.Group.{Group}
use Rattle.sms_handset_rows.specs.declared.inbox.open_group.OpenGroup.{OpenGroup}
use Rattle.sms_handset_rows.specs.inbox.Groups.{is_same_group, members, is_part_of}
use Rattle.sms_handset_rows.specs.inbox.OpenIndex.{OpenIndex, find_open, Indexes, parts_of, under}
use Rattle.sms_handset_rows.proofs.inbox.GroupMembers.{same_group, one_group, members_append, other_group}
use Rattle.sms_handset_rows.specs.declared.inbox.entry.Entry.{Entry}
use Rattle.sms_handset_rows.specs.inbox.Keys.{entry_key}
use Rattle.sms_handset_rows.specs.inbox.OpenGroups.{HasTaken, one_more, open_group, regrouped, stored_parts}
use Rattle.sms_handset_rows.specs.inbox.TakenParts.{taken_of}
use Rattle.sms_handset_rows.specs.declared.inbox.open_group.Regrouping.{Regrouping}
use Rattle.sms_handset_rows.proofs.inbox.Indexing.{stands_first, all_stay, one_grows}
use Rattle.sms_handset_rows.proofs.inbox.PartsFound.{open_joined, open_parts}
use Rattle.sms_handset_rows.specs.declared.inbox.entry.Message.{Message}
use Rattle.sms_handset_rows.specs.declared.inbox.entry.Message.TheVariants.{Part, Single, Joined}
use Rattle.sms_handset_rows.specs.declared.inbox.open_group.StoredPart.{StoredPart}

-- a group of the list has a number under which it is found
record IsThere (g : Group) (o : OpenGroup) (es : List (ℕ × OpenGroup)) : Type 0 where
  number : ℕ
  there : lookup (nat_eq number) es ≡ Some o
  group_is : o.group ≡ g

none_under : (n : ℕ) (es : List (ℕ × OpenGroup)) → AllByRecursion (λ (y : ℕ). nat_eq n y ≡ false) (keys_of es) → lookup (nat_eq n) es ≡ None
none_under n [] h = refl
none_under n (e ∷ es) h = cond-false (nat_eq n e.0) (Some e.1) (lookup (nat_eq n) es) h.0 ∙ none_under n es h.1

found_there : (g : Group) (o : OpenGroup) (es : List (ℕ × OpenGroup)) → IsDistinct nat_eq (keys_of es) → find_open g es ≡ Some o → IsThere g o es
unfolding IsDistinct
found_there g o [] d s = absurd cc
found_there g o (e ∷ es) d s = ⊎_elim
    (λ (t : is_same_group e.1.group g ≡ true).
    let both : Some e.1 ≡ Some o = sym (cond-true (is_same_group e.1.group g) (Some e.1) (find_open g es) t) ∙ s in
    let is : e.1 ≡ o = cc in
    record {
      number = e.0;
      there = cond-true (nat_eq e.0 e.0) (Some e.1) (lookup (nat_eq e.0) es) (eq-eqb e.0 e.0 refl) ∙ ap (λ (z : OpenGroup). Some z) is;
      group_is = ap (λ (z : OpenGroup). z.group) (sym is) ∙ same_group e.1.group g t;
    })
    (λ (f : is_same_group e.1.group g ≡ false).
    let r = found_there g o es d.1 (sym (cond-false (is_same_group e.1.group g) (Some e.1) (find_open g es) f) ∙ s) in ⊎_elim
    (λ (q : r.number ≡ e.0).
    let bad : None ≡ Some o = sym (none_under e.0 es d.0) ∙ ap (λ (n : ℕ). lookup (nat_eq n) es) (sym q) ∙ r.there in absurd cc)
    (λ (q : r.number ≡ e.0 → ⊥). record {
      number = r.number;
      there = cond-false (nat_eq r.number e.0) (Some e.1) (lookup (nat_eq r.number) es) (ne_eqb r.number e.0 q) ∙ r.there;
      group_is = r.group_is;
    })
    (cases_eq r.number e.0))
    (cases_Bool (is_same_group e.1.group g))

-- a group that is not found stands under no number
not_there : (g : Group) (n : ℕ) (o : OpenGroup) (es : List (ℕ × OpenGroup)) → find_open g es ≡ None → lookup (nat_eq n) es ≡ Some o → ¬ (o.group ≡ g)
not_there g n o [] s l q = absurd cc
not_there g n o (e ∷ es) s l q = ⊎_elim
    (λ (t : is_same_group e.1.group g ≡ true).
    let bad : Some e.1 ≡ None = sym (cond-true (is_same_group e.1.group g) (Some e.1) (find_open g es) t) ∙ s in absurd cc)
    (λ (f : is_same_group e.1.group g ≡ false). ⊎_elim
    (λ (h : nat_eq n e.0 ≡ true).
    let both : Some e.1 ≡ Some o = sym (cond-true (nat_eq n e.0) (Some e.1) (lookup (nat_eq n) es) h) ∙ l in
    let is : e.1 ≡ o = cc in
    let same : is_same_group e.1.group g ≡ true = ap (λ (x : Group). is_same_group x g) (ap (λ (z : OpenGroup). z.group) is ∙ q) ∙ one_group g in
    absurd (true≢false (sym same ∙ f)))
    (λ (h : nat_eq n e.0 ≡ false).
    not_there g n o es (sym (cond-false (is_same_group e.1.group g) (Some e.1) (find_open g es) f) ∙ s)
    (sym (cond-false (nat_eq n e.0) (Some e.1) (lookup (nat_eq n) es) h) ∙ l) q)
    (cases_Bool (nat_eq n e.0)))
    (cases_Bool (is_same_group e.1.group g))

no_members : (g : Group) (index : OpenIndex) (es l : List Entry) → Rises entry_key es → Indexes index es → find_open g index.groups ≡ None → members g es ≡ l → stored_parts l ≡ []
no_members g index es [] r i s q = refl
no_members g index es (x ∷ xs) r i s q =
    absurd (not_there g x.number (open_group g (x ∷ xs)) index.groups s (i x.number ∙ stands_first g x xs es r q) refl)

by_found : (g : Group) (index : OpenIndex) (es : List Entry) (o : Option OpenGroup) → Rises entry_key es → Indexes index es → IsDistinct nat_eq (keys_of index.groups)
    → find_open g index.groups ≡ o → parts_of o ≡ stored_parts (members g es)
by_found g index es None r i u s = sym (no_members g index es (members g es) r i s refl)
by_found g index es (Some o) r i u s =
    let f = found_there g o index.groups u s in
    open_parts f.number o es (sym (i f.number) ∙ f.there) ∙ ap (λ (h : Group). stored_parts (members h es)) f.group_is

-- the parts that the index has of a group are those of its members
pub parts_are : (g : Group) (index : OpenIndex) (es : List Entry) → Rises entry_key es → Indexes index es → IsDistinct nat_eq (keys_of index.groups)
    → parts_of (find_open g index.groups) ≡ stored_parts (members g es)
parts_are g index es r i u = by_found g index es (find_open g index.groups) r i u refl

taken_found : (g : Group) (index : OpenIndex) (es : List Entry) (o : Option OpenGroup) → Rises entry_key es → Indexes index es → IsDistinct nat_eq (keys_of index.groups)
    → find_open g index.groups ≡ o → HasTaken o (members g es)
taken_found g index es None r i u s = tt
taken_found g index es (Some o) r i u s =
    let f = found_there g o index.groups u s in
    open_joined f.number o es (sym (i f.number) ∙ f.there) ∙ ap (λ (h : Group). taken_of o.group (members h es)) f.group_is

-- what the index has taken of a group is its members
pub has_taken : (g : Group) (index : OpenIndex) (es : List Entry) → Rises entry_key es → Indexes index es → IsDistinct nat_eq (keys_of index.groups)
    → HasTaken (find_open g index.groups) (members g es)
has_taken g index es r i u = taken_found g index es (find_open g index.groups) r i u refl

-- groups that are put into an empty index one by one stand as they stood
pub put_all : (done es : List (ℕ × OpenGroup)) → IsDistinct nat_eq (keys_of (done ++ es)) → insert_all nat_eq done es ≡ done ++ es
put_all done [] d = sym (append-nil done)
put_all done (e ∷ es) d =
    let one : insert_entry nat_eq done e.0 e.1 ≡ done ++ e ∷ [] =
    insert_entry-absent nat_eq e.0 e.1 done (absent_from_lookup (nat_eq e.0) done (absent_before nat_eq_equiv done es e d)) in
    let same : (done ++ e ∷ []) ++ es ≡ done ++ e ∷ es = append_assoc done (e ∷ []) es in
    ap (λ (l : List (ℕ × OpenGroup)). insert_all nat_eq l es) one
    ∙ put_all (done ++ e ∷ []) es (subst (λ (l : List (ℕ × OpenGroup)). IsDistinct nat_eq (keys_of l)) (sym same) d) ∙ same

pub moved_all : (empty es new : List (ℕ × OpenGroup)) → empty ≡ [] → IsDistinct nat_eq (keys_of es) → new ≡ insert_all nat_eq empty es → new ≡ es
moved_all empty es new e d n = n ∙ ap (λ (l : List (ℕ × OpenGroup)). insert_all nat_eq l es) e ∙ put_all [] es d

-- ---- entries that come behind all others

above_take : (k n : ℕ) (es : List Entry) → AllAbove entry_key k es → AllAbove entry_key k (take n es)
above_take k zero es h = tt
above_take k (suc n) [] h = tt
above_take k (suc n) (x ∷ xs) h = (h.0, above_take k n xs h.1)

pub rises_take : (n : ℕ) (es : List Entry) → Rises entry_key es → Rises entry_key (take n es)
rises_take zero es h = tt
rises_take (suc n) [] h = tt
rises_take (suc n) (x ∷ xs) h = (above_take x.number n xs h.0, rises_take n xs h.1)

above_front : (k : ℕ) (es : List Entry) (e : Entry) → AllAbove entry_key k (es ++ e ∷ []) → AllAbove entry_key k es
above_front k [] e h = tt
above_front k (x ∷ xs) e h = (h.0, above_front k xs e h.1)

rises_front : (es : List Entry) (e : Entry) → Rises entry_key (es ++ e ∷ []) → Rises entry_key es
rises_front [] e h = tt
rises_front (x ∷ xs) e h = (above_front x.number xs e h.0, rises_front xs e h.1)

none_more : (h : Group) (es : List Entry) (e : Entry) → is_part_of h e.message ≡ false → members h (es ++ e ∷ []) ≡ members h es
none_more h es e f =
    members_append h es (e ∷ []) ∙ ap (λ (l : List Entry). members h es ++ l) (cond-false (is_part_of h e.message) (e ∷ []) [] f) ∙ append-nil (members h es)

-- an entry that is no part
pub takes_other : (e : Entry) (index : OpenIndex) → ((h : Group) → is_part_of h e.message ≡ false) → (es : List Entry) → Rises entry_key (es ++ e ∷ [])
    → Indexes index es → Indexes index (es ++ e ∷ [])
takes_other e index f es r i n = i n ∙ sym (all_stay es (es ++ e ∷ []) (rises_front es e r) r (λ h. none_more h es e (f h)) n)

-- a part: its group stands with one part more
pub takes_part : (e : Entry) (g : Group) (k : ℕ) (t : List ℕ) (parts : List StoredPart) (change : Regrouping) (i j : OpenIndex) → e.message ≡ Part g k t
    → parts ≡ parts_of (find_open g i.groups) → IsDistinct nat_eq (keys_of i.groups)
    → ((ms : List Entry) → parts ≡ stored_parts ms → change ≡ one_more g ms e)
    → ((n : ℕ) → under j n ≡ regrouped change n (under i n))
    → (es : List Entry) → Rises entry_key (es ++ e ∷ []) → Indexes i es → Indexes j (es ++ e ∷ [])
takes_part e g k t parts change i j m p u o h es r index n =
    let before = rises_front es e r in
    let is : change ≡ one_more g (members g es) e = o (members g es) (p ∙ parts_are g i es before index u) in
    let own : members g (es ++ e ∷ []) ≡ members g es ++ e ∷ [] =
    members_append g es (e ∷ []) ∙ ap (λ (l : List Entry). members g es ++ l)
    (cond-true (is_part_of g e.message) (e ∷ []) [] (ap (λ (z : Message). is_part_of g z) m ∙ one_group g)) in
    h n ∙ ap (λ (c : Regrouping). regrouped c n (under i n)) is
    ∙ ap (λ (z : Option OpenGroup). regrouped (one_more g (members g es) e) n z) (index n)
    ∙ sym (one_grows g e (members g es) es (es ++ e ∷ []) before r
    (λ b ne. none_more b es e (ap (λ (z : Message). is_part_of b z) m ∙ other_group g b ne)) refl own n)

pub no_part : (h : Group) (m : Message) → ((g : Group) (k : ℕ) (t : List ℕ) → m ≡ Part g k t → ⊥) → is_part_of h m ≡ false
no_part h (Single tpdu) n = refl
no_part h (Part g k t) n = absurd (n g k t refl)
no_part h (Joined source content) n = refl

-- the entries up to the next
pub takes_next : (i : ℕ) (es : List Entry) (e : Entry) (old new : OpenIndex) → i < length es → e ≡ get_or es i e → Rises entry_key es
    → ((before : List Entry) → Rises entry_key (before ++ e ∷ []) → Indexes old before → Indexes new (before ++ e ∷ []))
    → Indexes old (take i es) → Indexes new (take (i + 1) es)
takes_next i es e old new l q r h index =
    let more : take (i + 1) es ≡ take i es ++ e ∷ [] = take_more es i e l ∙ ap (λ (x : Entry). take i es ++ x ∷ []) (sym q) in
    subst (λ (xs : List Entry). Indexes new xs) (sym more)
    (h (take i es) (subst (λ (xs : List Entry). Rises entry_key xs) more (rises_take (i + 1) es r)) index)
