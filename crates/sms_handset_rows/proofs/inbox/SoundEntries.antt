-- Sound entries of the inbox, as they come, leave, and become others.
use Rattle.std.proofs.Common.{◌≡◌, List, [], ◌∷◌, sym, subst, ⊎_elim, refl, inl, inr, ℕ, ◌+◌, ◌++◌, false, ◌∙◌, Some, None, ap, ◌<◌, ◌≤◌, arith, true}
use Rattle.std.specs.List.{AllByRecursion}
use Rattle.std.specs.Prelude.{◌==◌}
use Rattle.std.proofs.lemmas.Bool.{or_from, or_parts, eqb-false, ne_eqb, cases_eq}
use Rattle.sms_base.specs.Among.{Among}
use Rattle.sms_rows.proofs.table.Tables.{row_behind, row_here, among_put, rises_put, among_without, found_among, found_key, rises_without}
use Rattle.sms_rows.specs.table.Table.{Rises, put, without, row_at}
use Rattle.sms_handset_rows.specs.inbox.Groups.{is_among, members, is_part_of, all_numbers, mark_of, part_numbers, is_open_part}
use Rattle.sms_handset_rows.specs.inbox.SoundInbox.{Differ, IsApart, IsGiven, IsMessage, IsOpenGroup, AreEntries, AreOpenGroups, IsOfOpenGroup}
use Rattle.sms_handset_rows.specs.declared.inbox.entry.Entry.{Entry}
use Rattle.sms_handset_rows.specs.inbox.Keys.{entry_key}
use Rattle.sms_handset_rows.specs.declared.inbox.entry.Group.{Group}
use Rattle.sms_handset_rows.specs.declared.inbox.discarded_group.DiscardedGroup.{DiscardedGroup}
use Rattle.sms_handset_rows.specs.declared.inbox.entry.Message.{Message}
use Rattle.sms_handset_rows.proofs.inbox.GroupMembers.{members_among, part_is, among_members, one_group, without_apart, members_put, members_without, same_entry}
use Rattle.sms_handset_rows.specs.declared.inbox.entry.Message.TheVariants.{Single, Part, Joined}

-- ---- lists

pub all_at : {A : Type 0} (P : A → Type 0) (xs : List A) → AllByRecursion P xs → (x : A) → Among x xs → P x
all_at P [] h x m = elim m [ ]
all_at {A} P (y ∷ ys) h x m = ⊎_elim (λ (e : x ≡ y). subst (λ (z : A). P z) (sym e) h.0) (λ (r : Among x ys). all_at P ys h.1 x r) m

pub all_from : {A : Type 0} (P : A → Type 0) (xs : List A) → ((x : A) → Among x xs → P x) → AllByRecursion P xs
all_from P [] h = tt
all_from P (x ∷ xs) h = (h x (inl refl), all_from P xs (λ y m. h y (inr m)))

-- one more number
among_push : (n m : ℕ) (ns : List ℕ) → is_among n ns ≡ false → (m == n) ≡ false → is_among n (ns ++ m ∷ []) ≡ false
among_push n m [] h e = or_from (m == n) false e refl
among_push n m (x ∷ xs) h e =
    let p = or_parts (x == n) (is_among n xs) h in
    or_from (x == n) (is_among n (xs ++ m ∷ [])) p.0 (among_push n m xs p.1 e)

pub differ_push : (n : ℕ) (ns : List ℕ) → Differ ns → is_among n ns ≡ false → Differ (ns ++ n ∷ [])
differ_push n [] d h = (refl, tt)
differ_push n (m ∷ ms) d h =
    let p = or_parts (m == n) (is_among n ms) h in
    let other : (n == m) ≡ false = ne_eqb n m (λ e. eqb-false m n p.0 (sym e)) in
    (among_push m n ms d.0 other, differ_push n ms d.1 p.1)

-- ---- numbers that no entry has

abbrev pub NoEntry : ℕ → List Entry → Type 0
NoEntry n es = (x : Entry) → Among x es → ¬ (x.number ≡ n)

pub is_apart : (n : ℕ) (es : List Entry) → NoEntry n es → IsApart n es
is_apart n [] h = refl
is_apart n (x ∷ xs) h = row_behind entry_key n x xs (h x (inl refl)) ∙ is_apart n xs (λ y m. h y (inr m))

pub no_entry : (n : ℕ) (es : List Entry) → IsApart n es → NoEntry n es
no_entry n [] e x m = elim m [ ]
no_entry n (y ∷ ys) e x m = ⊎_elim
    (λ (q : y.number ≡ n). let bad : Some y ≡ None = sym (row_here entry_key n y ys q) ∙ e in absurd cc)
    (λ (q : y.number ≡ n → ⊥). ⊎_elim
    (λ (f : x ≡ y). λ g. q (ap (λ (z : Entry). z.number) (sym f) ∙ g))
    (λ (r : Among x ys). no_entry n ys (sym (row_behind entry_key n y ys q) ∙ e) x r)
    m)
    (cases_eq y.number n)

-- numbers that were given stay free where they were
abbrev pub StaysFree : ℕ → List Entry → List Entry → Type 0
StaysFree k es fs = (n : ℕ) → n < k → NoEntry n es → NoEntry n fs

-- ---- the inbox

abbrev pub IsStored : ℕ → Entry → Type 0
IsStored k e = IsGiven k e.number × IsMessage e.slots e.message

pub record Inbox (k : ℕ) (es : List Entry) (ms : List DiscardedGroup) : Type 0 where
  pub order : Rises entry_key es
  pub each : (e : Entry) → Among e es → IsStored k e
  pub groups : (g : Group) (x : Entry) → Among x (members g es) → IsOpenGroup es ms g

pub inbox_from : (k : ℕ) (es : List Entry) (ms : List DiscardedGroup) → Rises entry_key es → AreEntries k es → AreOpenGroups es ms → Inbox k es ms
inbox_from k es ms r a o = record {
  order = r;
  each = all_at (λ (e : Entry). IsGiven k e.number × IsMessage e.slots e.message) es a;
  groups = λ g x m.
      let s = members_among g x es m in
      let p = part_is g x.message s.1 in
      subst (λ (z : Message). IsOfOpenGroup es ms z) p.2 (all_at (λ (e : Entry). IsOfOpenGroup es ms e.message) es o x s.0);
}

pub entries_are : (k : ℕ) (es : List Entry) (ms : List DiscardedGroup) → Inbox k es ms → AreEntries k es
entries_are k es ms h = all_from (λ (e : Entry). IsGiven k e.number × IsMessage e.slots e.message) es h.each

pub groups_are : (k : ℕ) (es : List Entry) (ms : List DiscardedGroup) → Inbox k es ms → AreOpenGroups es ms
groups_are k es ms h = all_from (λ (e : Entry). IsOfOpenGroup es ms e.message) es (λ e a. of_group e e.message a refl)
  where
    of_group : (e : Entry) (m : Message) → Among e es → e.message ≡ m → IsOfOpenGroup es ms m
    of_group e (Single tpdu) a q = tt
    of_group e (Part g n tpdu) a q = h.groups g e (among_members g e es a (ap (λ (z : Message). is_part_of g z) q ∙ one_group g))
    of_group e (Joined source content) a q = tt

stored_more : (k m : ℕ) (e : Entry) → k ≤ m → IsStored k e → IsStored m e
stored_more k m e l s = ((s.0.0, omega (arith, s.0.1)), s.1)

pub open_as : (g : Group) (es fs : List Entry) (ms ns : List DiscardedGroup) → members g fs ≡ members g es → mark_of g ns ≡ None → IsOpenGroup es ms g → IsOpenGroup fs ns g
open_as g es fs ms ns e k h = record {
  once = subst (λ (l : List Entry). Differ (part_numbers l)) (sym e) h.once;
  open_yet = ap (λ (l : List Entry). all_numbers g.total (part_numbers l)) e ∙ h.open_yet;
  not_discarded = k;
}

-- entries among which each group keeps its members
same_groups : (k m : ℕ) (es fs : List Entry) (ms : List DiscardedGroup) → Rises entry_key fs → ((e : Entry) → Among e fs → IsStored m e)
    → ((g : Group) → members g fs ≡ members g es) → Inbox k es ms → Inbox m fs ms
same_groups k m es fs ms r s e h = record {
  order = r;
  each = s;
  groups = λ g x a.
      let o = h.groups g x (subst (λ (l : List Entry). Among x l) (e g) a) in
      open_as g es fs ms ms (e g) o.not_discarded o;
}

-- more numbers were given
pub inbox_more : (k m : ℕ) (es : List Entry) (ms : List DiscardedGroup) → k ≤ m → Inbox k es ms → Inbox m es ms
inbox_more k m es ms l h = same_groups k m es es ms h.order (λ e a. stored_more k m e l (h.each e a)) (λ g. refl) h

-- no group that is open was discarded since
pub inbox_marks : (k : ℕ) (es : List Entry) (ms ns : List DiscardedGroup) → ((g : Group) → mark_of g ms ≡ None → mark_of g ns ≡ None) → Inbox k es ms → Inbox k es ns
inbox_marks k es ms ns f h = record {
  order = h.order;
  each = h.each;
  groups = λ g x a. let o = h.groups g x a in open_as g es es ms ns refl (f g o.not_discarded) o;
}

-- the members of a group lack numbers, and have none twice, if there are any
pub once_of : (k : ℕ) (g : Group) (es : List Entry) (ms : List DiscardedGroup) → Inbox k es ms → Differ (part_numbers (members g es))
once_of k g es ms h = of_members (members g es) refl
  where
    of_members : (l : List Entry) → members g es ≡ l → Differ (part_numbers (members g es))
    of_members [] e = subst (λ (z : List Entry). Differ (part_numbers z)) (sym e) tt
    of_members (x ∷ xs) e = (h.groups g x (subst (λ (z : List Entry). Among x z) (sym e) (inl refl))).once

-- ---- an entry comes under the next number

abbrev pub NoPart : Entry → Type 0
NoPart x = (g : Group) → is_part_of g x.message ≡ false

pub put_each : (k : ℕ) (x : Entry) (es : List Entry) (ms : List DiscardedGroup) → x.number ≡ k → 0 < k → IsMessage x.slots x.message → Inbox k es ms
    → (e : Entry) → Among e (put entry_key x es) → IsStored (k + 1) e
put_each k x es ms q some s h e a = ⊎_elim
    (λ (f : e ≡ x). subst (λ (z : Entry). IsStored (k + 1) z) (sym f) ((omega (arith, q, some), omega (arith, q)), s))
    (λ (r : Among e es × ¬ (e.number ≡ x.number)). stored_more k (k + 1) e (omega arith) (h.each e r.0))
    (among_put entry_key e x es a)

pub new_apart : (k : ℕ) (es : List Entry) (ms : List DiscardedGroup) → Inbox k es ms → NoEntry k es
new_apart k es ms h x a q = absurd (omega (arith, q, (h.each x a).0.1))

members_apart : (n : ℕ) (g : Group) (es : List Entry) → NoEntry n es → without entry_key n (members g es) ≡ members g es
members_apart n g es f =
    without_apart n (members g es) (all_from (λ (e : Entry). ¬ (e.number ≡ n)) (members g es) (λ x a. f x (members_among g x es a).0))

-- an entry of its own
pub single_put : (k : ℕ) (x : Entry) (es : List Entry) (ms : List DiscardedGroup) → x.number ≡ k → 0 < k → NoPart x → IsMessage x.slots x.message
    → Inbox k es ms → Inbox (k + 1) (put entry_key x es) ms
single_put k x es ms q some p s h =
    same_groups k (k + 1) es (put entry_key x es) ms (rises_put entry_key x es h.order) (put_each k x es ms q some s h)
    (λ g. members_put g x es (p g) ∙ members_apart x.number g es (subst (λ (n : ℕ). NoEntry n es) (sym q) (new_apart k es ms h))) h

pub put_free : (k : ℕ) (x : Entry) (es : List Entry) → x.number ≡ k → StaysFree k es (put entry_key x es)
put_free k x es q n l f e a = ⊎_elim
    (λ (s : e ≡ x). λ g. let t : x.number ≡ n = ap (λ (z : Entry). z.number) (sym s) ∙ g in absurd (omega arith))
    (λ (r : Among e es × ¬ (e.number ≡ x.number)). f e r.0)
    (among_put entry_key e x es a)

-- ---- an entry leaves that is no part

pub no_part : (g : Group) (m : Message) → is_open_part m ≡ false → is_part_of g m ≡ false
no_part g (Single tpdu) e = refl
no_part g (Part h k tpdu) e = absurd cc
no_part g (Joined source content) e = refl

pub removed : (k n : ℕ) (x : Entry) (es : List Entry) (ms : List DiscardedGroup) → row_at entry_key n es ≡ Some x → is_open_part x.message ≡ false
    → Inbox k es ms → Inbox k (without entry_key n es) ms
removed k n x es ms q f h =
    same_groups k k es (without entry_key n es) ms (rises_without entry_key n es h.order) (λ e a. h.each e (among_without entry_key e n es a).0)
    (λ g. members_without g n es ∙ without_apart n (members g es) (all_from (λ (e : Entry). ¬ (e.number ≡ n)) (members g es) (apart g))) h
  where
    apart : (g : Group) (v : Entry) → Among v (members g es) → ¬ (v.number ≡ n)
    apart g v a e =
        let m = members_among g v es a in
        let same : v ≡ x = same_entry es v x h.order m.0 (found_among entry_key n x es q) (e ∙ sym (found_key entry_key n x es q)) in
        let part : is_part_of g x.message ≡ true = ap (λ (z : Entry). is_part_of g z.message) (sym same) ∙ m.1 in
        let none : is_part_of g x.message ≡ false = no_part g x.message f in
        absurd cc

pub without_free : (k n : ℕ) (es : List Entry) → StaysFree k es (without entry_key n es)
without_free k n es m l f e a = f e (among_without entry_key e n es a).0
