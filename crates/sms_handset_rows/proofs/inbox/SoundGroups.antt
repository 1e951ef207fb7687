-- Sound entries of the inbox, as parts come and groups end.
use Rattle.std.proofs.Common.{◌≡◌, ◌+◌, ◌<◌, ◌≤◌, arith, List, [], ◌∷◌, ◌++◌, refl, ◌∙◌, ap, inl, inr, ℕ, append-nil, false, None, sym, subst, ⊎_elim, Option, Some, true}
use Rattle.std.proofs.lemmas.Bool.{cond-true, cond-false}
use Rattle.sms_base.specs.Among.{Among}
use Rattle.sms_rows.specs.table.Table.{insert, put, Rises, without}
use Rattle.sms_rows.proofs.table.Tables.{insert_behind, rises_put, among_without, among_put, rises_without}
use Rattle.sms_concat.specs.declared.content.Content.{Content}
use Rattle.sms_handset_rows.specs.declared.inbox.entry.Entry.{Entry}
use Rattle.sms_handset_rows.specs.inbox.Keys.{entry_key}
use Rattle.sms_handset_rows.proofs.inbox.GroupMembers.{without_apart, members_append, one_group, other_group, cases_group, all_without, members_put, apart_groups, members_all_without, others_stay, all_without_self, part_is, members_among}
use Rattle.sms_handset_rows.proofs.inbox.SoundEntries.{all_from, IsStored, Inbox, put_each, differ_push, once_of, open_as, NoEntry, StaysFree}
use Rattle.sms_handset_rows.specs.inbox.Groups.{part_number, part_numbers, members, is_same_group, part_entry, all_numbers, is_among, mark_of, alone, joined_entry, first_number, is_part_of, part_tpdu}
use Rattle.sms_handset_rows.specs.declared.inbox.entry.Group.{Group}
use Rattle.sms_handset_rows.specs.declared.inbox.discarded_group.DiscardedGroup.{DiscardedGroup}
use Rattle.sms_handset_rows.specs.inbox.SoundInbox.{IsPartOf, Differ, IsOpenGroup, IsDelivered, IsMessage, IsGiven}
use Rattle.sms_handset_rows.specs.declared.inbox.entry.Message.{Message}
use Rattle.sms_handset_rows.specs.declared.inbox.entry.Message.TheVariants.{Part}

-- ---- a part comes under the next number

-- a row under a number that was not given stands last
put_last : (x : Entry) (es : List Entry) → ((e : Entry) → Among e es → e.number < x.number) → put entry_key x es ≡ es ++ x ∷ []
put_last x es h = ap (λ (l : List Entry). insert entry_key x l) (without_apart x.number es (all_from (λ (e : Entry). ¬ (e.number ≡ x.number)) es (λ e a q. absurd (omega (arith, q, h e a))))) ∙ last x es h
  where
    last : (x : Entry) (es : List Entry) → ((e : Entry) → Among e es → e.number < x.number) → insert entry_key x es ≡ es ++ x ∷ []
    last x [] h = refl
    last x (y ∷ ys) h = insert_behind entry_key x y ys (let l : y.number ≤ x.number = omega (arith, h y (inl refl)) in l) ∙ ap (λ (l : List Entry). y ∷ l) (last x ys (λ e a. h e (inr a)))

part_numbers_push : (es : List Entry) (e : Entry) → part_numbers (es ++ e ∷ []) ≡ part_numbers es ++ part_number e.message ∷ []
part_numbers_push [] e = refl
part_numbers_push (x ∷ xs) e = ap (λ (l : List ℕ). part_number x.message ∷ l) (part_numbers_push xs e)

-- the entries with one part more
pub record Arrived (k : ℕ) (g : Group) (e : Entry) (es fs : List Entry) : Type 0 where
  pub order : Rises entry_key fs
  pub each : (x : Entry) → Among x fs → IsStored k x
  pub own : members g fs ≡ members g es ++ e ∷ []
  pub others : (h : Group) → ¬ (g ≡ h) → members h fs ≡ members h es

pub arrives : (k : ℕ) (g : Group) (n : ℕ) (tpdu : List ℕ) (es : List Entry) (ms : List DiscardedGroup) → 0 < k → IsPartOf g n tpdu → Inbox k es ms
    → Arrived (k + 1) g (part_entry k g n tpdu) es (put entry_key (part_entry k g n tpdu) es)
arrives k g n tpdu es ms some p h =
    let e : Entry = part_entry k g n tpdu in
    let last : put entry_key e es ≡ es ++ e ∷ [] = put_last e es (λ x a. (h.each x a).0.1) in
    let both : (q : Group) → members q (put entry_key e es) ≡ members q es ++ members q (e ∷ []) =
    λ q. ap (λ (l : List Entry). members q l) last ∙ members_append q es (e ∷ []) in
    record {
      order = rises_put entry_key e es h.order;
      each = put_each k e es ms refl some (refl, p) h;
      own = both g ∙ ap (λ (l : List Entry). members g es ++ l) (cond-true (is_same_group g g) (e ∷ []) [] (one_group g));
      others = λ q ne.
          both q ∙ ap (λ (l : List Entry). members q es ++ l) (cond-false (is_same_group g q) (e ∷ []) [] (other_group g q ne))
          ∙ append-nil (members q es);
    }

-- the group is open still
pub part_opens : (k : ℕ) (g : Group) (e : Entry) (es fs : List Entry) (ms : List DiscardedGroup) → Inbox k es ms → Arrived (k + 1) g e es fs
    → is_among (part_number e.message) (part_numbers (members g es)) ≡ false → mark_of g ms ≡ None → all_numbers g.total (part_numbers (members g es ++ e ∷ [])) ≡ false
    → Inbox (k + 1) fs ms
part_opens k g e es fs ms h a new kept lacks = record {
  order = a.order;
  each = a.each;
  groups = λ q x m. ⊎_elim
      (λ (s : g ≡ q). subst (λ (z : Group). IsOpenGroup fs ms z) s own_open)
      (λ (ne : g ≡ q → ⊥).
      let o = h.groups q x (subst (λ (l : List Entry). Among x l) (a.others q ne) m) in
      open_as q es fs ms ms (a.others q ne) o.not_discarded o)
      (cases_group g q);
}
  where
    own_open : IsOpenGroup fs ms g
    own_open =
        let numbers : part_numbers (members g fs) ≡ part_numbers (members g es) ++ part_number e.message ∷ [] =
        ap (λ (l : List Entry). part_numbers l) a.own ∙ part_numbers_push (members g es) e in
        record {
          once = subst (λ (ns : List ℕ). Differ ns) (sym numbers) (differ_push (part_number e.message) (part_numbers (members g es)) (once_of k g es ms h) new);
          open_yet = ap (λ (l : List Entry). all_numbers g.total (part_numbers l)) a.own ∙ lacks;
          not_discarded = kept;
        }

-- ---- a group ends

-- each is an entry of its own
abbrev pub all_freed : List Entry → List Entry → List Entry
all_freed [] es = es
all_freed (x ∷ xs) es = all_freed xs (put entry_key (alone x) es)

-- what a full group becomes
abbrev pub ended_entries : Group → List Entry → Option Content → List Entry → List Entry
ended_entries g xs None es = all_freed xs es
ended_entries g xs (Some content) es = put entry_key (joined_entry g xs content) (all_without xs es)

-- what holds of each entry holds of those that are left
pub left_all : (P : Entry → Type 0) (xs es : List Entry) → ((e : Entry) → Among e es → P e) → (e : Entry) → Among e (all_without xs es) → P e
left_all P [] es h e a = h e a
left_all P (x ∷ xs) es h e a = left_all P xs (without entry_key x.number es) (λ z b. h z (among_without entry_key z x.number es b).0) e a

freed_all : (P : Entry → Type 0) (xs es : List Entry) → ((e : Entry) → Among e es → P e) → ((x : Entry) → Among x xs → P (alone x))
    → (e : Entry) → Among e (all_freed xs es) → P e
freed_all P [] es h f e a = h e a
freed_all P (x ∷ xs) es h f e a =
    freed_all P xs (put entry_key (alone x) es)
    (λ z b. ⊎_elim (λ (q : z ≡ alone x). subst (λ (y : Entry). P y) (sym q) (f x (inl refl))) (λ (r : Among z es × ¬ (z.number ≡ x.number)). h z r.0) (among_put entry_key z (alone x) es b))
    (λ y m. f y (inr m)) e a

ended_all : (P : Entry → Type 0) (g : Group) (xs : List Entry) (c : Option Content) (es : List Entry) → ((e : Entry) → Among e es → P e) → ((x : Entry) → Among x xs → P (alone x))
    → ((content : Content) → P (joined_entry g xs content)) → (e : Entry) → Among e (ended_entries g xs c es) → P e
ended_all P g xs None es h f j e a = freed_all P xs es h f e a
ended_all P g xs (Some content) es h f j e a = ⊎_elim
    (λ (q : e ≡ joined_entry g xs content). subst (λ (y : Entry). P y) (sym q) (j content))
    (λ (r : Among e (all_without xs es) × ¬ (e.number ≡ first_number xs)). left_all P xs es h e r.0)
    (among_put entry_key e (joined_entry g xs content) (all_without xs es) a)

pub rises_left : (xs es : List Entry) → Rises entry_key es → Rises entry_key (all_without xs es)
rises_left [] es r = r
rises_left (x ∷ xs) es r = rises_left xs (without entry_key x.number es) (rises_without entry_key x.number es r)

rises_freed : (xs es : List Entry) → Rises entry_key es → Rises entry_key (all_freed xs es)
rises_freed [] es r = r
rises_freed (x ∷ xs) es r = rises_freed xs (put entry_key (alone x) es) (rises_put entry_key (alone x) es r)

rises_ended : (g : Group) (xs : List Entry) (c : Option Content) (es : List Entry) → Rises entry_key es → Rises entry_key (ended_entries g xs c es)
rises_ended g xs None es r = rises_freed xs es r
rises_ended g xs (Some content) es r = rises_put entry_key (joined_entry g xs content) (all_without xs es) (rises_left xs es r)

pub members_freed : (g : Group) (xs es : List Entry) → members g (all_freed xs es) ≡ all_without xs (members g es)
members_freed g [] es = refl
members_freed g (x ∷ xs) es = members_freed g xs (put entry_key (alone x) es) ∙ ap (λ (l : List Entry). all_without xs l) (members_put g (alone x) es refl)

-- the first of some
pub first_of : (ms : List Entry) (e : Entry) → (f : Entry) × (Among f (ms ++ e ∷ []) × (first_number (ms ++ e ∷ []) ≡ f.number))
first_of [] e = (e, (inl refl, refl))
first_of (m ∷ ms) e = (m, (inl refl, refl))

pub others_ended : (g h : Group) (c : Option Content) (fs : List Entry) (f : Entry) → Rises entry_key fs → ¬ (g ≡ h) → Among f (members g fs) → first_number (members g fs) ≡ f.number
    → members h (ended_entries g (members g fs) c fs) ≡ members h fs
others_ended g h None fs f r ne a q = members_freed h (members g fs) fs ∙ others_stay g h fs r ne
others_ended g h (Some content) fs f r ne a q =
    let xs = members g fs in
    members_put h (joined_entry g xs content) (all_without xs fs) refl
    ∙ ap (λ (l : List Entry). without entry_key (first_number xs) l) (members_all_without h xs fs ∙ others_stay g h fs r ne)
    ∙ without_apart (first_number xs) (members h fs) (all_from (λ (e : Entry). ¬ (e.number ≡ first_number xs)) (members h fs) (λ y b e. apart_groups g h fs f y r ne a b (e ∙ q)))

pub own_ended : (g : Group) (c : Option Content) (fs : List Entry) → members g (ended_entries g (members g fs) c fs) ≡ []
own_ended g None fs = members_freed g (members g fs) fs ∙ all_without_self (members g fs)
own_ended g (Some content) fs =
    let xs = members g fs in
    members_put g (joined_entry g xs content) (all_without xs fs) refl
    ∙ ap (λ (l : List Entry). without entry_key (first_number xs) l) (members_all_without g xs fs ∙ all_without_self xs)

-- a part that becomes an entry of its own
alone_stored : (k : ℕ) (x : Entry) (m : Message) → m ≡ x.message → IsStored k x → (g : Group) → is_part_of g m ≡ true → IsStored k (alone x)
alone_stored k x m q s g t =
    let p = part_is g m t in
    let v : IsMessage x.slots (Part g p.0 p.1) = subst (λ (z : Message). IsMessage x.slots z) (sym q ∙ p.2) s.1 in
    (s.0, (v.0, subst (λ (z : Message). IsDelivered (part_tpdu z)) (sym p.2 ∙ q) (v.1.0, v.1.2.0)))

-- no member is left, and other groups keep theirs
one_ended : (k : ℕ) (g : Group) (es fs : List Entry) (ms ns : List DiscardedGroup) → Rises entry_key fs → ((e : Entry) → Among e fs → IsStored k e)
    → members g fs ≡ [] → ((h : Group) → ¬ (g ≡ h) → members h fs ≡ members h es)
    → ((h : Group) (x : Entry) → ¬ (g ≡ h) → Among x (members h es) → IsOpenGroup es ms h) → ((h : Group) → ¬ (g ≡ h) → mark_of h ms ≡ None → mark_of h ns ≡ None)
    → Inbox k fs ns
one_ended k g es fs ms ns r s own others groups kept = record {
  order = r;
  each = s;
  groups = λ h x m. ⊎_elim
      (λ (q : g ≡ h). absurd (subst (λ (l : List Entry). Among x l) (ap (λ (z : Group). members z fs) (sym q) ∙ own) m))
      (λ (ne : g ≡ h → ⊥).
      let o = groups h x ne (subst (λ (l : List Entry). Among x l) (others h ne) m) in
      open_as h es fs ms ns (others h ne) (kept h ne o.not_discarded) o)
      (cases_group g h);
}

-- the group is full
pub part_closes : (k : ℕ) (g : Group) (e : Entry) (c : Option Content) (es fs : List Entry) (ms : List DiscardedGroup) → Inbox k es ms → Arrived (k + 1) g e es fs → 0 < g.total
    → Inbox (k + 1) (ended_entries g (members g es ++ e ∷ []) c fs) ms
part_closes k g e c es fs ms h a total =
    let xs = members g fs in
    let f0 = first_of (members g es) e in
    let f = f0.0 in
    let among : Among f xs = subst (λ (l : List Entry). Among f l) (sym a.own) f0.1.0 in
    let first : first_number xs ≡ f.number = ap (λ (l : List Entry). first_number l) a.own ∙ f0.1.1 in
    let given : IsGiven (k + 1) (first_number xs) = subst (λ (n : ℕ). IsGiven (k + 1) n) (sym first) (a.each f (members_among g f fs among).0).0 in
    subst (λ (l : List Entry). Inbox (k + 1) (ended_entries g l c fs) ms) a.own
    (one_ended (k + 1) g es (ended_entries g xs c fs) ms ms
    (rises_ended g xs c fs a.order)
    (ended_all (λ (x : Entry). IsStored (k + 1) x) g xs c fs a.each
    (λ x m. let s = members_among g x fs m in alone_stored (k + 1) x x.message refl (a.each x s.0) g s.1)
    (λ content. (given, (let l : 1 ≤ g.total = omega arith in l))))
    (own_ended g c fs)
    (λ q ne. others_ended g q c fs f a.order ne among first ∙ a.others q ne)
    (λ q x ne m. h.groups q x m) (λ q ne n. n))

pub closed_free : (k : ℕ) (g : Group) (e : Entry) (c : Option Content) (es fs : List Entry) → Arrived (k + 1) g e es fs → StaysFree k es fs
    → StaysFree k es (ended_entries g (members g es ++ e ∷ []) c fs)
closed_free k g e c es fs a s n l free =
    let xs = members g fs in
    let f0 = first_of (members g es) e in
    let f = f0.0 in
    let among : Among f xs = subst (λ (l : List Entry). Among f l) (sym a.own) f0.1.0 in
    let first : first_number xs ≡ f.number = ap (λ (l : List Entry). first_number l) a.own ∙ f0.1.1 in
    let none : NoEntry n fs = s n l free in
    subst (λ (l : List Entry). NoEntry n (ended_entries g l c fs)) a.own
    (ended_all (λ (x : Entry). ¬ (x.number ≡ n)) g xs c fs none
    (λ x m. none x (members_among g x fs m).0)
    (λ content q. none f (members_among g f fs among).0 (sym first ∙ q)))

-- ---- a group is discarded

pub group_leaves : (k : ℕ) (g : Group) (es : List Entry) (ms ns : List DiscardedGroup) → ((h : Group) → ¬ (g ≡ h) → mark_of h ms ≡ None → mark_of h ns ≡ None)
    → Inbox k es ms → Inbox k (all_without (members g es) es) ns
group_leaves k g es ms ns kept h =
    let xs = members g es in
    one_ended k g es (all_without xs es) ms ns (rises_left xs es h.order) (left_all (λ (x : Entry). IsStored k x) xs es h.each)
    (members_all_without g xs es ∙ all_without_self xs) (λ q ne. members_all_without q xs es ∙ others_stay g q es h.order ne)
    (λ q x ne m. h.groups q x m) kept

pub left_free : (k : ℕ) (xs es : List Entry) → StaysFree k es (all_without xs es)
left_free k xs es n l free = left_all (λ (x : Entry). ¬ (x.number ≡ n)) xs es free

-- the numbers of those that leave are free
pub number_free : (x : Entry) (xs es : List Entry) → Among x xs → NoEntry x.number (all_without xs es)
number_free x [] es m = elim m [ ]
number_free x (y ∷ ys) es m = ⊎_elim
    (λ (e : x ≡ y). left_all (λ (z : Entry). ¬ (z.number ≡ x.number)) ys (without entry_key y.number es)
    (λ z b q. (among_without entry_key z y.number es b).1 (q ∙ ap (λ (w : Entry). w.number) e)))
    (λ (r : Among x ys). number_free x ys (without entry_key y.number es) r)
    m
