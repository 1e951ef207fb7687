-- The tests decide whether rows of the inbox are sound.
use Rattle.std.proofs.Common.{◌≡◌, true≢false, Bool, true, List, [], ◌∷◌, refl, false, ℕ, ◌<◌, ◌≤◌, eq-eqb, eqb-true, Option, Some, None, Result, Ok, Err, ◌∙◌, ap, subst, sym, inl, ⊎_elim, inr}
use Rattle.std.specs.Prelude.{◌&&◌, not, nat_lt, nat_le, ◌==◌, is_none}
use Rattle.std.proofs.lemmas.Bool.{and_from, and_parts, not-true, not_from_false, lt-ltb, ltb-true, le-leb, leb-true, cases_Bool, cond-true, cond-false}
use Rattle.std.specs.List.{AllByRecursion}
use Rattle.sms_base.specs.Among.{Among}
use Rattle.sms_base.specs.declared.address.Address.{Address}
use Rattle.sms_rows.specs.table.Table.{row_at}
use Rattle.sms_alphabet.specs.declared.concat_key.ConcatKey.{ConcatKey}
use Rattle.sms_tpdu.specs.declared.deliver.Deliver.{Deliver as DeliverOf}
use Rattle.sms_tpdu.specs.declared.down.Down.{Down}
use Rattle.sms_tpdu.specs.declared.down.Down.TheVariants.{Deliver, StatusReport, SubmitReport}
use Rattle.sms_tpdu.specs.declared.fault.TpduFault.{TpduFault}
use Rattle.sms_tpdu.specs.declared.carrier.Carrier.TheVariants.{InData}
use Rattle.sms_tpdu.specs.TpduReading.{down_at}
use Rattle.sms_handset_rows.specs.inbox.InboxTest.{each_passes, differ, is_given, reads_deliver, has_key, reads_part, is_message, is_entry, is_open_group, is_of_open_group, reads_last, is_last, is_apart, are_marks}
use Rattle.sms_handset_rows.specs.inbox.Groups.{is_among, group_of, is_same_group, key_of, all_numbers, mark_of, members, part_numbers, first_number, is_part_of, is_same_address}
use Rattle.sms_handset_rows.specs.inbox.SoundInbox.{Differ, IsGiven, IsDelivered, IsMessage, IsPartOf, AreEntries, IsOpenGroup, IsOfOpenGroup, AreOpenGroups, IsLast, IsApart, AreMarks}
use Rattle.sms_handset_rows.specs.declared.inbox.entry.Group.{Group}
use Rattle.sms_handset_rows.proofs.inbox.GroupMembers.{one_group, same_group, members_among, among_members, one_address, same_address}
use Rattle.sms_handset_rows.specs.declared.inbox.entry.Message.{Message}
use Rattle.sms_handset_rows.specs.declared.inbox.entry.Message.TheVariants.{Single, Part, Joined}
use Rattle.sms_handset_rows.specs.declared.inbox.entry.Entry.{Entry}
use Rattle.sms_handset_rows.specs.declared.inbox.discarded_group.DiscardedGroup.{DiscardedGroup}
use Rattle.sms_handset_rows.proofs.inbox.SoundEntries.{all_at}
use Rattle.sms_handset_rows.specs.declared.inbox.last_accepted.LastAccepted.{LastAccepted}
use Rattle.sms_handset_rows.specs.inbox.Keys.{entry_key}

-- ---- tests

abbrev pub IsTestOf : Bool → Type 0 → Type 0
IsTestOf b P = ((b ≡ true) → P) × (P → (b ≡ true))

pub both : (a b : Bool) (P Q : Type 0) → IsTestOf a P → IsTestOf b Q → IsTestOf (a && b) (P × Q)
both a b P Q d e = ((λ t. let p = and_parts a b t in (d.0 p.0, e.0 p.1)), (λ h. and_from a b (d.1 h.0) (e.1 h.1)))

-- with the fact told otherwise
pub told_as : (a : Bool) (P Q : Type 0) → (P → Q) → (Q → P) → IsTestOf a P → IsTestOf a Q
told_as a P Q f g d = ((λ t. f (d.0 t)), (λ q. d.1 (g q)))

pub each : {A : Type 0} (test : A → Bool) (P : A → Type 0) → ((x : A) → IsTestOf (test x) (P x)) → (xs : List A) → IsTestOf (each_passes test xs) (AllByRecursion P xs)
each test P d [] = ((λ t. tt), (λ h. refl))
each test P d (x ∷ xs) = both (test x) (each_passes test xs) (P x) (AllByRecursion P xs) (d x) (each test P d xs)

pub not_decides : (a : Bool) → IsTestOf (not a) (a ≡ false)
not_decides a = ((λ t. not-true a t), (λ e. not_from_false a e))

pub less : (a b : ℕ) → IsTestOf (nat_lt a b) (a < b)
less a b = ((λ t. ltb-true a b t), (λ l. lt-ltb a b l))

pub at_most : (a b : ℕ) → IsTestOf (nat_le a b) (a ≤ b)
at_most a b = ((λ t. leb-true a b t), (λ l. le-leb a b l))

pub same : (a b : ℕ) → IsTestOf (a == b) (a ≡ b)
same a b = ((λ t. eqb-true a b t), (λ e. eq-eqb a b e))

nothing : {A : Type 0} (o : Option A) → IsTestOf (is_none o) (o ≡ None)
nothing None = ((λ t. refl), (λ e. refl))
nothing (Some x) = ((λ t. absurd cc), (λ e. absurd cc))

-- ---- numbers

pub differ_decides : (ns : List ℕ) → IsTestOf (differ ns) (Differ ns)
differ_decides [] = ((λ t. tt), (λ d. refl))
differ_decides (n ∷ ns) = both (not (is_among n ns)) (differ ns) (is_among n ns ≡ false) (Differ ns) (not_decides (is_among n ns)) (differ_decides ns)

pub given_decides : (next n : ℕ) → IsTestOf (is_given next n) (IsGiven next n)
given_decides next n = both (nat_lt 0 n) (nat_lt n next) (0 < n) (n < next) (less 0 n) (less n next)

-- ---- the inbox

deliver_decides : (r : Result Down TpduFault) → IsTestOf (reads_deliver r) ((m : DeliverOf) × (r ≡ Ok (Deliver m)))
deliver_decides (Ok (Deliver m)) = ((λ t. (m, refl)), (λ h. refl))
deliver_decides (Ok (StatusReport r)) = ((λ t. absurd cc), (λ h. let e : Ok (StatusReport r) ≡ Ok (Deliver h.0) = h.1 in absurd cc))
deliver_decides (Ok (SubmitReport r)) = ((λ t. absurd cc), (λ h. let e : Ok (SubmitReport r) ≡ Ok (Deliver h.0) = h.1 in absurd cc))
deliver_decides (Err f) = ((λ t. absurd cc), (λ h. let e : Err f ≡ Ok (Deliver h.0) = h.1 in absurd cc))

abbrev HasKey : Group → ℕ → DeliverOf → Option ConcatKey → Type 0
HasKey g n m k = (key : ConcatKey) × ((k ≡ Some key) × (group_of m.originating_address key ≡ g) × (key.number ≡ n))

key_decides : (g : Group) (n : ℕ) (m : DeliverOf) (k : Option ConcatKey) → IsTestOf (has_key g n m k) (HasKey g n m k)
key_decides g n m None = ((λ t. absurd cc), (λ h. let e : None ≡ Some h.0 = h.1.0 in absurd cc))
key_decides g n m (Some key) = (
  (λ t.
      let p = and_parts (is_same_group (group_of m.originating_address key) g) (key.number == n) t in
      (key, (refl, same_group (group_of m.originating_address key) g p.0, eqb-true key.number n p.1))),
  (λ h.
      let e : Some key ≡ Some h.0 = h.1.0 in
      let q : key ≡ h.0 = cc in
      let group : group_of m.originating_address key ≡ g = ap (λ (k : ConcatKey). group_of m.originating_address k) q ∙ h.1.1 in
      let number : key.number ≡ n = ap (λ (k : ConcatKey). k.number) q ∙ h.1.2 in
      and_from (is_same_group (group_of m.originating_address key) g) (key.number == n)
      (ap (λ (a : Group). is_same_group a g) group ∙ one_group g) (eq-eqb key.number n number)),
)

abbrev ReadsPart : Group → ℕ → Result Down TpduFault → Type 0
ReadsPart g n r =
    (m : DeliverOf) × (key : ConcatKey) × ((r ≡ Ok (Deliver m)) × (key_of m ≡ Some key) × (group_of m.originating_address key ≡ g) × (key.number ≡ n))

part_decides : (g : Group) (n : ℕ) (r : Result Down TpduFault) → IsTestOf (reads_part g n r) (ReadsPart g n r)
part_decides g n (Ok (Deliver m)) = (
  (λ t. let k = (key_decides g n m (key_of m)).0 t in (m, k.0, (refl, k.1.0, k.1.1, k.1.2))),
  (λ h.
      let e : Ok (Deliver m) ≡ Ok (Deliver h.0) = h.2.0 in
      let q : h.0 ≡ m = cc in
      (key_decides g n m (key_of m)).1 (subst (λ (z : DeliverOf). HasKey g n z (key_of z)) q (h.1, (h.2.1, h.2.2, h.2.3)))),
)
part_decides g n (Ok (StatusReport r)) = ((λ t. absurd cc), (λ h. let e : Ok (StatusReport r) ≡ Ok (Deliver h.0) = h.2.0 in absurd cc))
part_decides g n (Ok (SubmitReport r)) = ((λ t. absurd cc), (λ h. let e : Ok (SubmitReport r) ≡ Ok (Deliver h.0) = h.2.0 in absurd cc))
part_decides g n (Err f) = ((λ t. absurd cc), (λ h. let e : Err f ≡ Ok (Deliver h.0) = h.2.0 in absurd cc))

message_decides : (slots : ℕ) (m : Message) → IsTestOf (is_message slots m) (IsMessage slots m)
message_decides slots (Single tpdu) = both (slots == 1) (reads_deliver (down_at InData tpdu)) (slots ≡ 1) (IsDelivered tpdu) (same slots 1) (deliver_decides (down_at InData tpdu))
message_decides slots (Part g n tpdu) = both (slots == 1) (reads_part g n (down_at InData tpdu)) (slots ≡ 1) (IsPartOf g n tpdu) (same slots 1) (part_decides g n (down_at InData tpdu))
message_decides slots (Joined source content) = at_most 1 slots

entry_decides : (next : ℕ) (e : Entry) → IsTestOf (is_entry next e) (IsGiven next e.number × IsMessage e.slots e.message)
entry_decides next e = both (is_given next e.number) (is_message e.slots e.message) (IsGiven next e.number) (IsMessage e.slots e.message) (given_decides next e.number) (message_decides e.slots e.message)

pub entries_decide : (next : ℕ) (es : List Entry) → IsTestOf (each_passes (λ (e : Entry). is_entry next e) es) (AreEntries next es)
entries_decide next es = each (λ (e : Entry). is_entry next e) (λ (e : Entry). IsGiven next e.number × IsMessage e.slots e.message) (λ e. entry_decides next e) es

-- ---- open groups

pub open_decides : (es : List Entry) (ms : List DiscardedGroup) (g : Group) → IsTestOf (is_open_group es ms g) (IsOpenGroup es ms g)
open_decides es ms g =
    let ns = part_numbers (members g es) in
    let d = both (differ ns) (not (all_numbers g.total ns) && is_none (mark_of g ms)) (Differ ns) ((all_numbers g.total ns ≡ false) × (mark_of g ms ≡ None)) (differ_decides ns)
    (both (not (all_numbers g.total ns)) (is_none (mark_of g ms)) (all_numbers g.total ns ≡ false) (mark_of g ms ≡ None) (not_decides (all_numbers g.total ns)) (nothing (mark_of g ms))) in (
      (λ t. let h = d.0 t in record { once = h.0; open_yet = h.1.0; not_discarded = h.1.1 }),
      (λ h. d.1 (h.once, (h.open_yet, h.not_discarded))),
    )

abbrev IsOfOpen : List Entry → List DiscardedGroup → Entry → Type 0
IsOfOpen es ms e = is_of_open_group es ms e.number e.message ≡ true

abbrev AreOfOpen : List Entry → List DiscardedGroup → List Entry → Type 0
AreOfOpen es ms xs = AllByRecursion (λ (e : Entry). IsOfOpen es ms e) xs

passing : (test : Entry → Bool) (xs : List Entry) → each_passes test xs ≡ true → AllByRecursion (λ (e : Entry). test e ≡ true) xs
passing test xs t = (each test (λ (e : Entry). test e ≡ true) (λ e. ((λ u. u), (λ u. u))) xs).0 t

-- the first part of a group was looked at
of_first : (es : List Entry) (ms : List DiscardedGroup) (g : Group) (x : Entry) (m : Message) → x.message ≡ m → is_part_of g m ≡ true → first_number (members g es) ≡ x.number
    → is_of_open_group es ms x.number m ≡ true → IsOpenGroup es ms g
of_first es ms g x (Single tpdu) q p f t = absurd (true≢false (sym p))
of_first es ms g x (Part h n tpdu) q p f t =
    let e : h ≡ g = same_group h g p in
    let first : first_number (members h es) ≡ x.number = ap (λ (z : Group). first_number (members z es)) e ∙ f in
    let told : is_open_group es ms h ≡ true =
    sym (cond-true (first_number (members h es) == x.number) (is_open_group es ms h) true (eq-eqb (first_number (members h es)) x.number first)) ∙ t in
    subst (λ (z : Group). IsOpenGroup es ms z) e ((open_decides es ms h).0 told)
of_first es ms g x (Joined source content) q p f t = absurd (true≢false (sym p))

has_head : (g : Group) (es xs : List Entry) (ms : List DiscardedGroup) (y : Entry) → members g es ≡ xs → Among y xs → ((e : Entry) → Among e es → IsOfOpen es ms e) → IsOpenGroup es ms g
has_head g es [] ms y q a h = elim a [ ]
has_head g es (x ∷ xs) ms y q a h =
    let m = members_among g x es (subst (λ (l : List Entry). Among x l) (sym q) (inl refl)) in
    of_first es ms g x x.message refl m.1 (ap (λ (l : List Entry). first_number l) q) (h x m.0)

open_from : (es : List Entry) (ms : List DiscardedGroup) (e : Entry) (m : Message) → e.message ≡ m → Among e es → ((x : Entry) → Among x es → IsOfOpen es ms x) → IsOfOpenGroup es ms m
open_from es ms e (Single tpdu) q a h = tt
open_from es ms e (Part g n tpdu) q a h =
    has_head g es (members g es) ms e refl (among_members g e es a (ap (λ (z : Message). is_part_of g z) q ∙ one_group g)) h
open_from es ms e (Joined source content) q a h = tt

open_to : (es : List Entry) (ms : List DiscardedGroup) (n : ℕ) (m : Message) → IsOfOpenGroup es ms m → is_of_open_group es ms n m ≡ true
open_to es ms n (Single tpdu) h = refl
open_to es ms n (Part g k tpdu) h = ⊎_elim
    (λ (t : (first_number (members g es) == n) ≡ true). cond-true (first_number (members g es) == n) (is_open_group es ms g) true t ∙ (open_decides es ms g).1 h)
    (λ (t : (first_number (members g es) == n) ≡ false). cond-false (first_number (members g es) == n) (is_open_group es ms g) true t)
    (cases_Bool (first_number (members g es) == n))
open_to es ms n (Joined source content) h = refl

all_open : (es : List Entry) (ms : List DiscardedGroup) (xs : List Entry) → ((e : Entry) → Among e xs → Among e es) → ((x : Entry) → Among x es → IsOfOpen es ms x)
    → AllByRecursion (λ (e : Entry). IsOfOpenGroup es ms e.message) xs
all_open es ms [] a h = tt
all_open es ms (x ∷ xs) a h = (open_from es ms x x.message refl (a x (inl refl)) h, all_open es ms xs (λ e m. a e (inr m)) h)

all_pass : (es : List Entry) (ms : List DiscardedGroup) (xs : List Entry) → AllByRecursion (λ (e : Entry). IsOfOpenGroup es ms e.message) xs
    → each_passes (λ (e : Entry). is_of_open_group es ms e.number e.message) xs ≡ true
all_pass es ms [] h = refl
all_pass es ms (x ∷ xs) h =
    and_from (is_of_open_group es ms x.number x.message) (each_passes (λ (e : Entry). is_of_open_group es ms e.number e.message) xs)
    (open_to es ms x.number x.message h.0) (all_pass es ms xs h.1)

pub groups_decide : (es : List Entry) (ms : List DiscardedGroup) → IsTestOf (each_passes (λ (e : Entry). is_of_open_group es ms e.number e.message) es) (AreOpenGroups es ms)
groups_decide es ms = (
  (λ t. all_open es ms es (λ e a. a) (all_at (λ (e : Entry). IsOfOpen es ms e) es (passing (λ (e : Entry). is_of_open_group es ms e.number e.message) es t))),
  (λ h. all_pass es ms es h),
)

-- ---- what was accepted last

last_reads : (tpdu : List ℕ) (r : Result Down TpduFault) → down_at InData tpdu ≡ r → IsTestOf (reads_last r) (IsLast (record { reference = 0; tpdu = tpdu }))
last_reads tpdu (Ok (Deliver m)) q = ((λ t. inl (m, q)), (λ h. refl))
last_reads tpdu (Ok (StatusReport s)) q = ((λ t. inr (s, q)), (λ h. refl))
last_reads tpdu (Ok (SubmitReport s)) q = (
  (λ t. absurd cc),
  (λ h. ⊎_elim
      (λ (i : IsDelivered tpdu). let e : Ok (SubmitReport s) ≡ Ok (Deliver i.0) = sym q ∙ i.1 in absurd cc)
      (λ i. let e : Ok (SubmitReport s) ≡ Ok (StatusReport i.0) = sym q ∙ i.1 in absurd cc) h),
)
last_reads tpdu (Err f) q = (
  (λ t. absurd cc),
  (λ h. ⊎_elim
      (λ (i : IsDelivered tpdu). let e : Err f ≡ Ok (Deliver i.0) = sym q ∙ i.1 in absurd cc)
      (λ i. let e : Err f ≡ Ok (StatusReport i.0) = sym q ∙ i.1 in absurd cc) h),
)

pub last_decides : (ls : List LastAccepted) → IsTestOf (each_passes (λ (l : LastAccepted). is_last l) ls) (AllByRecursion IsLast ls)
last_decides ls = each (λ (l : LastAccepted). is_last l) IsLast (λ l. last_reads l.tpdu (down_at InData l.tpdu) refl) ls

pub address_decides : (a b : Address) → IsTestOf (is_same_address a b) (a ≡ b)
address_decides a b = ((λ t. same_address a b t), (λ e. ap (λ (z : Address). is_same_address z b) e ∙ one_address b))

pub apart_decides : (n : ℕ) (es : List Entry) → IsTestOf (is_apart n es) (IsApart n es)
apart_decides n es = nothing (row_at entry_key n es)

-- ---- discarded groups

abbrev IsGood : ℕ → List Entry → DiscardedGroup → List DiscardedGroup → Type 0
IsGood next es m ms = (IsGiven next m.number × IsApart m.number es) × (Differ m.seen × ((all_numbers m.group.total m.seen ≡ false) × (mark_of m.group ms ≡ None)))

abbrev is_good : ℕ → List Entry → DiscardedGroup → List DiscardedGroup → Bool
is_good next es m ms = (is_given next m.number && is_apart m.number es) && (differ m.seen && (not (all_numbers m.group.total m.seen) && is_none (mark_of m.group ms)))

good_decides : (next : ℕ) (es : List Entry) (m : DiscardedGroup) (ms : List DiscardedGroup) → IsTestOf (is_good next es m ms) (IsGood next es m ms)
good_decides next es m ms =
    both (is_given next m.number && is_apart m.number es) (differ m.seen && (not (all_numbers m.group.total m.seen) && is_none (mark_of m.group ms)))
    (IsGiven next m.number × IsApart m.number es) (Differ m.seen × ((all_numbers m.group.total m.seen ≡ false) × (mark_of m.group ms ≡ None)))
    (both (is_given next m.number) (is_apart m.number es) (IsGiven next m.number) (IsApart m.number es) (given_decides next m.number) (apart_decides m.number es))
    (both (differ m.seen) (not (all_numbers m.group.total m.seen) && is_none (mark_of m.group ms)) (Differ m.seen) ((all_numbers m.group.total m.seen ≡ false) × (mark_of m.group ms ≡ None)) (differ_decides m.seen)
    (both (not (all_numbers m.group.total m.seen)) (is_none (mark_of m.group ms)) (all_numbers m.group.total m.seen ≡ false) (mark_of m.group ms ≡ None)
    (not_decides (all_numbers m.group.total m.seen)) (nothing (mark_of m.group ms))))

pub marks_decide : (next : ℕ) (es : List Entry) (ms : List DiscardedGroup) → IsTestOf (are_marks next es ms) (AreMarks next es ms)
marks_decide next es [] = ((λ t. tt), (λ h. refl))
marks_decide next es (m ∷ ms) =
    told_as (are_marks next es (m ∷ ms)) (IsGood next es m ms × AreMarks next es ms) (AreMarks next es (m ∷ ms))
    (λ h. (h.0.0.0, h.0.0.1, h.0.1.0, h.0.1.1.0, h.0.1.1.1, h.1)) (λ h. (((h.0, h.1), (h.2, (h.3, h.4))), h.5))
    (both (is_good next es m ms) (are_marks next es ms) (IsGood next es m ms) (AreMarks next es ms) (good_decides next es m ms) (marks_decide next es ms))
