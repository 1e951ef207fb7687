-- Open groups by their first stored parts, as entries come and go.
use Rattle.std.proofs.Common.{◌≡◌, List, ◌∷◌, ◌++◌, true, Some, None, refl, ◌∙◌, ap, eq-eqb, Option, sym, subst, inl, ℕ, [], ⊎_elim}
use Rattle.std.specs.Prelude.{◌==◌, if◌then◌else◌}
use Rattle.std.proofs.lemmas.Bool.{cond-true, cases_eq, cond-false, ne_eqb}
use Rattle.sms_base.specs.Among.{Among}
use Rattle.sms_rows.specs.table.Table.{Rises, row_at}
use Rattle.sms_rows.proofs.table.Tables.{among_found, found_among}
use Rattle.sms_handset_rows.specs.declared.inbox.entry.Entry.{Entry}
use Rattle.sms_handset_rows.specs.declared.inbox.entry.Group.{Group}
use Rattle.sms_handset_rows.specs.declared.inbox.entry.Message.{Message}
use Rattle.sms_handset_rows.specs.inbox.Groups.{is_part_of, members}
use Rattle.sms_concat.specs.joiner.StepwiseJoining.{Taken}
use Rattle.sms_handset_rows.specs.inbox.OpenGroups.{open_first, open_group, open_under, open_at, open_of, grown, one_more, regrouped, stored_parts}
use Rattle.sms_handset_rows.specs.inbox.TakenParts.{carried_by, none_of}
use Rattle.sms_handset_rows.proofs.inbox.TakenGroups.{taken_push}
use Rattle.sms_handset_rows.proofs.inbox.GroupMembers.{part_is, members_among, one_group, among_members, cases_group}
use Rattle.sms_handset_rows.specs.inbox.Keys.{entry_key}
use Rattle.sms_handset_rows.specs.declared.inbox.open_group.OpenGroup.{OpenGroup}
use Rattle.sms_handset_rows.specs.declared.inbox.entry.Message.TheVariants.{Single, Part, Joined}

-- ---- what stands under a number

first_found : (g : Group) (x : Entry) (xs es : List Entry) (m : Message) → m ≡ x.message → members g es ≡ x ∷ xs → is_part_of g m ≡ true
    → open_under x.number m es ≡ Some (open_group g (x ∷ xs))
first_found g x xs es m e l t =
    let p = part_is g m t in
    ap (λ (z : Message). open_under x.number z es) p.2
    ∙ ap (λ (ys : List Entry). open_first x.number g ys) l
    ∙ cond-true (x.number == x.number) (Some (open_group g (x ∷ xs))) None (eq-eqb x.number x.number refl)

-- a group stands under the number of its first member
pub stands_first : (g : Group) (x : Entry) (xs es : List Entry) → Rises entry_key es → members g es ≡ x ∷ xs → open_at x.number es ≡ Some (open_group g (x ∷ xs))
stands_first g x xs es r l =
    let m = members_among g x es (subst (λ (ys : List Entry). Among x ys) (sym l) (inl refl)) in
    ap (λ (o : Option Entry). open_of x.number o es) (among_found entry_key x es r m.0)
    ∙ first_found g x xs es x.message refl l m.1

-- the first of a group's members
pub record IsFirst (n : ℕ) (o : OpenGroup) (es : List Entry) : Type 0 where
  pub x : Entry
  pub xs : List Entry
  pub members_are : members o.group es ≡ x ∷ xs
  pub number_is : x.number ≡ n
  pub open_is : o ≡ open_group o.group (x ∷ xs)

first_by : (n : ℕ) (g : Group) (o : OpenGroup) (es l : List Entry) (e : Entry) → members g es ≡ l → Among e l → open_first n g l ≡ Some o → IsFirst n o es
first_by n g o es [] e q m s = elim m [ ]
first_by n g o es (x ∷ xs) e q m s = ⊎_elim
    (λ (h : x.number ≡ n).
    let both : Some (open_group g (x ∷ xs)) ≡ Some o = sym (cond-true (x.number == n) (Some (open_group g (x ∷ xs))) None (eq-eqb x.number n h)) ∙ s in
    let is : open_group g (x ∷ xs) ≡ o = cc in
    let same : g ≡ o.group = ap (λ (z : OpenGroup). z.group) is in
    record {
      x = x;
      xs = xs;
      members_are = ap (λ (z : Group). members z es) (sym same) ∙ q;
      number_is = h;
      open_is = sym is ∙ ap (λ (z : Group). open_group z (x ∷ xs)) same;
    })
    (λ (h : x.number ≡ n → ⊥).
    let bad : None ≡ Some o = sym (cond-false (x.number == n) (Some (open_group g (x ∷ xs))) None (ne_eqb x.number n h)) ∙ s in absurd cc)
    (cases_eq x.number n)

first_in : (n : ℕ) (o : OpenGroup) (es : List Entry) (e : Entry) (m : Message) → e.message ≡ m → Among e es → open_under n m es ≡ Some o → IsFirst n o es
first_in n o es e (Single tpdu) q a s = absurd cc
first_in n o es e (Part g k tpdu) q a s =
    first_by n g o es (members g es) e refl (among_members g e es a (ap (λ (z : Message). is_part_of g z) q ∙ one_group g)) s
first_in n o es e (Joined source content) q a s = absurd cc

first_at : (n : ℕ) (o : OpenGroup) (es : List Entry) (r : Option Entry) → row_at entry_key n es ≡ r → open_of n r es ≡ Some o → IsFirst n o es
first_at n o es None q s = absurd cc
first_at n o es (Some e) q s = first_in n o es e e.message refl (found_among entry_key n e es q) s

-- what stands under a number is the group whose first member has it
pub is_first : (n : ℕ) (o : OpenGroup) (es : List Entry) → open_at n es ≡ Some o → IsFirst n o es
is_first n o es s = first_at n o es (row_at entry_key n es) refl s

-- ---- changes

agree : {A : Type 0} (a b : Option A) → ((v : A) → a ≡ Some v → b ≡ Some v) → ((v : A) → b ≡ Some v → a ≡ Some v) → a ≡ b
agree None None p q = refl
agree None (Some v) p q = q v refl
agree (Some v) b p q = sym (p v refl)

-- a group with the same members stands where it stood
stands_too : (n : ℕ) (o : OpenGroup) (a b : List Entry) → Rises entry_key b → members o.group b ≡ members o.group a → open_at n a ≡ Some o → open_at n b ≡ Some o
stands_too n o a b r same s =
    let f = is_first n o a s in
    ap (λ (k : ℕ). open_at k b) (sym f.number_is) ∙ stands_first o.group f.x f.xs b r (same ∙ f.members_are)
    ∙ ap (λ (z : OpenGroup). Some z) (sym f.open_is)

-- where each group keeps its members, each stands where it stood
pub all_stay : (a b : List Entry) → Rises entry_key a → Rises entry_key b → ((g : Group) → members g b ≡ members g a) → (n : ℕ) → open_at n b ≡ open_at n a
all_stay a b ra rb same n =
    agree (open_at n b) (open_at n a)
    (λ o s. stands_too n o b a ra (sym (same o.group)) s)
    (λ o s. stands_too n o a b rb (same o.group) s)

-- one group changes
pub one_opens : (g : Group) (x : Entry) (xs a b : List Entry) → Rises entry_key a → Rises entry_key b
    → ((h : Group) → ¬ (g ≡ h) → members h b ≡ members h a) → members g b ≡ x ∷ xs
    → ((y : Entry) (ys : List Entry) → members g a ≡ y ∷ ys → y.number ≡ x.number)
    → (n : ℕ) → open_at n b ≡ (if x.number == n then Some (open_group g (x ∷ xs)) else open_at n a)
one_opens g x xs a b ra rb others own first n =
    let there = Some (open_group g (x ∷ xs)) in
    ⊎_elim
    (λ (e : x.number ≡ n).
    ap (λ (k : ℕ). open_at k b) (sym e) ∙ stands_first g x xs b rb own ∙ sym (cond-true (x.number == n) there (open_at n a) (eq-eqb x.number n e)))
    (λ (e : x.number ≡ n → ⊥). agree (open_at n b) (open_at n a)
    (λ o s. let f = is_first n o b s in ⊎_elim
    (λ (q : g ≡ o.group).
    let l : x ∷ xs ≡ f.x ∷ f.xs = sym own ∙ ap (λ (z : Group). members z b) q ∙ f.members_are in
    let same : x ≡ f.x = cc in
    absurd (e (ap (λ (z : Entry). z.number) same ∙ f.number_is)))
    (λ (q : g ≡ o.group → ⊥). stands_too n o b a ra (sym (others o.group q)) s)
    (cases_group g o.group))
    (λ o s. let f = is_first n o a s in ⊎_elim
    (λ (q : g ≡ o.group). absurd (e (sym (first f.x f.xs (ap (λ (z : Group). members z a) q ∙ f.members_are)) ∙ f.number_is)))
    (λ (q : g ≡ o.group → ⊥). stands_too n o a b rb (others o.group q) s)
    (cases_group g o.group))
    ∙ sym (cond-false (x.number == n) there (open_at n a) (ne_eqb x.number n e)))
    (cases_eq x.number n)

-- one group has one more part
pub one_grows : (g : Group) (e : Entry) (ms a b : List Entry) → Rises entry_key a → Rises entry_key b
    → ((h : Group) → ¬ (g ≡ h) → members h b ≡ members h a) → members g a ≡ ms → members g b ≡ ms ++ e ∷ []
    → (n : ℕ) → open_at n b ≡ regrouped (one_more g ms e) n (open_at n a)
one_grows g e [] a b ra rb others before after n = one_opens g e [] a b ra rb others after (λ y ys q. let bad : [] ≡ y ∷ ys = sym before ∙ q in absurd cc) n
one_grows g e (x ∷ xs) a b ra rb others before after n =
    let all = x ∷ xs ++ e ∷ [] in
    let grows : Some (open_group g all) ≡ grown (stored_parts all) (carried_by e) (Some (open_group g (x ∷ xs))) =
    ap (λ (t : Option Taken). let o : Option OpenGroup = Some (record { group = g; parts = stored_parts all; joined = t }) in o) (taken_push (Some (none_of g)) (x ∷ xs) e) in
    one_opens g x (xs ++ e ∷ []) a b ra rb others after
    (λ y ys q. let l : x ∷ xs ≡ y ∷ ys = sym before ∙ q in let same : x ≡ y = cc in ap (λ (z : Entry). z.number) (sym same)) n
    ∙ ⊎_elim
    (λ (q : x.number ≡ n).
    let there : open_at n a ≡ Some (open_group g (x ∷ xs)) = ap (λ (k : ℕ). open_at k a) (sym q) ∙ stands_first g x xs a ra before in
    cond-true (x.number == n) (Some (open_group g all)) (open_at n a) (eq-eqb x.number n q) ∙ grows
    ∙ ap (λ (o : Option OpenGroup). grown (stored_parts all) (carried_by e) o) (sym there)
    ∙ sym (cond-true (x.number == n) (grown (stored_parts all) (carried_by e) (open_at n a)) (open_at n a) (eq-eqb x.number n q)))
    (λ (q : x.number ≡ n → ⊥).
    cond-false (x.number == n) (Some (open_group g all)) (open_at n a) (ne_eqb x.number n q)
    ∙ sym (cond-false (x.number == n) (grown (stored_parts all) (carried_by e) (open_at n a)) (open_at n a) (ne_eqb x.number n q)))
    (cases_eq x.number n)

-- one group goes, and no other stands under its number
pub one_closes : (g : Group) (k : ℕ) (a b : List Entry) → Rises entry_key a → Rises entry_key b
    → ((h : Group) → ¬ (g ≡ h) → members h b ≡ members h a) → members g b ≡ []
    → ((y : Entry) (ys : List Entry) → members g a ≡ y ∷ ys → y.number ≡ k)
    → ((h : Group) (y : Entry) → ¬ (g ≡ h) → Among y (members h a) → ¬ (y.number ≡ k))
    → (n : ℕ) → open_at n b ≡ (if k == n then None else open_at n a)
one_closes g k a b ra rb others own first apart n =
    let no_own : (o : OpenGroup) → g ≡ o.group → (f : IsFirst n o b) → ⊥ =
    λ o q f. let l : [] ≡ f.x ∷ f.xs = sym own ∙ ap (λ (z : Group). members z b) q ∙ f.members_are in absurd cc in
    ⊎_elim
    (λ (e : k ≡ n). agree (open_at n b) None
    (λ o s. let f = is_first n o b s in ⊎_elim
    (λ (q : g ≡ o.group). absurd (no_own o q f))
    (λ (q : g ≡ o.group → ⊥).
    absurd (apart o.group f.x q (subst (λ (l : List Entry). Among f.x l) (sym f.members_are ∙ others o.group q) (inl refl)) (f.number_is ∙ sym e)))
    (cases_group g o.group))
    (λ o s. absurd cc)
    ∙ sym (cond-true (k == n) None (open_at n a) (eq-eqb k n e)))
    (λ (e : k ≡ n → ⊥). agree (open_at n b) (open_at n a)
    (λ o s. let f = is_first n o b s in ⊎_elim
    (λ (q : g ≡ o.group). absurd (no_own o q f))
    (λ (q : g ≡ o.group → ⊥). stands_too n o b a ra (sym (others o.group q)) s)
    (cases_group g o.group))
    (λ o s. let f = is_first n o a s in ⊎_elim
    (λ (q : g ≡ o.group). absurd (e (sym (first f.x f.xs (ap (λ (z : Group). members z a) q ∙ f.members_are)) ∙ f.number_is)))
    (λ (q : g ≡ o.group → ⊥). stands_too n o a b rb (others o.group q) s)
    (cases_group g o.group))
    ∙ sym (cond-false (k == n) None (open_at n a) (ne_eqb k n e)))
    (cases_eq k n)
