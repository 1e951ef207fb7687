-- The members of groups, as entries come and go.
use Rattle.std.proofs.Common.{◌≡◌, Some, refl, ℕ, sym, ◌∙◌, ap, List, true, eqb-true, bytes_eq, true≢false, eq-eqb, ◌⊎◌, false, inl, inr, ⊎_elim, ◌∷◌, [], ◌++◌, subst}
use Rattle.std.specs.Prelude.{◌==◌, ◌&&◌, nat_lt}
use Rattle.std.proofs.lemmas.Bool.{and_parts, and_from, cases_Bool, false_from_ne_true, cond-true, cond-false, cases_eq, cond_both}
use Rattle.std.proofs.lemmas.Slice.Eq.{bytes_eq-Decides}
use Rattle.std.specs.List.{AllByRecursion}
use Rattle.sms_base.proofs.Addresses.{same_parts}
use Rattle.sms_base.specs.AddressKind.{type_number}
use Rattle.sms_base.specs.declared.address.Address.{Address}
use Rattle.sms_base.specs.Among.{Among}
use Rattle.sms_rows.specs.table.Table.{without, insert, put, Rises, row_at}
use Rattle.sms_rows.proofs.table.Tables.{without_behind, without_here, among_found}
use Rattle.sms_concat.specs.Joining.{is_same_reference}
use Rattle.sms_alphabet.specs.declared.concat_key.ConcatReference.{ConcatReference}
use Rattle.sms_handset_rows.specs.inbox.Groups.{is_same_address, is_same_group, is_part_of, members}
use Rattle.sms_handset_rows.specs.declared.inbox.entry.Group.{Group}
use Rattle.sms_handset_rows.specs.declared.inbox.entry.Message.{Message}
use Rattle.sms_handset_rows.specs.declared.inbox.entry.Message.TheVariants.{Single, Part, Joined}
use Rattle.sms_handset_rows.specs.declared.inbox.entry.Entry.{Entry}
use Rattle.sms_handset_rows.specs.inbox.Keys.{entry_key}
use Rattle.sms_concat.proofs.References.{one_reference, same_reference}

-- ---- groups that are one are equal

pub same_address : (a b : Address) → is_same_address a b ≡ true → a ≡ b
same_address a b e =
    let p = and_parts ((type_number a.ton == type_number b.ton) && (a.npi == b.npi)) (bytes_eq a.digits b.digits) e in
    let q = and_parts (type_number a.ton == type_number b.ton) (a.npi == b.npi) p.0 in
    same_parts a b (eqb-true (type_number a.ton) (type_number b.ton) q.0) (eqb-true a.npi b.npi q.1) ((bytes_eq-Decides a.digits b.digits).0 p.1)

pub same_group : (a b : Group) → is_same_group a b ≡ true → a ≡ b
same_group a b e =
    let p = and_parts (is_same_address a.source b.source && is_same_reference a.reference b.reference) (a.total == b.total) e in
    let q = and_parts (is_same_address a.source b.source) (is_same_reference a.reference b.reference) p.0 in
    let source : a.source ≡ b.source = same_address a.source b.source q.0 in
    let reference : a.reference ≡ b.reference = same_reference a.reference b.reference q.1 in
    let total : a.total ≡ b.total = eqb-true a.total b.total p.1 in
    ap (λ (s : Address). record a { source = s }) source
    ∙ ap (λ (r : ConcatReference). record b { reference = r; total = a.total }) reference
    ∙ ap (λ (t : ℕ). record b { total = t }) total

pub one_address : (a : Address) → is_same_address a a ≡ true
one_address a =
    and_from ((type_number a.ton == type_number a.ton) && (a.npi == a.npi)) (bytes_eq a.digits a.digits)
    (and_from (type_number a.ton == type_number a.ton) (a.npi == a.npi) (eq-eqb (type_number a.ton) (type_number a.ton) refl) (eq-eqb a.npi a.npi refl))
    ((bytes_eq-Decides a.digits a.digits).1 refl)

pub one_group : (g : Group) → is_same_group g g ≡ true
one_group g =
    let a : Address = g.source in
    let address = one_address a in
    and_from (is_same_address a a && is_same_reference g.reference g.reference) (g.total == g.total)
    (and_from (is_same_address a a) (is_same_reference g.reference g.reference) address (one_reference g.reference)) (eq-eqb g.total g.total refl)

pub cases_group : (a b : Group) → (a ≡ b) ⊎ ¬ (a ≡ b)
cases_group a b =
    ⊎_elim (λ (t : is_same_group a b ≡ true). inl (same_group a b t))
    (λ (f : is_same_group a b ≡ false). inr (λ e. true≢false (sym (one_group b) ∙ ap (λ (x : Group). is_same_group x b) (sym e) ∙ f)))
    (cases_Bool (is_same_group a b))

pub other_group : (a b : Group) → ¬ (a ≡ b) → is_same_group a b ≡ false
other_group a b ne = false_from_ne_true (is_same_group a b) (λ t. ne (same_group a b t))

-- ---- parts of groups

-- a part of the group is so by its own group
pub part_is : (g : Group) (m : Message) → is_part_of g m ≡ true → (k : ℕ) × (t : List ℕ) × (m ≡ Part g k t)
part_is g (Single tpdu) e = absurd (true≢false (sym e))
part_is g (Part h k t) e = (k, t, ap (λ (x : Group). Part x k t) (same_group h g e))
part_is g (Joined source content) e = absurd (true≢false (sym e))

one_part : (g h : Group) (m : Message) → is_part_of g m ≡ true → is_part_of h m ≡ true → g ≡ h
one_part g h m a b =
    let p = part_is g m a in
    let q = part_is h m b in
    let both : Part g p.0 p.1 ≡ Part h q.0 q.1 = sym p.2 ∙ q.2 in
    let e : g ≡ h = cc in e

-- ---- members

members_here : (g : Group) (x : Entry) (xs : List Entry) → is_part_of g x.message ≡ true → members g (x ∷ xs) ≡ x ∷ members g xs
members_here g x xs t = cond-true (is_part_of g x.message) (x ∷ members g xs) (members g xs) t

members_behind : (g : Group) (x : Entry) (xs : List Entry) → is_part_of g x.message ≡ false → members g (x ∷ xs) ≡ members g xs
members_behind g x xs f = cond-false (is_part_of g x.message) (x ∷ members g xs) (members g xs) f

pub members_append : (g : Group) (xs ys : List Entry) → members g (xs ++ ys) ≡ members g xs ++ members g ys
members_append g [] ys = refl
members_append g (x ∷ xs) ys = ⊎_elim
    (λ (t : is_part_of g x.message ≡ true).
    members_here g x (xs ++ ys) t ∙ ap (λ (l : List Entry). x ∷ l) (members_append g xs ys)
    ∙ ap (λ (l : List Entry). l ++ members g ys) (sym (members_here g x xs t)))
    (λ (f : is_part_of g x.message ≡ false).
    members_behind g x (xs ++ ys) f ∙ members_append g xs ys
    ∙ ap (λ (l : List Entry). l ++ members g ys) (sym (members_behind g x xs f)))
    (cases_Bool (is_part_of g x.message))

pub members_without : (g : Group) (n : ℕ) (es : List Entry) → members g (without entry_key n es) ≡ without entry_key n (members g es)
members_without g n [] = refl
members_without g n (x ∷ xs) = ⊎_elim
    (λ (e : x.number ≡ n). ap (λ (l : List Entry). members g l) (without_here entry_key n x xs e) ∙ members_without g n xs ∙ ⊎_elim
    (λ (t : is_part_of g x.message ≡ true). sym (ap (λ (l : List Entry). without entry_key n l) (members_here g x xs t) ∙ without_here entry_key n x (members g xs) e))
    (λ (f : is_part_of g x.message ≡ false). sym (ap (λ (l : List Entry). without entry_key n l) (members_behind g x xs f)))
    (cases_Bool (is_part_of g x.message)))
    (λ (e : x.number ≡ n → ⊥). ap (λ (l : List Entry). members g l) (without_behind entry_key n x xs e) ∙ ⊎_elim
    (λ (t : is_part_of g x.message ≡ true).
    members_here g x (without entry_key n xs) t ∙ ap (λ (l : List Entry). x ∷ l) (members_without g n xs)
    ∙ sym (ap (λ (l : List Entry). without entry_key n l) (members_here g x xs t) ∙ without_behind entry_key n x (members g xs) e))
    (λ (f : is_part_of g x.message ≡ false).
    members_behind g x (without entry_key n xs) f ∙ members_without g n xs
    ∙ sym (ap (λ (l : List Entry). without entry_key n l) (members_behind g x xs f)))
    (cases_Bool (is_part_of g x.message)))
    (cases_eq x.number n)

members_insert : (g : Group) (x : Entry) (es : List Entry) → is_part_of g x.message ≡ false → members g (insert entry_key x es) ≡ members g es
members_insert g x [] f = members_behind g x [] f
members_insert g x (y ∷ ys) f =
    cond_both (nat_lt x.number y.number) (x ∷ y ∷ ys) (y ∷ insert entry_key x ys) (λ (l : List Entry). members g l ≡ members g (y ∷ ys))
    (λ t. members_behind g x (y ∷ ys) f)
    (λ t. ⊎_elim
    (λ (p : is_part_of g y.message ≡ true). members_here g y (insert entry_key x ys) p ∙ ap (λ (l : List Entry). y ∷ l) (members_insert g x ys f) ∙ sym (members_here g y ys p))
    (λ (p : is_part_of g y.message ≡ false). members_behind g y (insert entry_key x ys) p ∙ members_insert g x ys f ∙ sym (members_behind g y ys p))
    (cases_Bool (is_part_of g y.message)))

-- an entry that is no part takes the place of that of its number
pub members_put : (g : Group) (x : Entry) (es : List Entry) → is_part_of g x.message ≡ false → members g (put entry_key x es) ≡ without entry_key x.number (members g es)
members_put g x es f = members_insert g x (without entry_key x.number es) f ∙ members_without g x.number es

pub members_among : (g : Group) (x : Entry) (es : List Entry) → Among x (members g es) → Among x es × (is_part_of g x.message ≡ true)
members_among g x [] m = elim m [ ]
members_among g x (y ∷ ys) m = ⊎_elim
    (λ (t : is_part_of g y.message ≡ true). ⊎_elim
    (λ (e : x ≡ y). (inl e, ap (λ (z : Entry). is_part_of g z.message) e ∙ t))
    (λ (r : Among x (members g ys)). let s = members_among g x ys r in (inr s.0, s.1))
    (subst (λ (l : List Entry). Among x l) (members_here g y ys t) m))
    (λ (f : is_part_of g y.message ≡ false).
    let s = members_among g x ys (subst (λ (l : List Entry). Among x l) (members_behind g y ys f) m) in (inr s.0, s.1))
    (cases_Bool (is_part_of g y.message))

pub among_members : (g : Group) (x : Entry) (es : List Entry) → Among x es → is_part_of g x.message ≡ true → Among x (members g es)
among_members g x [] m t = elim m [ ]
among_members g x (y ∷ ys) m t = ⊎_elim
    (λ (e : x ≡ y). subst (λ (l : List Entry). Among x l) (sym (members_here g y ys (ap (λ (z : Entry). is_part_of g z.message) (sym e) ∙ t))) (inl e))
    (λ (r : Among x ys).
    let s = among_members g x ys r t in
    cond_both (is_part_of g y.message) (y ∷ members g ys) (members g ys) (λ (l : List Entry). Among x l) (λ p. inr s) (λ p. s))
    m

-- ---- entries that stand in order have each number once

pub same_entry : (es : List Entry) (x y : Entry) → Rises entry_key es → Among x es → Among y es → x.number ≡ y.number → x ≡ y
same_entry es x y h a b e =
    let both : Some x ≡ Some y = sym (among_found entry_key x es h a) ∙ ap (λ (n : ℕ). row_at entry_key n es) e ∙ among_found entry_key y es h b in
    let q : x ≡ y = cc in q

pub apart_groups : (g h : Group) (es : List Entry) (x y : Entry) → Rises entry_key es → ¬ (g ≡ h) → Among x (members g es) → Among y (members h es) → ¬ (y.number ≡ x.number)
apart_groups g h es x y r ne a b e =
    let p = members_among g x es a in
    let q = members_among h y es b in
    let same : y ≡ x = same_entry es y x r q.0 p.0 e in
    ne (one_part g h x.message p.1 (ap (λ (z : Entry). is_part_of h z.message) (sym same) ∙ q.1))

-- ---- rows that go

abbrev Apart : ℕ → List Entry → Type 0
Apart n es = AllByRecursion (λ (e : Entry). ¬ (e.number ≡ n)) es

pub without_apart : (n : ℕ) (es : List Entry) → Apart n es → without entry_key n es ≡ es
without_apart n [] h = refl
without_apart n (x ∷ xs) h = without_behind entry_key n x xs h.0 ∙ ap (λ (l : List Entry). x ∷ l) (without_apart n xs h.1)

all_among : (P : Entry → Type 0) (xs : List Entry) → ((x : Entry) → Among x xs → P x) → AllByRecursion P xs
all_among P [] h = tt
all_among P (x ∷ xs) h = (h x (inl refl), all_among P xs (λ y m. h y (inr m)))

abbrev pub all_without : List Entry → List Entry → List Entry
all_without [] es = es
all_without (x ∷ xs) es = all_without xs (without entry_key x.number es)

without_swap : (m n : ℕ) (es : List Entry) → without entry_key m (without entry_key n es) ≡ without entry_key n (without entry_key m es)
without_swap m n [] = refl
without_swap m n (x ∷ xs) = ⊎_elim
    (λ (e : x.number ≡ n). ap (λ (l : List Entry). without entry_key m l) (without_here entry_key n x xs e) ∙ without_swap m n xs ∙ ⊎_elim
    (λ (f : x.number ≡ m). sym (ap (λ (l : List Entry). without entry_key n l) (without_here entry_key m x xs f)))
    (λ (f : x.number ≡ m → ⊥). sym (ap (λ (l : List Entry). without entry_key n l) (without_behind entry_key m x xs f) ∙ without_here entry_key n x (without entry_key m xs) e))
    (cases_eq x.number m))
    (λ (e : x.number ≡ n → ⊥). ap (λ (l : List Entry). without entry_key m l) (without_behind entry_key n x xs e) ∙ ⊎_elim
    (λ (f : x.number ≡ m).
    without_here entry_key m x (without entry_key n xs) f ∙ without_swap m n xs
    ∙ sym (ap (λ (l : List Entry). without entry_key n l) (without_here entry_key m x xs f)))
    (λ (f : x.number ≡ m → ⊥).
    without_behind entry_key m x (without entry_key n xs) f ∙ ap (λ (l : List Entry). x ∷ l) (without_swap m n xs)
    ∙ sym (ap (λ (l : List Entry). without entry_key n l) (without_behind entry_key m x xs f) ∙ without_behind entry_key n x (without entry_key m xs) e))
    (cases_eq x.number m))
    (cases_eq x.number n)

all_without_too : (xs : List Entry) (n : ℕ) (es : List Entry) → all_without xs (without entry_key n es) ≡ without entry_key n (all_without xs es)
all_without_too [] n es = refl
all_without_too (x ∷ xs) n es = ap (λ (l : List Entry). all_without xs l) (without_swap x.number n es) ∙ all_without_too xs n (without entry_key x.number es)

-- nothing is left of entries without themselves
pub all_without_self : (xs : List Entry) → all_without xs xs ≡ []
all_without_self [] = refl
all_without_self (x ∷ xs) =
    ap (λ (l : List Entry). all_without xs l) (without_here entry_key x.number x xs refl)
    ∙ all_without_too xs x.number xs ∙ ap (λ (l : List Entry). without entry_key x.number l) (all_without_self xs)

pub all_without_apart : (xs es : List Entry) → AllByRecursion (λ (x : Entry). Apart x.number es) xs → all_without xs es ≡ es
all_without_apart [] es h = refl
all_without_apart (x ∷ xs) es h = ap (λ (l : List Entry). all_without xs l) (without_apart x.number es h.0) ∙ all_without_apart xs es h.1

-- the members of a group go: others stay
pub others_stay : (g h : Group) (es : List Entry) → Rises entry_key es → ¬ (g ≡ h) → all_without (members g es) (members h es) ≡ members h es
others_stay g h es r ne =
    all_without_apart (members g es) (members h es)
    (all_among (λ (x : Entry). Apart x.number (members h es)) (members g es)
    (λ x a. all_among (λ (y : Entry). ¬ (y.number ≡ x.number)) (members h es) (λ y b. apart_groups g h es x y r ne a b)))

pub members_all_without : (g : Group) (xs es : List Entry) → members g (all_without xs es) ≡ all_without xs (members g es)
members_all_without g [] es = refl
members_all_without g (x ∷ xs) es =
    members_all_without g xs (without entry_key x.number es) ∙ ap (λ (l : List Entry). all_without xs l) (members_without g x.number es)
