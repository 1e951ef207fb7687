-- How many entries a sound handset has: a slot is free for each that comes.
use Rattle.std.proofs.Common.{ℕ, ◌≤◌, arith, List, [], ◌∷◌, length, refl, inl, inr, ◌≡◌, Bool, true, false, cond, sym, ◌∙◌, ⊎_elim, ◌+◌, Option, Some, None, ◌++◌, subst}
use Rattle.std.proofs.lemmas.Bool.{cases_eq}
use Rattle.sms_base.specs.Among.{Among}
use Rattle.sms_rows.specs.table.Table.{without, put}
use Rattle.sms_rows.proofs.table.Tables.{length_without, put_among, length_put}
use Rattle.sms_concat.specs.declared.content.Content.{Content}
use Rattle.sms_handset_rows.specs.declared.inbox.entry.Message.{Message}
use Rattle.sms_handset_rows.specs.declared.inbox.entry.Message.TheVariants.{Single, Part, Joined}
use Rattle.sms_handset_rows.specs.inbox.SoundInbox.{IsMessage}
use Rattle.sms_handset_rows.specs.declared.inbox.entry.Entry.{Entry}
use Rattle.sms_handset_rows.specs.inbox.Slots.{slots_taken}
use Rattle.sms_handset_rows.specs.inbox.Keys.{entry_key}
use Rattle.sms_handset_rows.proofs.inbox.GroupMembers.{all_without, members_among}
use Rattle.sms_handset_rows.specs.inbox.Groups.{alone, joined_entry, members}
use Rattle.sms_handset_rows.proofs.inbox.SoundGroups.{all_freed, ended_entries, Arrived}
use Rattle.sms_handset_rows.proofs.inbox.SoundMarks.{length_replaced, length_shorter}
use Rattle.sms_handset_rows.specs.declared.inbox.entry.Group.{Group}

-- ---- each entry takes a slot

pub slot : (slots : ℕ) (m : Message) → IsMessage slots m → 1 ≤ slots
slot slots (Single tpdu) i = omega (arith, i.0)
slot slots (Part g n tpdu) i = omega (arith, i.0)
slot slots (Joined source content) i = i

pub no_fewer_slots : (es : List Entry) → ((e : Entry) → Among e es → 1 ≤ e.slots) → length es ≤ slots_taken es
no_fewer_slots [] h = omega arith
no_fewer_slots (e ∷ es) h = omega (arith, h e (inl refl), no_fewer_slots es (λ x m. h x (inr m)))

pub tested : (a b : Bool) → cond a b false ≡ true → a ≡ true
tested true b e = refl
tested false b e = e

-- ---- entries leave, and become others

pub length_left : (xs es : List Entry) → length (all_without xs es) ≤ length es
length_left [] es = omega arith
length_left (x ∷ xs) es = omega (arith, length_left xs (without entry_key x.number es), length_without entry_key x.number es)

-- some entry has the number
abbrev HasEntry : ℕ → List Entry → Type 0
HasEntry n es = (y : Entry) × (Among y es × (y.number ≡ n))

stands_yet : (n : ℕ) (x : Entry) (es : List Entry) → HasEntry n es → HasEntry n (put entry_key (alone x) es)
stands_yet n x es h = ⊎_elim
    (λ (e : h.0.number ≡ x.number). (alone x, (put_among entry_key (alone x) (alone x) es (inl refl), sym e ∙ h.1.1)))
    (λ (e : h.0.number ≡ x.number → ⊥). (h.0, (put_among entry_key h.0 (alone x) es (inr (h.1.0, e)), h.1.1)))
    (cases_eq h.0.number x.number)

length_freed : (xs es : List Entry) → ((x : Entry) → Among x xs → HasEntry x.number es) → length (all_freed xs es) ≤ length es
length_freed [] es h = omega arith
length_freed (x ∷ xs) es h =
    let y = h x (inl refl) in
    omega (arith, length_freed xs (put entry_key (alone x) es) (λ z m. stands_yet z.number x es (h z (inr m))), length_replaced entry_key (alone x) y.0 es y.1.0 y.1.1)

ended_few : (g : Group) (xs : List Entry) (c : Option Content) (es : List Entry) (f : Entry) → Among f xs → ((x : Entry) → Among x xs → Among x es) → length (ended_entries g xs c es) ≤ length es
ended_few g xs None es f a h = length_freed xs es (λ x m. (x, (h x m, refl)))
ended_few g [] (Some c) es f a h = elim a [ ]
ended_few g (x ∷ xs) (Some c) es f a h =
    let rest = without entry_key x.number es in
    let p : length (ended_entries g (x ∷ xs) (Some c) es) ≤ length (all_without xs rest) + 1 = length_put entry_key (joined_entry g (x ∷ xs) c) (all_without xs rest) in
    omega (arith, p, length_left xs rest, length_shorter entry_key x.number es x (h x (inl refl)) refl)

last_among : (ms : List Entry) (e : Entry) → Among e (ms ++ e ∷ [])
last_among [] e = inl refl
last_among (m ∷ ms) e = inr (last_among ms e)

pub closed_few : (k : ℕ) (g : Group) (e : Entry) (c : Option Content) (es fs : List Entry) → Arrived k g e es fs → length (ended_entries g (members g es ++ e ∷ []) c fs) ≤ length fs
closed_few k g e c es fs a =
    ended_few g (members g es ++ e ∷ []) c fs e (last_among (members g es) e)
    (λ x m. (members_among g x fs (subst (λ (l : List Entry). Among x l) (sym a.own) m)).0)
