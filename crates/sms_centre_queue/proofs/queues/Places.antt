-- The place after the last handset, once one was given a reference.
use Rattle.std.proofs.Common.{◌≡◌, ℕ, ◌+◌, ◌<◌, List, [], ◌∷◌, Option, Some, None, refl, sym, ◌∙◌, ap, subst, inl, inr, ⊎_elim, arith}
use Rattle.std.proofs.lemmas.Bool.{cases_eq}
use Rattle.sms_base.specs.Among.{Among}
use Rattle.sms_rows.specs.table.Table.{AllAbove, Rises, insert, put, without}
use Rattle.sms_rows.proofs.table.Tables.{insert_behind, insert_here, without_behind, without_here}
use Rattle.sms_centre_rows.specs.declared.waiting.handset.HandsetRow.{HandsetRow}
use Rattle.sms_centre_rows.specs.waiting.Keys.{handset_key}
use Rattle.sms_centre_rows.specs.waiting.References.{handset_at, mentioned, or_new_handset, place_after}
use Rattle.sms_centre_rows.proofs.waiting.Mentions.{below_next_place, number_found}
use Rattle.sms_centre_queue.specs.queues.Queues.{places_now}

pub above_among : (place : ℕ) (g : HandsetRow) (hs : List HandsetRow) → AllAbove handset_key place hs → Among g hs → place < g.place
above_among place g [] above m = elim m [ ]
above_among place g (h ∷ hs) above m = ⊎_elim
    (λ (e : g ≡ h). subst (λ (x : HandsetRow). place < x.place) (sym e) above.0)
    (λ (r : Among g hs). above_among place g hs above.1 r)
    m

without_none : (place : ℕ) (hs : List HandsetRow) → ((g : HandsetRow) → Among g hs → ¬ (g.place ≡ place)) → without handset_key place hs ≡ hs
without_none place [] f = refl
without_none place (h ∷ hs) f = without_behind handset_key place h hs (f h (inl refl)) ∙ ap (λ (l : List HandsetRow). h ∷ l) (without_none place hs (λ g m. f g (inr m)))

behind_all : (n : ℕ) (m : HandsetRow) (hs : List HandsetRow) → ((g : HandsetRow) → Among g hs → g.place < m.place) → place_after n (insert handset_key m hs) ≡ m.place + 1
behind_all n m [] f = refl
behind_all n m (h ∷ hs) f =
    let below = f h (inl refl) in
    ap (λ (l : List HandsetRow). place_after n l) (insert_behind handset_key m h hs (omega (arith, below))) ∙ behind_all (h.place + 1) m hs (λ g a. f g (inr a))

before_all : (m : HandsetRow) (hs : List HandsetRow) → AllAbove handset_key m.place hs → insert handset_key m hs ≡ m ∷ hs
before_all m [] above = refl
before_all m (h ∷ hs) above = insert_here handset_key m h hs above.0

replaced : (n : ℕ) (m h : HandsetRow) (hs : List HandsetRow) → Rises handset_key hs → Among h hs → h.place ≡ m.place → place_after n (put handset_key m hs) ≡ place_after n hs
replaced n m h [] rises among e = elim among [ ]
replaced n m h (x ∷ xs) rises among e = ⊎_elim
    (λ (q : x.place ≡ m.place).
    let above : AllAbove handset_key m.place xs = subst (λ (k : ℕ). AllAbove handset_key k xs) q rises.0 in
    let gone : without handset_key m.place (x ∷ xs) ≡ xs =
    without_here handset_key m.place x xs q ∙ without_none m.place xs (λ g a k. let l = above_among m.place g xs above a in absurd (omega (arith, l, k))) in
    ap (λ (l : List HandsetRow). place_after n (insert handset_key m l)) gone ∙ ap (λ (l : List HandsetRow). place_after n l) (before_all m xs above)
    ∙ ap (λ (k : ℕ). place_after (k + 1) xs) (sym q))
    (λ (q : x.place ≡ m.place → ⊥). ⊎_elim
    (λ (is : h ≡ x). absurd (q (ap (λ (y : HandsetRow). y.place) (sym is) ∙ e)))
    (λ (r : Among h xs).
    let below = above_among x.place h xs rises.0 r in
    ap (λ (l : List HandsetRow). place_after n (insert handset_key m l)) (without_behind handset_key m.place x xs q)
    ∙ ap (λ (l : List HandsetRow). place_after n l) (insert_behind handset_key m x (without handset_key m.place xs) (omega (arith, below, e)))
    ∙ replaced (x.place + 1) m h xs rises.1 r e)
    among)
    (cases_eq x.place m.place)

pub place_given : (number : List ℕ) (hs : List HandsetRow) (o : Option HandsetRow) (reference : ℕ) → Rises handset_key hs → handset_at number hs ≡ o
    → place_after 1 (put handset_key (mentioned (or_new_handset number (place_after 1 hs) o) reference) hs) ≡ places_now o (place_after 1 hs)
place_given number hs None reference rises none =
    let place : ℕ = place_after 1 hs in
    let m : HandsetRow = mentioned (or_new_handset number place None) reference in
    ap (λ (l : List HandsetRow). place_after 1 (insert handset_key m l))
    (without_none place hs (λ g a k. let l = below_next_place 1 g hs rises a in absurd (omega (arith, l, k))))
    ∙ behind_all 1 m hs (λ g a. below_next_place 1 g hs rises a)
place_given number hs (Some h) reference rises found = replaced 1 (mentioned h reference) h hs rises (number_found number h hs found).0 refl
