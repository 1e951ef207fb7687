-- Handsets by their numbers and by their places.
use Rattle.std.proofs.Common.{◌≡◌, ◌⊎◌, ℕ, ◌+◌, ◌<◌, ◌≤◌, List, [], ◌∷◌, true, false, Option, Some, None, refl, sym, ◌∙◌, ap, subst, inl, inr, ⊎_elim, bytes_eq, arith}
use Rattle.std.proofs.lemmas.Bool.{cases_Bool, cond-true, cond-false, cases_eq, cases_lt}
use Rattle.std.proofs.lemmas.Slice.Eq.{bytes_eq-Decides}
use Rattle.sms_base.proofs.OctetLaws.{cases_octets}
use Rattle.sms_base.specs.Among.{Among}
use Rattle.sms_rows.specs.table.Table.{AllAbove, Rises, insert, put, row_at, without}
use Rattle.sms_rows.proofs.table.Tables.{among_found, among_without, insert_behind, insert_here, without_among}
use Rattle.sms_centre_rows.specs.declared.waiting.handset.HandsetRow.{HandsetRow}
use Rattle.sms_centre_rows.specs.waiting.Keys.{handset_key}
use Rattle.sms_centre_rows.specs.waiting.References.{handset_at, or_new_handset, place_after}
use Rattle.sms_centre_rows.specs.waiting.SoundAllocations.{AreApart}

-- ---- one row

pub number_here : (number : List ℕ) (h : HandsetRow) (hs : List HandsetRow) → h.number ≡ number → handset_at number (h ∷ hs) ≡ Some h
number_here number h hs e = cond-true (bytes_eq h.number number) (Some h) (handset_at number hs) ((bytes_eq-Decides h.number number).1 e)

pub number_behind : (number : List ℕ) (h : HandsetRow) (hs : List HandsetRow) → ¬ (h.number ≡ number) → handset_at number (h ∷ hs) ≡ handset_at number hs
number_behind number h hs ne = ⊎_elim
    (λ (t : bytes_eq h.number number ≡ true). absurd (ne ((bytes_eq-Decides h.number number).0 t)))
    (λ (t : bytes_eq h.number number ≡ false). cond-false (bytes_eq h.number number) (Some h) (handset_at number hs) t)
    (cases_Bool (bytes_eq h.number number))

-- ---- looked up

pub number_found : (number : List ℕ) (h : HandsetRow) (hs : List HandsetRow) → handset_at number hs ≡ Some h → Among h hs × (h.number ≡ number)
number_found number h [] e = absurd cc
number_found number h (g ∷ gs) e = ⊎_elim
    (λ (t : g.number ≡ number). let same : Some g ≡ Some h = sym (number_here number g gs t) ∙ e in let q : g ≡ h = cc in (inl (sym q), ap (λ (x : HandsetRow). x.number) (sym q) ∙ t))
    (λ (t : g.number ≡ number → ⊥). let r = number_found number h gs (sym (number_behind number g gs t) ∙ e) in (inr r.0, r.1))
    (cases_octets g.number number)

pub number_none : (number : List ℕ) (g : HandsetRow) (hs : List HandsetRow) → handset_at number hs ≡ None → Among g hs → g.number ≡ number → ⊥
number_none number g [] e m q = elim m [ ]
number_none number g (x ∷ xs) e m q = ⊎_elim
    (λ (f : g ≡ x). let bad : Some x ≡ None = sym (number_here number x xs (ap (λ (y : HandsetRow). y.number) (sym f) ∙ q)) ∙ e in absurd cc)
    (λ (r : Among g xs). ⊎_elim
    (λ (t : x.number ≡ number). let bad : Some x ≡ None = sym (number_here number x xs t) ∙ e in absurd cc)
    (λ (t : x.number ≡ number → ⊥). number_none number g xs (sym (number_behind number x xs t) ∙ e) r q)
    (cases_octets x.number number))
    m

pub none_numbered : (number : List ℕ) (hs : List HandsetRow) → ((g : HandsetRow) → Among g hs → g.number ≡ number → ⊥) → handset_at number hs ≡ None
none_numbered number [] f = refl
none_numbered number (x ∷ xs) f = number_behind number x xs (λ e. f x (inl refl) e) ∙ none_numbered number xs (λ g m e. f g (inr m) e)

-- ---- a row comes, and a row goes

number_insert : (number : List ℕ) (h : HandsetRow) (hs : List HandsetRow) → h.number ≡ number → handset_at number hs ≡ None → handset_at number (insert handset_key h hs) ≡ Some h
number_insert number h [] e none = number_here number h [] e
number_insert number h (x ∷ xs) e none = ⊎_elim
    (λ (l : h.place < x.place). ap (λ (r : List HandsetRow). handset_at number r) (insert_here handset_key h x xs l) ∙ number_here number h (x ∷ xs) e)
    (λ (l : x.place ≤ h.place). ap (λ (r : List HandsetRow). handset_at number r) (insert_behind handset_key h x xs l) ∙ ⊎_elim
    (λ (t : x.number ≡ number). let bad : Some x ≡ None = sym (number_here number x xs t) ∙ none in absurd cc)
    (λ (t : x.number ≡ number → ⊥). number_behind number x (insert handset_key h xs) t ∙ number_insert number h xs e (sym (number_behind number x xs t) ∙ none))
    (cases_octets x.number number))
    (cases_lt h.place x.place)

number_insert_other : (number : List ℕ) (h : HandsetRow) (hs : List HandsetRow) → ¬ (h.number ≡ number) → handset_at number (insert handset_key h hs) ≡ handset_at number hs
number_insert_other number h [] ne = number_behind number h [] ne
number_insert_other number h (x ∷ xs) ne = ⊎_elim
    (λ (l : h.place < x.place). ap (λ (r : List HandsetRow). handset_at number r) (insert_here handset_key h x xs l) ∙ number_behind number h (x ∷ xs) ne)
    (λ (l : x.place ≤ h.place). ap (λ (r : List HandsetRow). handset_at number r) (insert_behind handset_key h x xs l) ∙ ⊎_elim
    (λ (t : x.number ≡ number). number_here number x (insert handset_key h xs) t ∙ sym (number_here number x xs t))
    (λ (t : x.number ≡ number → ⊥). number_behind number x (insert handset_key h xs) t ∙ number_insert_other number h xs ne ∙ sym (number_behind number x xs t))
    (cases_octets x.number number))
    (cases_lt h.place x.place)

number_without_other : (number : List ℕ) (place : ℕ) (hs : List HandsetRow) → ((g : HandsetRow) → Among g hs → g.place ≡ place → g.number ≡ number → ⊥) → handset_at number (without handset_key place hs) ≡ handset_at number hs
number_without_other number place [] f = refl
number_without_other number place (x ∷ xs) f = ⊎_elim
    (λ (e : x.place ≡ place).
    ap (λ (r : List HandsetRow). handset_at number r) (Rattle.sms_rows.proofs.table.Tables.without_here handset_key place x xs e)
    ∙ number_without_other number place xs (λ g m. f g (inr m)) ∙ sym (number_behind number x xs (λ q. f x (inl refl) e q)))
    (λ (e : x.place ≡ place → ⊥).
    ap (λ (r : List HandsetRow). handset_at number r) (Rattle.sms_rows.proofs.table.Tables.without_behind handset_key place x xs e) ∙ ⊎_elim
    (λ (t : x.number ≡ number). number_here number x (without handset_key place xs) t ∙ sym (number_here number x xs t))
    (λ (t : x.number ≡ number → ⊥). number_behind number x (without handset_key place xs) t ∙ number_without_other number place xs (λ g m. f g (inr m)) ∙ sym (number_behind number x xs t))
    (cases_octets x.number number))
    (cases_eq x.place place)

-- ---- the row of a handset

-- among these rows its number and its place name the same handset
pub record Fits (hs : List HandsetRow) (h : HandsetRow) : Type 0 where
  pub place : (g : HandsetRow) → Among g hs → g.number ≡ h.number → g.place ≡ h.place
  pub number : (g : HandsetRow) → Among g hs → g.place ≡ h.place → g.number ≡ h.number

pub put_number : (h : HandsetRow) (hs : List HandsetRow) → Fits hs h → handset_at h.number (put handset_key h hs) ≡ Some h
put_number h hs fits = number_insert h.number h (without handset_key h.place hs) refl
    (none_numbered h.number (without handset_key h.place hs) (λ g m e. let w = among_without handset_key g h.place hs m in w.1 (fits.place g w.0 e)))

pub put_number_other : (number : List ℕ) (h : HandsetRow) (hs : List HandsetRow) → Fits hs h → ¬ (h.number ≡ number) → handset_at number (put handset_key h hs) ≡ handset_at number hs
put_number_other number h hs fits ne =
    number_insert_other number h (without handset_key h.place hs) ne
    ∙ number_without_other number h.place hs (λ g m e q. ne (sym (fits.number g m e) ∙ q))

-- ---- the place after the last

above_place : (n : ℕ) (hs : List HandsetRow) → AllAbove handset_key n hs → Rises handset_key hs → n < place_after (n + 1) hs
above_place n [] above rises = omega arith
above_place n (h ∷ hs) above rises = let l = above_place h.place hs rises.0 rises.1 in omega (arith, l, above.0)

pub below_next_place : (n : ℕ) (g : HandsetRow) (hs : List HandsetRow) → Rises handset_key hs → Among g hs → g.place < place_after n hs
below_next_place n g [] rises m = elim m [ ]
below_next_place n g (h ∷ hs) rises m = ⊎_elim
    (λ (e : g ≡ h). subst (λ (x : HandsetRow). x.place < place_after (h.place + 1) hs) (sym e) (above_place h.place hs rises.0 rises.1))
    (λ (r : Among g hs). below_next_place (h.place + 1) g hs rises.1 r)
    m

-- ---- the row under which a reference is given

same_place : (hs : List HandsetRow) (g h : HandsetRow) → Rises handset_key hs → Among g hs → Among h hs → g.place ≡ h.place → g ≡ h
same_place hs g h rises m n e =
    let there : row_at handset_key g.place hs ≡ Some g = among_found handset_key g hs rises m in
    let here : row_at handset_key h.place hs ≡ Some h = among_found handset_key h hs rises n in
    let same : Some g ≡ Some h = sym there ∙ ap (λ (p : ℕ). row_at handset_key p hs) e ∙ here in
    cc

pub row_fits : (number : List ℕ) (hs : List HandsetRow) (o : Option HandsetRow) → Rises handset_key hs → AreApart hs → handset_at number hs ≡ o
    → Fits hs (or_new_handset number (place_after 1 hs) o) × ((or_new_handset number (place_after 1 hs) o).number ≡ number)
row_fits number hs None rises apart none = (
  record {
    place = λ g m e. absurd (number_none number g hs none m e);
    number = λ g m e. let l = below_next_place 1 g hs rises m in absurd (omega (arith, l, e));
  },
  refl,
)
row_fits number hs (Some h) rises apart found =
    let here = number_found number h hs found in (
      record {
        place = λ g m e. apart g h m here.0 e;
        number = λ g m e. ap (λ (x : HandsetRow). x.number) (same_place hs g h rises m here.0 e);
      },
      here.1,
    )
