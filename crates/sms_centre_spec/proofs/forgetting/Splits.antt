-- The next number, the next place and the last reference that was given are the same without the messages that go.
use Rattle.std.proofs.Common.{◌≡◌, ℕ, ◌+◌, ◌<◌, List, [], ◌∷◌, ◌++◌, Bool, true, false, Option, Some, None, refl, sym, ◌∙◌, ap, subst, inl, inr, ⊎_elim, arith, eq-eqb}
use Rattle.std.specs.Prelude.{◌⊎◌, ◌==◌, ◌&&◌, not, is_some, if◌then◌else◌}
use Rattle.std.specs.Str.{bytes_eq}
use Rattle.std.proofs.lemmas.Bool.{and_from, and_parts, cases_Bool, cond-true, cond-false, eqb-true}
use Rattle.std.proofs.lemmas.Slice.Eq.{bytes_eq-Decides}
use Rattle.sms_base.specs.Among.{Among}
use Rattle.sms_base.specs.AddressKind.{type_number}
use Rattle.sms_base.specs.declared.address.Address.{Address}
use Rattle.sms_rows.specs.table.Table.{AllAbove, Rises}
use Rattle.sms_centre_rows.specs.declared.messages.message.MessageRow.{MessageRow}
use Rattle.sms_centre_rows.specs.messages.Messages.{id_after, message_key}
use Rattle.sms_centre_rows.specs.messages.SplitReferences.{is_between, is_same_address, last_split, or_later}
use Rattle.sms_centre_rows.specs.declared.reports.report.ReportRow.{ReportRow}
use Rattle.sms_centre_rows.specs.reports.Reports.{place_after}
use Rattle.sms_centre_spec.specs.forgetting.Forgetting.{IsLaterSplit, kept, report_id}
use Rattle.sms_centre_spec.proofs.forgetting.Kept.{kept_gone, kept_here}

-- ---- numbers

abbrev Below : (ℕ → Bool) → ℕ → List MessageRow → Type 0
Below goes next ms = (m : MessageRow) → Among m ms → goes m.id ≡ true → m.id + 1 < next

pub next_id_same : (goes : ℕ → Bool) (n : ℕ) (ms : List MessageRow) → Below goes (id_after n ms) ms → id_after n (kept message_key goes ms) ≡ id_after n ms
next_id_same goes n [] below = refl
next_id_same goes n (m ∷ []) below = ⊎_elim
    (λ (t : goes m.id ≡ true). absurd (let l : m.id + 1 < m.id + 1 = below m (inl refl) t in omega (arith, l)))
    (λ (t : goes m.id ≡ false). ap (λ (l : List MessageRow). id_after n l) (kept_here message_key goes m [] t))
    (cases_Bool (goes m.id))
next_id_same goes n (m ∷ x ∷ xs) below = ⊎_elim
    (λ (t : goes m.id ≡ true). ap (λ (l : List MessageRow). id_after n l) (kept_gone message_key goes m (x ∷ xs) t) ∙ next_id_same goes n (x ∷ xs) (λ y a. below y (inr a)))
    (λ (t : goes m.id ≡ false).
    ap (λ (l : List MessageRow). id_after n l) (kept_here message_key goes m (x ∷ xs) t) ∙ next_id_same goes (m.id + 1) (x ∷ xs) (λ y a. below y (inr a)))
    (cases_Bool (goes m.id))

abbrev Before : (ℕ → Bool) → ℕ → List ReportRow → Type 0
Before goes next rs = (r : ReportRow) → Among r rs → goes r.id ≡ true → r.place + 1 < next

pub next_place_same : (goes : ℕ → Bool) (n : ℕ) (rs : List ReportRow) → Before goes (place_after n rs) rs → place_after n (kept report_id goes rs) ≡ place_after n rs
next_place_same goes n [] below = refl
next_place_same goes n (m ∷ []) below = ⊎_elim
    (λ (t : goes m.id ≡ true). absurd (let l : m.place + 1 < m.place + 1 = below m (inl refl) t in omega (arith, l)))
    (λ (t : goes m.id ≡ false). ap (λ (l : List ReportRow). place_after n l) (kept_here report_id goes m [] t))
    (cases_Bool (goes m.id))
next_place_same goes n (m ∷ x ∷ xs) below = ⊎_elim
    (λ (t : goes m.id ≡ true). ap (λ (l : List ReportRow). place_after n l) (kept_gone report_id goes m (x ∷ xs) t) ∙ next_place_same goes n (x ∷ xs) (λ y a. below y (inr a)))
    (λ (t : goes m.id ≡ false).
    ap (λ (l : List ReportRow). place_after n l) (kept_here report_id goes m (x ∷ xs) t) ∙ next_place_same goes (m.place + 1) (x ∷ xs) (λ y a. below y (inr a)))
    (cases_Bool (goes m.id))

-- ---- the last one that was split

same_address : (a b c : Address) → is_same_address b a ≡ true → is_same_address a c ≡ true → is_same_address b c ≡ true
same_address a b c e f =
    let p = and_parts (type_number b.ton == type_number a.ton) ((b.npi == a.npi) && bytes_eq b.digits a.digits) e in
    let q = and_parts (b.npi == a.npi) (bytes_eq b.digits a.digits) p.1 in
    let r = and_parts (type_number a.ton == type_number c.ton) ((a.npi == c.npi) && bytes_eq a.digits c.digits) f in
    let s = and_parts (a.npi == c.npi) (bytes_eq a.digits c.digits) r.1 in
    and_from (type_number b.ton == type_number c.ton) ((b.npi == c.npi) && bytes_eq b.digits c.digits)
    (eq-eqb (type_number b.ton) (type_number c.ton) (eqb-true (type_number b.ton) (type_number a.ton) p.0 ∙ eqb-true (type_number a.ton) (type_number c.ton) r.0))
    (and_from (b.npi == c.npi) (bytes_eq b.digits c.digits) (eq-eqb b.npi c.npi (eqb-true b.npi a.npi q.0 ∙ eqb-true a.npi c.npi s.0))
    ((bytes_eq-Decides b.digits c.digits).1 ((bytes_eq-Decides b.digits a.digits).0 q.1 ∙ (bytes_eq-Decides a.digits c.digits).0 s.1)))

-- who is between the same as one is between what that one is between
pub between_too : (source : Address) (h : List ℕ) (m w : MessageRow) → is_between source h m ≡ true → is_between m.source m.handset w ≡ true → is_between source h w ≡ true
between_too source h m w e f =
    let p = and_parts (is_same_address m.source source) (bytes_eq m.handset h) e in
    let q = and_parts (is_same_address w.source m.source) (bytes_eq w.handset m.handset) f in
    and_from (is_same_address w.source source) (bytes_eq w.handset h) (same_address m.source w.source source q.0 p.0)
    ((bytes_eq-Decides w.handset h).1 ((bytes_eq-Decides w.handset m.handset).0 q.1 ∙ (bytes_eq-Decides m.handset h).0 p.1))

-- whatever was split before one that follows is not the last
split_later : (source : Address) (h : List ℕ) (w : MessageRow) (ms : List MessageRow) (a b : Option ℕ) → Among w ms → is_between source h w ≡ true → is_some w.split_reference ≡ true
    → last_split source h a ms ≡ last_split source h b ms
split_later source h w [] a b among e f = absurd among
split_later source h w (x ∷ xs) a b among e f = ⊎_elim
    (λ (q : w ≡ x).
    ap (λ (o : Option ℕ). last_split source h o xs) (first a x (sym q) ∙ sym (first b x (sym q))))
    (λ (c : Among w xs).
    split_later source h w xs (if is_between source h x then or_later a x.split_reference else a) (if is_between source h x then or_later b x.split_reference else b) c e f)
    among
  where
    given : (o : Option ℕ) (c : Option ℕ) → is_some o ≡ true → or_later c o ≡ o
    given None c t = let bad : false ≡ true = t in absurd cc
    given (Some n) c t = refl

    first : (c : Option ℕ) (x : MessageRow) → x ≡ w → (if is_between source h x then or_later c x.split_reference else c) ≡ w.split_reference
    first c x q =
        ap (λ (y : MessageRow). if is_between source h y then or_later c y.split_reference else c) q
        ∙ cond-true (is_between source h w) (or_later c w.split_reference) c e ∙ given w.split_reference c f

abbrev Later : (ℕ → Bool) → List MessageRow → Type 0
Later goes ms = (m : MessageRow) (n : ℕ) → Among m ms → goes m.id ≡ true → m.split_reference ≡ Some n → (w : MessageRow) × (Among w ms × IsLaterSplit m w)

-- a later one is behind
behind : (m w : MessageRow) (ms : List MessageRow) → m.id < w.id → Among w (m ∷ ms) → Among w ms
behind m w ms l among = ⊎_elim (λ (e : w ≡ m). let same : w.id ≡ m.id = ap (λ (x : MessageRow). x.id) e in absurd (omega (arith, l, same))) (λ (a : Among w ms). a) among

pub above_among : (n : ℕ) (x : MessageRow) (ms : List MessageRow) → AllAbove message_key n ms → Among x ms → n < x.id
above_among n x [] h a = absurd a
above_among n x (m ∷ ms) h a = ⊎_elim (λ (e : x ≡ m). subst (λ (y : MessageRow). n < y.id) (sym e) h.0) (λ (b : Among x ms). above_among n x ms h.1 b) a

later_tail : (goes : ℕ → Bool) (m : MessageRow) (ms : List MessageRow) → Rises message_key (m ∷ ms) → Later goes (m ∷ ms) → Later goes ms
later_tail goes m ms rises later x n a g e =
    let f = later x n (inr a) g e in
    let low : m.id < x.id = above_among m.id x ms rises.0 a in
    let high : x.id < f.0.id = f.1.1.0 in
    (f.0, (behind m f.0 ms (omega (arith, low, high)) f.1.0, f.1.1))

pub last_same : (goes : ℕ → Bool) (source : Address) (h : List ℕ) (last : Option ℕ) (ms : List MessageRow) → Rises message_key ms → Later goes ms
    → last_split source h last (kept message_key goes ms) ≡ last_split source h last ms
last_same goes source h last [] rises later = refl
last_same goes source h last (m ∷ ms) rises later = ⊎_elim
    (λ (t : goes m.id ≡ true).
    ap (λ (l : List MessageRow). last_split source h last l) (kept_gone message_key goes m ms t) ∙ last_same goes source h last ms rises.1 (later_tail goes m ms rises later) ∙ passed t m.split_reference refl)
    (λ (t : goes m.id ≡ false).
    ap (λ (l : List MessageRow). last_split source h last l) (kept_here message_key goes m ms t)
    ∙ last_same goes source h (if is_between source h m then or_later last m.split_reference else last) ms rises.1 (later_tail goes m ms rises later))
    (cases_Bool (goes m.id))
  where
    alike : (b : Bool) → (if b then last else last) ≡ last
    alike true = refl
    alike false = refl

    after : Option ℕ → Option ℕ
    after o = if is_between source h m then or_later last o else last

    passed : goes m.id ≡ true → (o : Option ℕ) → m.split_reference ≡ o → last_split source h last ms ≡ last_split source h (after m.split_reference) ms
    passed t None e = ap (λ (o : Option ℕ). last_split source h o ms) (sym (ap (λ (o : Option ℕ). if is_between source h m then or_later last o else last) e ∙ alike (is_between source h m)))
    passed t (Some n) e = ⊎_elim
        (λ (b : is_between source h m ≡ true).
        let f = later m n (inl refl) t e in
        split_later source h f.0 ms last (after m.split_reference) (behind m f.0 ms f.1.1.0 f.1.0) (between_too source h m f.0 b f.1.1.1.0) f.1.1.1.1)
        (λ (b : is_between source h m ≡ false). ap (λ (o : Option ℕ). last_split source h o ms) (sym (cond-false (is_between source h m) (or_later last m.split_reference) last b)))
        (cases_Bool (is_between source h m))
