-- Lists of parts that were given references, newest first, in the order of their keys.
use Rattle.std.proofs.Common.{◌≡◌, ℕ, ◌<◌, arith, List, [], ◌∷◌, ◌++◌, refl, sym, ◌∙◌, ap, subst, inl, inr, ⊎_elim}
use Rattle.std.proofs.lemmas.List.{append_assoc}
use Rattle.sms_base.specs.Among.{Among}
use Rattle.sms_base.specs.declared.holder.Holder.{Holder}
use Rattle.sms_base.specs.declared.holder.Holder.TheVariants.{Part, Report, Entry, Memory}
use Rattle.sms_rows.specs.table.Keys.{pair_key}
use Rattle.sms_script.specs.declared.report.rows.GivenRow.{GivenRow}
use Rattle.sms_world_model.specs.World.{Allocation}
use Rattle.sms_world.specs.headline.SeenWorld.{PartGiven, parts_given, parts_reported, with_part}

abbrev pub key_of : PartGiven → ℕ
key_of x = pair_key x.id x.number

-- newest first, the keys fall
abbrev pub Falls : List PartGiven → Type 0
Falls [] = Unit {0}
Falls (x ∷ xs) = ((y : PartGiven) → Among y xs → key_of y < key_of x) × Falls xs

abbrev Inside : List PartGiven → List PartGiven → Type 0
Inside xs ys = (x : PartGiven) → Among x xs → Among x ys

not_both : (a b : ℕ) → a < b → b < a → ⊥
not_both a b l m = omega (arith, l, m)

pub not_itself : (a : ℕ) → a < a → ⊥
not_itself a l = omega (arith, l)

-- the rest of the one stands in the rest of the other
rest_inside : (x y : PartGiven) (xs ys : List PartGiven) → x ≡ y → Falls (x ∷ xs) → Inside (x ∷ xs) (y ∷ ys) → Inside xs ys
rest_inside x y xs ys same falls inside z i = ⊎_elim
    (λ (e : z ≡ y). absurd (not_itself (key_of x) (subst (λ (k : ℕ). k < key_of x) (ap key_of (e ∙ sym same)) (falls.0 z i))))
    (λ (j : Among z ys). j)
    (inside z (inr i))

-- the same parts stand in one order
pub same_order : (xs ys : List PartGiven) → Falls xs → Falls ys → Inside xs ys → Inside ys xs → xs ≡ ys
same_order [] [] f g in_ys in_xs = refl
same_order [] (y ∷ ys) f g in_ys in_xs = absurd (in_xs y (inl refl))
same_order (x ∷ xs) [] f g in_ys in_xs = absurd (in_ys x (inl refl))
same_order (x ∷ xs) (y ∷ ys) f g in_ys in_xs =
    let first : x ≡ y = ⊎_elim
    (λ (e : x ≡ y). e)
    (λ (i : Among x ys). ⊎_elim
    (λ (e : y ≡ x). sym e)
    (λ (j : Among y xs). absurd (not_both (key_of x) (key_of y) (g.0 x i) (f.0 y j)))
    (in_xs y (inl refl)))
    (in_ys x (inl refl)) in
    let rest : xs ≡ ys = same_order xs ys f.1 g.1 (rest_inside x y xs ys first f in_ys) (rest_inside y x ys xs (sym first) g in_xs) in
    λ k. first k ∷ rest k

-- ---- one list behind another

either_part : (x : PartGiven) (xs ys : List PartGiven) → Among x (xs ++ ys) → (P : Type 0) → (Among x xs → P) → (Among x ys → P) → P
either_part x [] ys i P f g = g i
either_part x (z ∷ zs) ys i P f g = ⊎_elim (λ (e : x ≡ z). f (inl e)) (λ (j : Among x (zs ++ ys)). either_part x zs ys j P (λ k. f (inr k)) g) i

pub falls_append : (xs ys : List PartGiven) → Falls xs → Falls ys → ((x y : PartGiven) → Among x xs → Among y ys → key_of y < key_of x) → Falls (xs ++ ys)
falls_append [] ys f g below = g
falls_append (x ∷ xs) ys f g below = (
  λ y i. either_part y xs ys i (key_of y < key_of x) (λ j. f.0 y j) (λ j. below x y (inl refl) j),
  falls_append xs ys f.1 g (λ z y i j. below z y (inr i) j),
)

with_append : (h : Holder) (a : List ℕ) (r : ℕ) (xs ys : List PartGiven) → with_part h a r (xs ++ ys) ≡ with_part h a r xs ++ ys
with_append (Part id n) a r xs ys = refl
with_append (Report id) a r xs ys = refl
with_append (Entry n) a r xs ys = refl
with_append (Memory n) a r xs ys = refl

-- ---- of allocations

pub parts_append : (ds down : List Allocation) → parts_given (ds ++ down) ≡ parts_given ds ++ parts_given down
parts_append [] down = refl
parts_append (g ∷ ds) down =
    ap (λ (z : List PartGiven). with_part g.holder g.handset g.reference z) (parts_append ds down) ∙ with_append g.holder g.handset g.reference (parts_given ds) (parts_given down)

-- it is that of the holder, or stood there
abbrev IsPart : Holder → List ℕ → ℕ → PartGiven → Type 0
IsPart h a r x = (h ≡ Part x.id x.number) × (a ≡ x.handset) × (r ≡ x.reference)

with_cases : (h : Holder) (a : List ℕ) (r : ℕ) (x : PartGiven) (xs : List PartGiven) → Among x (with_part h a r xs) → (P : Type 0) → (IsPart h a r x → P) → (Among x xs → P) → P
with_cases (Part id n) a r x xs i P f g = ⊎_elim
    (λ (e : x ≡ record { handset = a; reference = r; id = id; number = n }).
    f ((λ j. Part ((sym e j).id) ((sym e j).number)), ap (λ (z : PartGiven). z.handset) (sym e), ap (λ (z : PartGiven). z.reference) (sym e)))
    (λ (j : Among x xs). g j) i
with_cases (Report id) a r x xs i P f g = g i
with_cases (Entry n) a r x xs i P f g = g i
with_cases (Memory n) a r x xs i P f g = g i

with_old : (h : Holder) (a : List ℕ) (r : ℕ) (x : PartGiven) (xs : List PartGiven) → Among x xs → Among x (with_part h a r xs)
with_old (Part id n) a r x xs i = inr i
with_old (Report id) a r x xs i = i
with_old (Entry n) a r x xs i = i
with_old (Memory n) a r x xs i = i

with_new : (h : Holder) (a : List ℕ) (r : ℕ) (x : PartGiven) (xs : List PartGiven) → IsPart h a r x → Among x (with_part h a r xs)
with_new h a r x xs (e, p, q) =
    subst (λ (z : Holder). Among x (with_part z a r xs)) (sym e) (inl (λ j. record { handset = sym p j; reference = sym q j; id = x.id; number = x.number }))

pub part_from : (ds : List Allocation) (x : PartGiven) → Among x (parts_given ds) → (g : Allocation) × (Among g ds × (g.holder ≡ Part x.id x.number) × (g.handset ≡ x.handset) × (g.reference ≡ x.reference))
part_from [] x i = absurd i
part_from (g ∷ ds) x i =
    with_cases g.holder g.handset g.reference x (parts_given ds) i ((y : Allocation) × (Among y (g ∷ ds) × (y.holder ≡ Part x.id x.number) × (y.handset ≡ x.handset) × (y.reference ≡ x.reference)))
    (λ k. (g, (inl refl, k.0, k.1, k.2)))
    (λ j. let y = part_from ds x j in (y.0, (inr y.1.0, y.1.1, y.1.2, y.1.3)))

pub part_to : (ds : List Allocation) (g : Allocation) (x : PartGiven) → Among g ds → g.holder ≡ Part x.id x.number → g.handset ≡ x.handset → g.reference ≡ x.reference → Among x (parts_given ds)
part_to [] g x i e p q = absurd i
part_to (d ∷ ds) g x i e p q = ⊎_elim
    (λ (same : g ≡ d).
    with_new d.holder d.handset d.reference x (parts_given ds)
    (ap (λ (z : Allocation). z.holder) (sym same) ∙ e, ap (λ (z : Allocation). z.handset) (sym same) ∙ p, ap (λ (z : Allocation). z.reference) (sym same) ∙ q))
    (λ (j : Among g ds). with_old d.holder d.handset d.reference x (parts_given ds) (part_to ds g x j e p q))
    i

-- ---- of rows

pub told_over : (newest : List PartGiven) (xs ys : List GivenRow) → parts_reported newest (xs ++ ys) ≡ parts_reported (parts_reported newest xs) ys
told_over newest [] ys = refl
told_over newest (r ∷ xs) ys = told_over (with_part r.holder r.handset r.reference newest) xs ys

pub reported_on : (newest : List PartGiven) (rows : List GivenRow) → parts_reported newest rows ≡ parts_reported [] rows ++ newest
reported_on newest [] = refl
reported_on newest (r ∷ rows) =
    let one : List PartGiven = with_part r.holder r.handset r.reference [] in
    reported_on (with_part r.holder r.handset r.reference newest) rows
    ∙ ap (λ (z : List PartGiven). parts_reported [] rows ++ z) (with_append r.holder r.handset r.reference [] newest)
    ∙ sym (append_assoc (parts_reported [] rows) one newest)
    ∙ ap (λ (z : List PartGiven). z ++ newest) (sym (reported_on one rows))

abbrev IsRowOf : List GivenRow → PartGiven → Type 0
IsRowOf rows x = (r : GivenRow) × (Among r rows × (r.holder ≡ Part x.id x.number) × (r.handset ≡ x.handset) × (r.reference ≡ x.reference))

reported_cases : (newest : List PartGiven) (rows : List GivenRow) (x : PartGiven) → Among x (parts_reported newest rows) → (P : Type 0) → (Among x newest → P) → (IsRowOf rows x → P) → P
reported_cases newest [] x i P f g = f i
reported_cases newest (r ∷ rows) x i P f g =
    reported_cases (with_part r.holder r.handset r.reference newest) rows x i P
    (λ j. with_cases r.holder r.handset r.reference x newest j P (λ k. g (r, (inl refl, k.0, k.1, k.2))) f)
    (λ y. g (y.0, (inr y.1.0, y.1.1, y.1.2, y.1.3)))

pub told_from : (rows : List GivenRow) (x : PartGiven) → Among x (parts_reported [] rows) → IsRowOf rows x
told_from rows x i = reported_cases [] rows x i (IsRowOf rows x) (λ none. absurd none) (λ y. y)

reported_old : (newest : List PartGiven) (rows : List GivenRow) (x : PartGiven) → Among x newest → Among x (parts_reported newest rows)
reported_old newest [] x i = i
reported_old newest (r ∷ rows) x i = reported_old (with_part r.holder r.handset r.reference newest) rows x (with_old r.holder r.handset r.reference x newest i)

pub told_to : (newest : List PartGiven) (rows : List GivenRow) (r : GivenRow) (x : PartGiven) → Among r rows → r.holder ≡ Part x.id x.number → r.handset ≡ x.handset → r.reference ≡ x.reference
    → Among x (parts_reported newest rows)
told_to newest [] r x i e p q = absurd i
told_to newest (s ∷ rows) r x i e p q = ⊎_elim
    (λ (same : r ≡ s).
    reported_old (with_part s.holder s.handset s.reference newest) rows x
    (with_new s.holder s.handset s.reference x newest
    (ap (λ (z : GivenRow). z.holder) (sym same) ∙ e, ap (λ (z : GivenRow). z.handset) (sym same) ∙ p, ap (λ (z : GivenRow). z.reference) (sym same) ∙ q)))
    (λ (j : Among r rows). told_to (with_part s.holder s.handset s.reference newest) rows r x j e p q)
    i
