-- Dividing a content from left to right: the steps of the code, and that it is the division that the relation asks for.
use Rattle.std.proofs.Common.{◌≡◌, ℕ, ◌+◌, ◌-◌, ◌<◌, ◌≤◌, Bool, true, false, cond, ltb, List, [], ◌∷◌, ◌++◌, length, take, drop, refl, sym, ap, subst, ◌∙◌, arith, append_assoc, ◌&&◌, eqb}
use Rattle.std.proofs.lemmas.Bool.{ltb-false, ltb-true, le-ltb, lt-ltb}
use Rattle.std.proofs.lemmas.List.{append-nil, take-append-drop, length-append, length-take-le, length-drop, drop-drop, drop_all}
use Rattle.std.proofs.Math.Seq.{take-append-add}
use Rattle.sms_alphabet.specs.declared.scheme.Coding.{Coding}
use Rattle.sms_alphabet.specs.declared.scheme.Coding.TheVariants.{Septets, Octets, Ucs2, Compressed}
use Rattle.sms_concat.specs.WholeUnits.{whole_units, septet_units, octet_units, ucs2_units, is_high_surrogate, is_low_surrogate}
use Rattle.sms_concat.specs.Splitting.{room, joined, joined_each, HasNoRoom, IsFull, AreFull, IsDivision, filled, divided, pieces_of}

-- ---- whole units

pub units_none : (coding : Coding) → whole_units coding [] ≡ []
units_none Septets = refl
units_none Octets = refl
units_none Ucs2 = refl
units_none Compressed = refl

joined_septets : (xs : List ℕ) → joined (septet_units xs) ≡ xs
joined_septets [] = refl
joined_septets (x ∷ []) = refl
joined_septets (x ∷ y ∷ rest) = more (eqb x 27) (joined_septets rest) (joined_septets (y ∷ rest)) where
  more : (b : Bool) → joined (septet_units rest) ≡ rest → joined (septet_units (y ∷ rest)) ≡ y ∷ rest → joined (cond b ((x ∷ y ∷ []) ∷ septet_units rest) ((x ∷ []) ∷ septet_units (y ∷ rest))) ≡ x ∷ y ∷ rest
  more true one two = ap (λ (l : List ℕ). x ∷ y ∷ l) one
  more false one two = ap (λ (l : List ℕ). x ∷ l) two

joined_octets : (xs : List ℕ) → joined (octet_units xs) ≡ xs
joined_octets [] = refl
joined_octets (x ∷ rest) = ap (λ (l : List ℕ). x ∷ l) (joined_octets rest)

joined_ucs2 : (xs : List ℕ) → joined (ucs2_units xs) ≡ xs
joined_ucs2 [] = refl
joined_ucs2 (x ∷ []) = refl
joined_ucs2 (x ∷ y ∷ []) = refl
joined_ucs2 (x ∷ y ∷ z ∷ []) = refl
joined_ucs2 (x ∷ y ∷ z ∷ w ∷ rest) = more (is_high_surrogate x && is_low_surrogate z) (joined_ucs2 rest) (joined_ucs2 (z ∷ w ∷ rest)) where
  more : (b : Bool) → joined (ucs2_units rest) ≡ rest → joined (ucs2_units (z ∷ w ∷ rest)) ≡ z ∷ w ∷ rest → joined (cond b ((x ∷ y ∷ z ∷ w ∷ []) ∷ ucs2_units rest) ((x ∷ y ∷ []) ∷ ucs2_units (z ∷ w ∷ rest))) ≡ x ∷ y ∷ z ∷ w ∷ rest
  more true one two = ap (λ (l : List ℕ). x ∷ y ∷ z ∷ w ∷ l) one
  more false one two = ap (λ (l : List ℕ). x ∷ y ∷ l) two

pub joined_units : (coding : Coding) (xs : List ℕ) → joined (whole_units coding xs) ≡ xs
joined_units Septets xs = joined_septets xs
joined_units Octets xs = joined_octets xs
joined_units Ucs2 xs = joined_ucs2 xs
joined_units Compressed xs = joined_octets xs

-- each unit has at most four octets
unfoldable pub AreSmall : List (List ℕ) → Type 0
AreSmall [] = Unit {0}
AreSmall (unit ∷ units) = (length unit ≤ 4) × AreSmall units

small_septets : (xs : List ℕ) → AreSmall (septet_units xs)
unfolding AreSmall
small_septets [] = tt
small_septets (x ∷ []) = (omega arith, tt)
small_septets (x ∷ y ∷ rest) = more (eqb x 27) (small_septets rest) (small_septets (y ∷ rest)) where
  more : (b : Bool) → AreSmall (septet_units rest) → AreSmall (septet_units (y ∷ rest)) → AreSmall (cond b ((x ∷ y ∷ []) ∷ septet_units rest) ((x ∷ []) ∷ septet_units (y ∷ rest)))
  more true one two = (omega arith, one)
  more false one two = (omega arith, two)

small_octets : (xs : List ℕ) → AreSmall (octet_units xs)
unfolding AreSmall
small_octets [] = tt
small_octets (x ∷ rest) = (omega arith, small_octets rest)

small_ucs2 : (xs : List ℕ) → AreSmall (ucs2_units xs)
unfolding AreSmall
small_ucs2 [] = tt
small_ucs2 (x ∷ []) = (omega arith, tt)
small_ucs2 (x ∷ y ∷ []) = (omega arith, tt)
small_ucs2 (x ∷ y ∷ z ∷ []) = (omega arith, (omega arith, tt))
small_ucs2 (x ∷ y ∷ z ∷ w ∷ rest) = more (is_high_surrogate x && is_low_surrogate z) (small_ucs2 rest) (small_ucs2 (z ∷ w ∷ rest)) where
  more : (b : Bool) → AreSmall (ucs2_units rest) → AreSmall (ucs2_units (z ∷ w ∷ rest)) → AreSmall (cond b ((x ∷ y ∷ z ∷ w ∷ []) ∷ ucs2_units rest) ((x ∷ y ∷ []) ∷ ucs2_units (z ∷ w ∷ rest)))
  more true one two = (omega arith, one)
  more false one two = (omega arith, two)

pub small_units : (coding : Coding) (xs : List ℕ) → AreSmall (whole_units coding xs)
small_units Septets xs = small_septets xs
small_units Octets xs = small_octets xs
small_units Ucs2 xs = small_ucs2 xs
small_units Compressed xs = small_octets xs

pub room_above : (coding : Coding) → 4 ≤ room coding
room_above Septets = omega arith
room_above Octets = omega arith
room_above Ucs2 = omega arith
room_above Compressed = omega arith

-- ---- lists

pub joined_push : (part : List (List ℕ)) (unit : List ℕ) → joined (part ++ unit ∷ []) ≡ joined part ++ unit
joined_push [] unit = append-nil unit
joined_push (u ∷ part) unit = ap (λ (l : List ℕ). u ++ l) (joined_push part unit) ∙ sym (append_assoc u (joined part) unit)

-- ---- the relation holds of the pieces

pub Divides : ℕ → List (List ℕ) → List (List ℕ) → List (List ℕ) → Type 0
Divides limit part units pieces = (parts : List (List (List ℕ))) × AreFull limit parts × (joined parts ≡ part ++ units) × (joined_each parts ≡ pieces)

push_assoc : (part : List (List ℕ)) (unit : List ℕ) (units : List (List ℕ)) → (part ++ unit ∷ []) ++ units ≡ part ++ unit ∷ units
push_assoc part unit units = append_assoc part (unit ∷ []) units

fills_more : (limit : ℕ) (part : List (List ℕ)) (unit : List ℕ) (units : List (List ℕ)) (b : Bool) → 0 < length part → length (joined part) ≤ limit → ltb limit (length (joined part) + length unit) ≡ b
    → Divides limit (unit ∷ []) units (filled limit (joined (unit ∷ [])) units) → (length (joined part) + length unit ≤ limit → Divides limit (part ++ unit ∷ []) units (filled limit (joined (part ++ unit ∷ [])) units))
    → Divides limit part (unit ∷ units) (cond b (joined part ∷ filled limit unit units) (filled limit (joined part ++ unit) units))
unfolding Divides
fills_more limit part unit units true some within t next stays =
    let over : limit < length (joined part) + length unit = ltb-true _ _ t in
    let no_room : HasNoRoom limit (length (joined part)) (joined next.0) = subst (λ (us : List (List ℕ)). HasNoRoom limit (length (joined part)) us) (sym next.2) over in
    let full : IsFull limit part (joined next.0) = record { some = some; within = within; full = no_room } in
    let whole : part ++ joined next.0 ≡ part ++ unit ∷ units = ap (λ (us : List (List ℕ)). part ++ us) next.2 in
    let pieces : joined part ∷ joined_each next.0 ≡ joined part ∷ filled limit unit units = ap (λ (ps : List (List ℕ)). joined part ∷ ps) (next.3 ∙ ap (λ (u : List ℕ). filled limit u units) (append-nil unit)) in
    (part ∷ next.0, (full, next.1), whole, pieces)
fills_more limit part unit units false some within t next stays =
    let s = stays (ltb-false _ _ t) in
    (s.0, s.1, s.2 ∙ push_assoc part unit units, s.3 ∙ ap (λ (u : List ℕ). filled limit u units) (joined_push part unit))

pub fills : (limit : ℕ) (part units : List (List ℕ)) → 4 ≤ limit → 0 < length part → length (joined part) ≤ limit → AreSmall units → Divides limit part units (filled limit (joined part) units)
unfolding Divides filled AreSmall
fills limit part [] high some within small =
    let full : IsFull limit part [] = record { some = some; within = within; full = tt } in
    (part ∷ [], (full, tt), refl, refl)
fills limit part (unit ∷ units) high some within small =
    fills_more limit part unit units (ltb limit (length (joined part) + length unit)) some within refl
    (fills limit (unit ∷ []) units high (omega arith) (let h : length (unit ++ []) ≤ limit = omega (arith, length-append unit [], small.0) in h) small.1)
    (λ le. fills limit (part ++ unit ∷ []) units high (let h : 0 < length (part ++ unit ∷ []) = omega (arith, length-append part (unit ∷ [])) in h) (let h : length (joined (part ++ unit ∷ [])) ≤ limit = omega (arith, ap length (joined_push part unit), length-append (joined part) unit) in h) small.1)

pub divided_is : (limit : ℕ) (units : List (List ℕ)) → 4 ≤ limit → AreSmall units → IsDivision limit units (divided limit units)
unfolding AreSmall Divides
divided_is limit [] high small = ([], tt, refl, refl)
divided_is limit (unit ∷ units) high small =
    let d = fills limit (unit ∷ []) units high (omega arith) (let h : length (unit ++ []) ≤ limit = omega (arith, length-append unit [], small.0) in h) small.1 in
    (d.0, d.1, d.2, d.3 ∙ ap (λ (u : List ℕ). filled limit u units) (append-nil unit))

-- ---- and of nothing else

filled_takes : (limit : ℕ) (piece : List ℕ) (part units : List (List ℕ)) → length piece + length (joined part) ≤ limit → filled limit piece (part ++ units) ≡ filled limit (piece ++ joined part) units
unfolding filled
filled_takes limit piece [] units le = ap (λ (p : List ℕ). filled limit p units) (sym (append-nil piece))
filled_takes limit piece (unit ∷ part) units le =
    let len : length (unit ++ joined part) ≡ length unit + length (joined part) = length-append unit (joined part) in
    let within : ltb limit (length piece + length unit) ≡ false = le-ltb _ _ (let h : length piece + length unit ≤ limit = omega (arith, len) in h) in
    let again : filled limit (piece ++ unit) (part ++ units) ≡ filled limit ((piece ++ unit) ++ joined part) units = filled_takes limit (piece ++ unit) part units (let h : length (piece ++ unit) + length (joined part) ≤ limit = omega (arith, len, length-append piece unit) in h) in
    rw within (again ∙ ap (λ (p : List ℕ). filled limit p units) (append_assoc piece unit (joined part)))

filled_over : (limit : ℕ) (piece : List ℕ) (units : List (List ℕ)) → HasNoRoom limit (length piece) units → filled limit piece units ≡ piece ∷ divided limit units
unfolding filled
filled_over limit piece [] over = refl
filled_over limit piece (unit ∷ units) over = rw (lt-ltb limit (length piece + length unit) over) refl

division_only : (limit : ℕ) (parts : List (List (List ℕ))) → AreFull limit parts → divided limit (joined parts) ≡ joined_each parts
division_only limit [] full = refl
division_only limit ([] ∷ parts) full = absurd (let h : 0 < 0 = full.0.some in omega arith)
division_only limit ((unit ∷ part) ∷ parts) full =
    let within : length unit + length (joined part) ≤ limit = let h : length (unit ++ joined part) ≤ limit = full.0.within in omega (arith, length-append unit (joined part)) in
    filled_takes limit unit part (joined parts) within ∙ filled_over limit (unit ++ joined part) (joined parts) full.0.full ∙ ap (λ (ps : List (List ℕ)). (unit ++ joined part) ∷ ps) (division_only limit parts full.1)

pub divided_only : (limit : ℕ) (units pieces : List (List ℕ)) → IsDivision limit units pieces → pieces ≡ divided limit units
divided_only limit units pieces d = sym (ap (λ (us : List (List ℕ)). divided limit us) (sym d.2) ∙ division_only limit d.0 d.1 ∙ d.3)

-- ---- the pieces joined

joined_twice : (parts : List (List (List ℕ))) → joined (joined_each parts) ≡ joined (joined parts)
joined_twice [] = refl
joined_twice (part ∷ parts) = ap (λ (l : List ℕ). joined part ++ l) (joined_twice parts) ∙ sym (over part (joined parts)) where
  over : (a b : List (List ℕ)) → joined (a ++ b) ≡ joined a ++ joined b
  over [] b = refl
  over (x ∷ a) b = ap (λ (l : List ℕ). x ++ l) (over a b) ∙ sym (append_assoc x (joined a) (joined b))

pub division_joined : (limit : ℕ) (coding : Coding) (xs : List ℕ) (pieces : List (List ℕ)) → IsDivision limit (whole_units coding xs) pieces → joined pieces ≡ xs
division_joined limit coding xs pieces d = ap joined (sym d.3) ∙ joined_twice d.0 ∙ ap joined d.2 ∙ joined_units coding xs

pub pieces_joined : (coding : Coding) (xs : List ℕ) → joined (pieces_of coding xs) ≡ xs
pieces_joined coding xs = division_joined (room coding) coding xs (pieces_of coding xs) (divided_is (room coding) (whole_units coding xs) (room_above coding) (small_units coding xs))

pub pieces_none : (coding : Coding) → pieces_of coding [] ≡ []
pieces_none coding = ap (λ (us : List (List ℕ)). divided (room coding) us) (units_none coding)

pub pieces_some : (coding : Coding) (xs : List ℕ) → 0 < length xs → 0 < length (pieces_of coding xs)
pieces_some coding xs some = more (pieces_of coding xs) (pieces_joined coding xs) where
  more : (ps : List (List ℕ)) → joined ps ≡ xs → 0 < length ps
  more [] e = absurd (let h : 0 ≡ length xs = ap length e in omega arith)
  more (p ∷ ps) e = omega arith

-- ---- the walk of the first piece

pub record Filling (coding : Coding) (units : List ℕ) (end : ℕ) : Type 0 where
  pub some : 0 < end
  pub within : end ≤ length units
  pub same : pieces_of coding units ≡ filled (room coding) (take end units) (whole_units coding (drop end units))

pub filling_first : (coding : Coding) (units : List ℕ) (end : ℕ) → whole_units coding units ≡ take end units ∷ whole_units coding (drop end units) → 0 < end → end ≤ length units → Filling coding units end
filling_first coding units end first some within = record { some = some; within = within; same = ap (λ (us : List (List ℕ)). divided (room coding) us) first }

take_more_of : (units : List ℕ) (end more : ℕ) → end ≤ length units → take end units ++ take more (drop end units) ≡ take (end + more) units
take_more_of units end more le =
    let len : length (take end units) ≡ end = length-take-le end units le in
    sym (take-append-add (take end units) (drop end units) more) ∙ ap (λ (n : ℕ). take (n + more) (take end units ++ drop end units)) len ∙ ap (λ (l : List ℕ). take (end + more) l) (take-append-drop end units)

one_filled : (coding : Coding) (units : List ℕ) (end more : ℕ) → whole_units coding (drop end units) ≡ take more (drop end units) ∷ whole_units coding (drop more (drop end units)) → Filling coding units end
    → pieces_of coding units ≡ cond (ltb (room coding) (length (take end units) + length (take more (drop end units)))) (take end units ∷ filled (room coding) (take more (drop end units)) (whole_units coding (drop more (drop end units)))) (filled (room coding) (take end units ++ take more (drop end units)) (whole_units coding (drop more (drop end units))))
unfolding filled
one_filled coding units end more first f = f.same ∙ ap (λ (us : List (List ℕ)). filled (room coding) (take end units) us) first

filling_step : (coding : Coding) (units : List ℕ) (end more next : ℕ) → whole_units coding (drop end units) ≡ take more (drop end units) ∷ whole_units coding (drop more (drop end units)) → more ≤ length (drop end units) → next ≡ end + more → next ≤ room coding → Filling coding units end → Filling coding units next
filling_step coding units end more next first le is fits f =
    let behind : length (drop end units) ≡ length units - end = length-drop end units in
    let short : end + more ≤ length units = omega (arith, f.within) in
    let one : length (take end units) ≡ end = length-take-le end units f.within in
    let two : length (take more (drop end units)) ≡ more = length-take-le more (drop end units) le in
    let test : ltb (room coding) (length (take end units) + length (take more (drop end units))) ≡ false = le-ltb _ _ (let h : length (take end units) + length (take more (drop end units)) ≤ room coding = omega arith in h) in
    let step : pieces_of coding units ≡ filled (room coding) (take end units ++ take more (drop end units)) (whole_units coding (drop more (drop end units))) = one_filled coding units end more first f ∙ rw test refl in
    let here : pieces_of coding units ≡ filled (room coding) (take (end + more) units) (whole_units coding (drop (end + more) units)) =
    step ∙ ap (λ (l : List ℕ). filled (room coding) l (whole_units coding (drop more (drop end units)))) (take_more_of units end more f.within) ∙ ap (λ (l : List ℕ). filled (room coding) (take (end + more) units) (whole_units coding l)) (drop-drop more end units) in
    record { some = omega (arith, f.some); within = omega arith; same = subst (λ (n : ℕ). pieces_of coding units ≡ filled (room coding) (take n units) (whole_units coding (drop n units))) (sym is) here }

filling_stop : (coding : Coding) (units : List ℕ) (end more next : ℕ) → whole_units coding (drop end units) ≡ take more (drop end units) ∷ whole_units coding (drop more (drop end units)) → more ≤ length (drop end units) → next ≡ end + more → room coding < next → Filling coding units end → pieces_of coding units ≡ take end units ∷ pieces_of coding (drop end units)
filling_stop coding units end more next first le is over f =
    let one : length (take end units) ≡ end = length-take-le end units f.within in
    let two : length (take more (drop end units)) ≡ more = length-take-le more (drop end units) le in
    let test : ltb (room coding) (length (take end units) + length (take more (drop end units))) ≡ true = lt-ltb _ _ (let h : room coding < length (take end units) + length (take more (drop end units)) = omega arith in h) in
    one_filled coding units end more first f ∙ rw test refl ∙ ap (λ (us : List (List ℕ)). take end units ∷ divided (room coding) us) (sym first)

pub filling_more : (coding : Coding) (units behind : List ℕ) (end more next : ℕ) → behind ≡ drop end units → whole_units coding behind ≡ take more behind ∷ whole_units coding (drop more behind) → more ≤ length behind → next ≡ end + more → next ≤ room coding → Filling coding units end → Filling coding units next
filling_more coding units behind end more next back first le is fits f =
    filling_step coding units end more next (subst (λ (b : List ℕ). whole_units coding b ≡ take more b ∷ whole_units coding (drop more b)) back first) (subst (λ (b : List ℕ). more ≤ length b) back le) is fits f

pub filling_over : (coding : Coding) (units behind : List ℕ) (end more next : ℕ) → behind ≡ drop end units → whole_units coding behind ≡ take more behind ∷ whole_units coding (drop more behind) → more ≤ length behind → next ≡ end + more → room coding < next → Filling coding units end → pieces_of coding units ≡ take end units ∷ pieces_of coding (drop end units)
filling_over coding units behind end more next back first le is over f =
    filling_stop coding units end more next (subst (λ (b : List ℕ). whole_units coding b ≡ take more b ∷ whole_units coding (drop more b)) back first) (subst (λ (b : List ℕ). more ≤ length b) back le) is over f

pub filling_end : (coding : Coding) (units : List ℕ) (end : ℕ) → length units ≤ end → Filling coding units end → pieces_of coding units ≡ take end units ∷ pieces_of coding (drop end units)
unfolding filled
filling_end coding units end whole f =
    let none : drop end units ≡ [] = drop_all end units whole in
    f.same ∙ ap (λ (l : List ℕ). filled (room coding) (take end units) (whole_units coding l)) none ∙ ap (λ (us : List (List ℕ)). filled (room coding) (take end units) us) (units_none coding)
    ∙ sym (ap (λ (l : List ℕ). take end units ∷ pieces_of coding l) none ∙ ap (λ (ps : List (List ℕ)). take end units ∷ ps) (pieces_none coding))
