-- The pieces counted, and the parts numbered.
use Rattle.std.proofs.Common.{◌≡◌, ℕ, suc, ◌+◌, ◌<◌, ◌≤◌, Bool, true, false, cond, ltb, leb, List, [], ◌∷◌, ◌++◌, length, Option, Some, None, Result, Ok, Err, refl, sym, ap, subst, ◌∙◌, arith, append_assoc, eqb}
use Rattle.std.specs.Prelude.{◌↔◌, IfOk}
use Rattle.std.proofs.lemmas.Bool.{ltb-false, ltb-true, le-ltb, lt-ltb, le-leb, leb-true, leb-false, lt-leb}
use Rattle.std.proofs.lemmas.List.{append-nil}
use Rattle.sms_alphabet.specs.declared.scheme.Coding.{Coding}
use Rattle.sms_alphabet.specs.declared.concat_key.ConcatReference.TheVariants.{SixteenBit}
use Rattle.sms_concat.specs.declared.content.Content.{Content}
use Rattle.sms_concat.specs.declared.content.Part.{Part}
use Rattle.sms_concat.specs.declared.split_error.SplitError.{SplitError}
use Rattle.sms_concat.specs.declared.split_error.SplitError.TheVariants.{TooManyParts, DoesNotFit, NoMemory}
use Rattle.sms_concat.specs.UserData.{capacity}
use Rattle.sms_concat.specs.WholeUnits.{whole_units}
use Rattle.sms_concat.specs.Splitting.{room, is_compressed, IsDivision, pieces_of, numbered, numbered_all, alone, split_of, Splits, IsSplit, IsUncut}
use Rattle.sms_concat.proofs.Dividing.{divided_is, divided_only, pieces_none, pieces_some, small_units, room_above}

-- ---- the walk that counts

pub record Counting (coding : Coding) (units rest : List ℕ) (count : ℕ) : Type 0 where
  pub few : count ≤ 20
  pub sum : count + length (pieces_of coding rest) ≡ length (pieces_of coding units)

pub counting_none : (coding : Coding) (units : List ℕ) → Counting coding units units 0
counting_none coding units = record { few = omega arith; sum = omega arith }

pub counting_more : (coding : Coding) (units rest behind piece : List ℕ) (count : ℕ) → pieces_of coding rest ≡ piece ∷ pieces_of coding behind → (count ≡ 20 → ⊥) → Counting coding units rest count → Counting coding units behind (count + 1)
counting_more coding units rest behind piece count first more c =
    let len : length (pieces_of coding rest) ≡ suc (length (pieces_of coding behind)) = ap length first in
    record { few = omega (arith, c.few); sum = omega (arith, c.sum, len) }

abbrev pub counted_to : List (List ℕ) → Option ℕ
counted_to pieces = cond (ltb 20 (length pieces)) None (Some (length pieces))

pub counting_over : (coding : Coding) (units rest : List ℕ) (count : ℕ) → 0 < length rest → count ≡ 20 → Counting coding units rest count → None ≡ counted_to (pieces_of coding units)
counting_over coding units rest count some most c =
    let one : 0 < length (pieces_of coding rest) = pieces_some coding rest some in
    let over : ltb 20 (length (pieces_of coding units)) ≡ true = lt-ltb _ _ (let h : 20 < length (pieces_of coding units) = omega (arith, c.sum) in h) in
    rw over refl

pub counting_end : (coding : Coding) (units rest : List ℕ) (count : ℕ) → rest ≡ [] → Counting coding units rest count → Some count ≡ counted_to (pieces_of coding units)
counting_end coding units rest count none c =
    let no : length (pieces_of coding rest) ≡ 0 = ap (λ (l : List ℕ). length (pieces_of coding l)) none ∙ ap length (pieces_none coding) in
    let all : count ≡ length (pieces_of coding units) = omega (arith, c.sum, no) in
    let few : ltb 20 (length (pieces_of coding units)) ≡ false = le-ltb _ _ (let h : length (pieces_of coding units) ≤ 20 = omega (arith, c.few) in h) in
    rw few (ap Some all)

-- ---- the walk that numbers

abbrev pub part_with : Content → ℕ → ℕ → ℕ → List ℕ → Part
part_with content reference total number piece =
    record { content = record { coding = content.coding; dcs = content.dcs; units = piece }; key = Some (record { reference = SixteenBit reference; total = total; number = number }) }

pub record Numbering (content : Content) (reference total : ℕ) (parts : List Part) (rest : List ℕ) (number : ℕ) : Type 0 where
  pub sum : number + length (pieces_of content.coding rest) ≡ total
  pub same : parts ++ numbered content reference total (number + 1) (pieces_of content.coding rest) ≡ numbered content reference total 1 (pieces_of content.coding content.units)

pub numbering_none : (content : Content) (reference total : ℕ) (parts : List Part) → total ≡ length (pieces_of content.coding content.units) → parts ≡ [] → Numbering content reference total parts content.units 0
numbering_none content reference total parts all none = record {
  sum = omega (arith, all);
  same = ap (λ (ps : List Part). ps ++ numbered content reference total (0 + 1) (pieces_of content.coding content.units)) none ∙ ap (λ (n : ℕ). numbered content reference total n (pieces_of content.coding content.units)) (let e : 0 + 1 ≡ 1 = omega arith in e);
}

pub numbering_below : (content : Content) (reference total : ℕ) (parts : List Part) (rest behind piece : List ℕ) (number : ℕ) → pieces_of content.coding rest ≡ piece ∷ pieces_of content.coding behind → Numbering content reference total parts rest number → number + 1 ≤ total
numbering_below content reference total parts rest behind piece number first n =
    let len : length (pieces_of content.coding rest) ≡ suc (length (pieces_of content.coding behind)) = ap length first in
    omega (arith, n.sum, len)

pub numbering_more : (content : Content) (reference total : ℕ) (parts parts' : List Part) (rest behind piece : List ℕ) (number : ℕ) → pieces_of content.coding rest ≡ piece ∷ pieces_of content.coding behind → parts' ≡ parts ++ part_with content reference total (number + 1) piece ∷ [] → Numbering content reference total parts rest number → Numbering content reference total parts' behind (number + 1)
numbering_more content reference total parts parts' rest behind piece number first is n =
    let len : length (pieces_of content.coding rest) ≡ suc (length (pieces_of content.coding behind)) = ap length first in
    let part = part_with content reference total (number + 1) piece in
    let after = numbered content reference total (number + 1 + 1) (pieces_of content.coding behind) in
    let step : numbered content reference total (number + 1) (pieces_of content.coding rest) ≡ part ∷ after = ap (λ (ps : List (List ℕ)). numbered content reference total (number + 1) ps) first in
    record {
      sum = omega (arith, n.sum, len);
      same = ap (λ (ps : List Part). ps ++ after) is ∙ append_assoc parts (part ∷ []) after ∙ ap (λ (ps : List Part). parts ++ ps) (sym step) ∙ n.same;
    }

pub numbering_end : (content : Content) (reference total : ℕ) (parts : List Part) (rest : List ℕ) (number : ℕ) → rest ≡ [] → Numbering content reference total parts rest number → parts ≡ numbered content reference total 1 (pieces_of content.coding content.units)
numbering_end content reference total parts rest number none n =
    let no : pieces_of content.coding rest ≡ [] = ap (λ (l : List ℕ). pieces_of content.coding l) none ∙ pieces_none content.coding in
    let left : numbered content reference total (number + 1) (pieces_of content.coding rest) ≡ [] = ap (λ (ps : List (List ℕ)). numbered content reference total (number + 1) ps) no in
    sym (append-nil parts) ∙ ap (λ (ps : List Part). parts ++ ps) (sym left) ∙ n.same

-- ---- the split, and the refusals

pub split_alone : (content : Content) (reference : ℕ) → length content.units ≤ capacity content.coding → split_of content reference ≡ Ok (alone content)
unfolding split_of
split_alone content reference le = rw (le-leb _ _ le) refl

pub split_refused : (content : Content) (reference : ℕ) → capacity content.coding < length content.units → is_compressed content.coding ≡ true → split_of content reference ≡ Err DoesNotFit
unfolding split_of
split_refused content reference over compressed = rw (lt-leb _ _ over, compressed) refl

pub split_cut : (content : Content) (reference : ℕ) → capacity content.coding < length content.units → is_compressed content.coding ≡ false → split_of content reference ≡ numbered_all content reference (pieces_of content.coding content.units)
unfolding split_of
split_cut content reference over plain = rw (lt-leb _ _ over, plain) refl

pub all_numbered : (content : Content) (reference : ℕ) (pieces : List (List ℕ)) → length pieces ≤ 20 → numbered_all content reference pieces ≡ Ok (numbered content reference (length pieces) 1 pieces)
all_numbered content reference pieces few = rw (le-ltb _ _ few) refl

pub too_many : (content : Content) (reference : ℕ) (pieces : List (List ℕ)) → 20 < length pieces → numbered_all content reference pieces ≡ Err TooManyParts
too_many content reference pieces many = rw (lt-ltb _ _ many) refl

pub length_numbered : (content : Content) (reference total number : ℕ) (pieces : List (List ℕ)) → length (numbered content reference total number pieces) ≡ length pieces
length_numbered content reference total number [] = refl
length_numbered content reference total number (piece ∷ pieces) = ap suc (length_numbered content reference total (number + 1) pieces)

-- the three ways: it fits, it is compressed, or it is cut
pub data Way (content : Content) : Type 0 where
  lone : length content.units ≤ capacity content.coding → Way content
  uncut : capacity content.coding < length content.units → is_compressed content.coding ≡ true → Way content
  cut : capacity content.coding < length content.units → is_compressed content.coding ≡ false → Way content

pub way : (content : Content) → Way content
way content = more (leb (length content.units) (capacity content.coding)) (is_compressed content.coding) refl refl where
  more : (a b : Bool) → leb (length content.units) (capacity content.coding) ≡ a → is_compressed content.coding ≡ b → Way content
  more true b p q = lone (leb-true _ _ p)
  more false true p q = uncut (leb-false _ _ p) q
  more false false p q = cut (leb-false _ _ p) q

lone_is : (content : Content) (reference : ℕ) → length content.units ≤ capacity content.coding → IsSplit content reference (alone content)
lone_is content reference le = record { fits = λ _. refl; cut = λ over. absurd (omega arith) }

cut_is : (content : Content) (reference : ℕ) (pieces : List (List ℕ)) → pieces ≡ pieces_of content.coding content.units → capacity content.coding < length content.units → is_compressed content.coding ≡ false → IsSplit content reference (numbered content reference (length pieces) 1 pieces)
cut_is content reference pieces are over plain =
    let d = divided_is (room content.coding) (whole_units content.coding content.units) (room_above content.coding) (small_units content.coding content.units) in
    record {
      fits = λ le. absurd (omega arith);
      cut = λ _. (plain, (pieces, subst (λ (ps : List (List ℕ)). IsDivision (room content.coding) (whole_units content.coding content.units) ps) (sym are) d, refl));
    }

-- every content that is not refused for its compression has a split
pub split_there : (content : Content) (reference : ℕ) → (is_compressed content.coding ≡ true → length content.units ≤ capacity content.coding) → (parts : List Part) × IsSplit content reference parts
split_there content reference may = elim (way content) [
  | lone le ↦ (alone content, lone_is content reference le)
  | uncut over c ↦ absurd (let h = may c in omega arith)
  | cut over c ↦ let ps = pieces_of content.coding content.units in (numbered content reference (length ps) 1 ps, cut_is content reference ps refl over c)
]

-- and only one
pub split_only : (content : Content) (reference : ℕ) (parts : List Part) → IsSplit content reference parts → (is_compressed content.coding ≡ true → length content.units ≤ capacity content.coding)
    × ((length content.units ≤ capacity content.coding → parts ≡ alone content) × (capacity content.coding < length content.units → parts ≡ numbered content reference (length (pieces_of content.coding content.units)) 1 (pieces_of content.coding content.units)))
split_only content reference parts s =
    (uncompressed, (s.fits, pieces)) where
      uncompressed : is_compressed content.coding ≡ true → length content.units ≤ capacity content.coding
      uncompressed c = elim (way content) [
        | lone le ↦ le
        | uncut over d ↦ let h = (s.cut over).0 in absurd cc
        | cut over d ↦ absurd cc
      ]

      pieces : capacity content.coding < length content.units → parts ≡ numbered content reference (length (pieces_of content.coding content.units)) 1 (pieces_of content.coding content.units)
      pieces over =
          let c = (s.cut over).1 in
          let same : c.0 ≡ pieces_of content.coding content.units = divided_only (room content.coding) (whole_units content.coding content.units) c.0 c.1 in
          c.2 ∙ ap (λ (ps : List (List ℕ)). numbered content reference (length ps) 1 ps) same

-- ---- what the code answers

pub some_way : (content : Content) (reference total : ℕ) → capacity content.coding < length content.units → is_compressed content.coding ≡ false → Some total ≡ counted_to (pieces_of content.coding content.units) → split_of content reference ≡ Ok (numbered content reference total 1 (pieces_of content.coding content.units))
some_way content reference total over plain is = split_cut content reference over plain ∙ more (ltb 20 (length ps)) refl is where
  ps : List (List ℕ)
  ps = pieces_of content.coding content.units

  more : (b : Bool) → ltb 20 (length ps) ≡ b → Some total ≡ cond b None (Some (length ps)) → numbered_all content reference ps ≡ Ok (numbered content reference total 1 ps)
  more true t h = absurd cc
  more false t h =
      let all : length ps ≡ total = cc in
      all_numbered content reference ps (ltb-false _ _ t) ∙ ap (λ (n : ℕ). Ok (numbered content reference n 1 ps)) all

pub none_way : (content : Content) (reference : ℕ) → capacity content.coding < length content.units → is_compressed content.coding ≡ false → None ≡ counted_to (pieces_of content.coding content.units) → split_of content reference ≡ Err TooManyParts
none_way content reference over plain is = split_cut content reference over plain ∙ more (ltb 20 (length ps)) refl is where
  ps : List (List ℕ)
  ps = pieces_of content.coding content.units

  more : (b : Bool) → ltb 20 (length ps) ≡ b → None ≡ cond b None (Some (length ps)) → numbered_all content reference ps ≡ Err TooManyParts
  more true t h = too_many content reference ps (ltb-true _ _ t)
  more false t h = absurd cc

-- ---- what the answers mean

ok_same : (a b : List Part) → (let r : Result (List Part) SplitError = Ok a in r ≡ Ok b) → a ≡ b
ok_same a b e = cc

abbrev pub Preserved : Content → ℕ → List Part → Type 0
Preserved content reference parts = IsSplit content reference parts × (length parts ≤ 20)

all_found : (content : Content) (reference : ℕ) (parts : List Part) → capacity content.coding < length content.units → is_compressed content.coding ≡ false → numbered_all content reference (pieces_of content.coding content.units) ≡ Ok parts → Preserved content reference parts
all_found content reference parts over plain e = more (ltb 20 (length ps)) refl e where
  ps : List (List ℕ)
  ps = pieces_of content.coding content.units

  more : (b : Bool) → ltb 20 (length ps) ≡ b → cond b (Err TooManyParts) (Ok (numbered content reference (length ps) 1 ps)) ≡ Ok parts → Preserved content reference parts
  more true t h = absurd cc
  more false t h =
      let few : length (numbered content reference (length ps) 1 ps) ≤ 20 = omega (arith, length_numbered content reference (length ps) 1 ps, ltb-false _ _ t) in
      subst (λ (x : List Part). Preserved content reference x) (ok_same (numbered content reference (length ps) 1 ps) parts h) (cut_is content reference ps refl over plain, few)

pub found_is : (content : Content) (reference : ℕ) (parts : List Part) → split_of content reference ≡ Ok parts → Preserved content reference parts
found_is content reference parts e = elim (way content) [
  | lone le ↦ subst (λ (x : List Part). Preserved content reference x) (ok_same (alone content) parts (sym (split_alone content reference le) ∙ e)) (lone_is content reference le, omega arith)
  | uncut over c ↦ let h = split_refused content reference over c in absurd cc
  | cut over c ↦ all_found content reference parts over c (sym (split_cut content reference over c) ∙ e)
]

pub found_clause : (content : Content) (reference : ℕ) (r : Result (List Part) SplitError) → Splits r (split_of content reference) → IfOk r (λ parts. IsSplit content reference parts × (length parts ≤ 20))
found_clause content reference (Ok parts) s = found_is content reference parts s
found_clause content reference (Err e) s = tt

fault_same : (r wanted : Result (List Part) SplitError) (e : SplitError) → (e ≡ NoMemory → ⊥) → Splits r wanted → r ≡ Err e → wanted ≡ Err e
fault_same (Ok parts) wanted e real s p = absurd cc
fault_same (Err NoMemory) wanted e real s p = absurd (real cc)
fault_same (Err TooManyParts) wanted e real s p = s ∙ p
fault_same (Err DoesNotFit) wanted e real s p = s ∙ p

fault_back : (r wanted : Result (List Part) SplitError) (e : SplitError) → Splits r wanted → wanted ≡ Err e → r ≡ Err e
fault_back (Ok parts) wanted e s p = absurd cc
fault_back (Err NoMemory) wanted e s p = absurd (let q = s.1 in cc)
fault_back (Err TooManyParts) wanted e s p = sym s ∙ p
fault_back (Err DoesNotFit) wanted e s p = sym s ∙ p

all_refused : (content : Content) (reference : ℕ) (pieces : List (List ℕ)) (e : SplitError) → numbered_all content reference pieces ≡ Err e → (e ≡ TooManyParts) × (20 < length pieces)
all_refused content reference pieces e h = more (ltb 20 (length pieces)) refl h where
  more : (b : Bool) → ltb 20 (length pieces) ≡ b → cond b (Err TooManyParts) (Ok (numbered content reference (length pieces) 1 pieces)) ≡ Err e → (e ≡ TooManyParts) × (20 < length pieces)
  more true t h = (let q : e ≡ TooManyParts = cc in q, ltb-true _ _ t)
  more false t h = absurd cc

pub uncut_clause : (content : Content) (reference : ℕ) (r : Result (List Part) SplitError) → Splits r (split_of content reference) → (r ≡ Err DoesNotFit) ↔ IsUncut content
uncut_clause content reference r s = (there, back) where
  there : r ≡ Err DoesNotFit → IsUncut content
  there p =
      let w = fault_same r (split_of content reference) DoesNotFit (λ q. absurd cc) s p in
      elim (way content) [
        | lone le ↦ let h = split_alone content reference le in absurd cc
        | uncut over c ↦ (c, over)
        | cut over c ↦ let h = all_refused content reference (pieces_of content.coding content.units) DoesNotFit (sym (split_cut content reference over c) ∙ w) in let q = h.0 in absurd cc
      ]

  back : IsUncut content → r ≡ Err DoesNotFit
  back u = fault_back r (split_of content reference) DoesNotFit s (split_refused content reference u.1 u.0)

pub Overlong : Content → ℕ → Type 0
Overlong content reference = (parts : List Part) × IsSplit content reference parts × (20 < length parts)

pub overlong_there : (content : Content) (reference : ℕ) → split_of content reference ≡ Err TooManyParts → Overlong content reference
unfolding Overlong
overlong_there content reference w = elim (way content) [
  | lone le ↦ let h = split_alone content reference le in absurd cc
  | uncut over c ↦ let h = split_refused content reference over c in absurd cc
  | cut over c ↦
      let ps = pieces_of content.coding content.units in
      let h = all_refused content reference ps TooManyParts (sym (split_cut content reference over c) ∙ w) in
      (numbered content reference (length ps) 1 ps, cut_is content reference ps refl over c, omega (arith, h.1, length_numbered content reference (length ps) 1 ps))
]

pub overlong_back : (content : Content) (reference : ℕ) → Overlong content reference → split_of content reference ≡ Err TooManyParts
unfolding Overlong
overlong_back content reference o = elim (way content) [
  | lone le ↦ absurd (let h : length o.0 ≡ 1 = ap length (o.1.fits le) in omega (arith, o.2))
  | uncut over c ↦ let h = (o.1.cut over).0 in absurd cc
  | cut over c ↦
      let ps = pieces_of content.coding content.units in
      let same : o.0 ≡ numbered content reference (length ps) 1 ps = (split_only content reference o.0 o.1).1.1 over in
      split_cut content reference over c ∙ too_many content reference ps (let h : 20 < length ps = omega (arith, o.2, ap length same, length_numbered content reference (length ps) 1 ps) in h)
]

pub overlong_clause : (content : Content) (reference : ℕ) (r : Result (List Part) SplitError) → Splits r (split_of content reference) → (r ≡ Err TooManyParts) ↔ ((parts : List Part) × IsSplit content reference parts × (20 < length parts))
unfolding Overlong
overlong_clause content reference r s =
    (λ p. overlong_there content reference (fault_same r (split_of content reference) TooManyParts (λ q. absurd cc) s p), λ o. fault_back r (split_of content reference) TooManyParts s (overlong_back content reference o))

pub some_left : (xs : List ℕ) → false ≡ eqb (length xs) 0 → 0 < length xs
some_left [] e = absurd cc
some_left (x ∷ xs) e = omega arith
