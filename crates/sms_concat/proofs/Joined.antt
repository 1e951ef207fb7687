-- Joining: the steps of the code, and that the parts of a split join to the content.
use Rattle.std.proofs.Common.{◌≡◌, ℕ, ◌+◌, ◌-◌, ◌<◌, ◌≤◌, Bool, true, false, cond, ◌&&◌, eqb, List, [], ◌∷◌, ◌++◌, length, drop, get_or, Some, None, refl, sym, ap, ◌∙◌, arith, append_assoc, eq-eqb, min, ◌^◌}
use Rattle.std.proofs.lemmas.List.{append-nil, at_drop_more, at_drop_all, length-append}
use Rattle.sms_alphabet.specs.declared.concat_key.ConcatReference.{ConcatReference}
use Rattle.sms_alphabet.specs.declared.concat_key.ConcatReference.TheVariants.{SixteenBit}
use Rattle.sms_concat.specs.declared.content.Content.{Content}
use Rattle.sms_concat.specs.declared.content.Part.{Part}
use Rattle.sms_concat.specs.Splitting.{room, joined, numbered, alone, IsSplit}
use Rattle.sms_concat.specs.Joining.{bears, bear_from, is_whole, units_of, content_joined}
use Rattle.sms_concat.proofs.Dividing.{division_joined}
use Rattle.sms_concat.proofs.Numbering.{way, lone, uncut, cut, length_numbered}

-- ---- the walk over the numbers

pub record Bearing (reference : ConcatReference) (total dcs below : ℕ) (parts : List Part) (number index : ℕ) : Type 0 where
  pub at : number ≡ below + index
  pub same : bear_from reference total dcs (below + 1) parts ≡ bear_from reference total dcs (number + 1) (drop index parts)

pub bearing_none : (reference : ConcatReference) (total dcs below : ℕ) (parts : List Part) → Bearing reference total dcs below parts below 0
bearing_none reference total dcs below parts = record { at = omega arith; same = refl }

pub bearing_one : (reference : ConcatReference) (total dcs below : ℕ) (parts : List Part) (number index : ℕ) (part : Part) → index < length parts → part ≡ get_or parts index part → Bearing reference total dcs below parts number index
    → bear_from reference total dcs (below + 1) parts ≡ bears reference total dcs (number + 1) part && bear_from reference total dcs (number + 1 + 1) (drop (index + 1) parts)
bearing_one reference total dcs below parts number index part lt is b =
    b.same ∙ at_drop_more (λ (ps : List Part). bear_from reference total dcs (number + 1) ps) parts index part lt
    ∙ ap (λ (p : Part). bears reference total dcs (number + 1) p && bear_from reference total dcs (number + 1 + 1) (drop (index + 1) parts)) (sym is)

pub bearing_more : (reference : ConcatReference) (total dcs below : ℕ) (parts : List Part) (number index : ℕ) (part : Part) (test : Bool) → index < length parts → part ≡ get_or parts index part → test ≡ bears reference total dcs (number + 1) part → test ≡ true → Bearing reference total dcs below parts number index → Bearing reference total dcs below parts (number + 1) (index + 1)
bearing_more reference total dcs below parts number index part test lt is t holds b = record {
  at = omega (arith, b.at);
  same = bearing_one reference total dcs below parts number index part lt is b ∙ ap (λ (x : Bool). x && bear_from reference total dcs (number + 1 + 1) (drop (index + 1) parts)) (sym t ∙ holds);
}

pub bearing_not : (reference : ConcatReference) (total dcs below : ℕ) (parts : List Part) (number index : ℕ) (part : Part) (test : Bool) → index < length parts → part ≡ get_or parts index part → test ≡ bears reference total dcs (number + 1) part → test ≡ false → Bearing reference total dcs below parts number index → false ≡ bear_from reference total dcs (below + 1) parts
bearing_not reference total dcs below parts number index part test lt is t fails b =
    sym (bearing_one reference total dcs below parts number index part lt is b ∙ ap (λ (x : Bool). x && bear_from reference total dcs (number + 1 + 1) (drop (index + 1) parts)) (sym t ∙ fails))

pub bearing_end : (reference : ConcatReference) (total dcs below : ℕ) (parts : List Part) (number index : ℕ) → length parts ≤ index → Bearing reference total dcs below parts number index → true ≡ bear_from reference total dcs (below + 1) parts
bearing_end reference total dcs below parts number index le b =
    sym (b.same ∙ at_drop_all (λ (ps : List Part). bear_from reference total dcs (number + 1) ps) parts index le)

-- ---- the walk over the units

pub record Gathering (before : List ℕ) (parts : List Part) (units : List ℕ) (index : ℕ) : Type 0 where
  pub same : units ++ units_of (drop index parts) ≡ before ++ units_of parts

pub gathering_none : (before : List ℕ) (parts : List Part) → Gathering before parts before 0
gathering_none before parts = record { same = refl }

pub gathering_more : (before : List ℕ) (parts : List Part) (units units' : List ℕ) (index : ℕ) (part : Part) → index < length parts → part ≡ get_or parts index part → units' ≡ units ++ part.content.units → Gathering before parts units index → Gathering before parts units' (index + 1)
gathering_more before parts units units' index part lt is grown g =
    let one : units_of (drop index parts) ≡ part.content.units ++ units_of (drop (index + 1) parts) =
    at_drop_more (λ (ps : List Part). units_of ps) parts index part lt ∙ ap (λ (p : Part). p.content.units ++ units_of (drop (index + 1) parts)) (sym is) in
    record { same = ap (λ (us : List ℕ). us ++ units_of (drop (index + 1) parts)) grown ∙ append_assoc units part.content.units (units_of (drop (index + 1) parts)) ∙ ap (λ (us : List ℕ). units ++ us) (sym one) ∙ g.same }

pub gathering_end : (before : List ℕ) (parts : List Part) (units : List ℕ) (index : ℕ) → length parts ≤ index → Gathering before parts units index → units ≡ before ++ units_of parts
gathering_end before parts units index le g =
    sym (append-nil units) ∙ ap (λ (us : List ℕ). units ++ us) (sym (at_drop_all (λ (ps : List Part). units_of ps) parts index le)) ∙ g.same

-- ---- the parts of a split join

same_number : (n : ℕ) → eqb n n ≡ true
same_number n = eq-eqb n n refl

numbered_bear : (content : Content) (reference total number : ℕ) (pieces : List (List ℕ)) → bear_from (SixteenBit reference) total content.dcs number (numbered content reference total number pieces) ≡ true
numbered_bear content reference total number [] = refl
numbered_bear content reference total number (piece ∷ pieces) =
    rw (same_number reference, same_number total, same_number number, same_number content.dcs) (numbered_bear content reference total (number + 1) pieces)

numbered_units : (content : Content) (reference total number : ℕ) (pieces : List (List ℕ)) → units_of (numbered content reference total number pieces) ≡ joined pieces
numbered_units content reference total number [] = refl
numbered_units content reference total number (piece ∷ pieces) = ap (λ (us : List ℕ). piece ++ us) (numbered_units content reference total (number + 1) pieces)

abbrev with_units : Content → List ℕ → Content
with_units content units = record { coding = content.coding; dcs = content.dcs; units = units }

alone_joins : (content : Content) → content_joined (alone content) ≡ Some content
alone_joins content = rw (same_number content.dcs) (ap (λ (us : List ℕ). Some (with_units content us)) (append-nil content.units))

numbered_joins : (content : Content) (reference : ℕ) (pieces : List (List ℕ)) → 0 < length content.units → joined pieces ≡ content.units → content_joined (numbered content reference (length pieces) 1 pieces) ≡ Some content
numbered_joins content reference [] some e = absurd (let h : 0 ≡ length content.units = ap length e in omega arith)
numbered_joins content reference (piece ∷ pieces) some e =
    let total = length (piece ∷ pieces) in
    let parts = numbered content reference total 1 (piece ∷ pieces) in
    let all : eqb total (length parts) ≡ true = eq-eqb _ _ (sym (length_numbered content reference total 1 (piece ∷ pieces))) in
    let bear : bear_from (SixteenBit reference) total content.dcs 1 parts ≡ true = numbered_bear content reference total 1 (piece ∷ pieces) in
    let whole : is_whole parts ≡ true = ap (λ (x : Bool). x && bear_from (SixteenBit reference) total content.dcs 1 parts) all ∙ bear in
    let units : units_of parts ≡ content.units = numbered_units content reference total 1 (piece ∷ pieces) ∙ e in
    made content parts whole units where
      made : (c : Content) (parts : List Part) → is_whole parts ≡ true → units_of parts ≡ content.units → cond (is_whole parts) (Some (with_units c (units_of parts))) None ≡ Some (with_units c content.units)
      made c parts whole units = rw (whole, units) refl

pub split_joins : (content : Content) (reference : ℕ) (parts : List Part) → IsSplit content reference parts → content_joined parts ≡ Some content
split_joins content reference parts s = elim (way content) [
  | lone le ↦ ap content_joined (s.fits le) ∙ alone_joins content
  | uncut over c ↦ let h = (s.cut over).0 in absurd cc
  | cut over c ↦
      let d = (s.cut over).1 in
      let all : joined d.0 ≡ content.units = division_joined (room content.coding) content.coding content.units d.0 d.1 in
      ap content_joined d.2 ∙ numbered_joins content reference d.0 (omega arith) all
]

-- ---- how many units

pub record Summing (parts : List Part) (count index : ℕ) : Type 0 where
  pub below : count < 2 ^ 64
  pub sum : min (2 ^ 64 - 1) (count + length (units_of (drop index parts))) ≡ min (2 ^ 64 - 1) (length (units_of parts))

pub summing_more : (parts : List Part) (count count' more index : ℕ) (part : Part) → index < length parts → part ≡ get_or parts index part → more ≡ length part.content.units → count' ≡ min (2 ^ 64 - 1) (count + more) → Summing parts count index → Summing parts count' (index + 1)
summing_more parts count count' more index part lt is len grown s =
    let one : length (units_of (drop index parts)) ≡ length part.content.units + length (units_of (drop (index + 1) parts)) =
    at_drop_more (λ (ps : List Part). length (units_of ps)) parts index part lt ∙ length-append (get_or parts index part).content.units (units_of (drop (index + 1) parts)) ∙ ap (λ (p : Part). length p.content.units + length (units_of (drop (index + 1) parts))) (sym is) in
    record { below = omega (arith, grown); sum = omega (arith, one, len, grown, s.sum) }

pub summing_end : (parts : List Part) (count index : ℕ) → length parts ≤ index → Summing parts count index → count ≡ min (2 ^ 64 - 1) (length (units_of parts))
summing_end parts count index le s =
    let none : length (units_of (drop index parts)) ≡ 0 = at_drop_all (λ (ps : List Part). length (units_of ps)) parts index le in
    omega (arith, none, s.sum, s.below)

-- ---- want of memory

pub whole_joins : (parts : List Part) (b : Bool) → b ≡ true → b ≡ is_whole parts → (content : Content) × (content_joined parts ≡ Some content)
whole_joins [] b e is = absurd cc
whole_joins (part ∷ parts) b e is =
    let whole : is_whole (part ∷ parts) ≡ true = sym is ∙ e in
    (record { coding = part.content.coding; dcs = part.content.dcs; units = units_of (part ∷ parts) }, rw whole refl)
