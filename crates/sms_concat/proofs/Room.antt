-- The parts of a split have room, and their keys are valid.
use Rattle.std.proofs.Common.{◌≡◌, ℕ, ◌+◌, ◌<◌, ◌≤◌, List, [], ◌∷◌, ◌++◌, length, None, Result, Ok, Err, refl, sym, subst, arith}
use Rattle.std.specs.Prelude.{All, IfOk}
use Rattle.std.proofs.lemmas.List.{take_at, drop_at}
use Rattle.std.proofs.lemmas.List.Elements.{All-nil, All-cons, All-head, All-tail, All-take, All-drop}
use Rattle.sms_alphabet.specs.Packing.{AreSeptets}
use Rattle.sms_alphabet.specs.DataCodingScheme.{coding_of}
use Rattle.sms_alphabet.specs.declared.scheme.Coding.{Coding}
use Rattle.sms_alphabet.specs.declared.scheme.Coding.TheVariants.{Septets, Octets, Ucs2, Compressed}
use Rattle.sms_concat.specs.declared.content.Content.{Content}
use Rattle.sms_concat.specs.declared.content.Part.{Part}
use Rattle.sms_concat.specs.declared.split_error.SplitError.{SplitError}
use Rattle.sms_concat.specs.UserData.{data_length, capacity, AreUnits, HasRoom, IsPart}
use Rattle.sms_concat.specs.Splitting.{room, joined, joined_each, AreFull, IsDivision, numbered, split_of, Splits, IsSplit}
use Rattle.sms_concat.specs.WholeUnits.{whole_units}
use Rattle.sms_concat.proofs.Dividing.{division_joined}
use Rattle.sms_concat.proofs.Numbering.{way, lone, uncut, cut, part_with, found_is}

-- ---- pieces

abbrev pub IsPiece : Coding → List ℕ → Type 0
IsPiece coding piece = (length piece ≤ room coding) × AreUnits coding piece

within_each : (limit : ℕ) (parts : List (List (List ℕ))) → AreFull limit parts → All (λ piece. length piece ≤ limit) (joined_each parts)
within_each limit [] full = All-nil (λ (piece : List ℕ). length piece ≤ limit)
within_each limit (part ∷ parts) full = All-cons (λ (piece : List ℕ). length piece ≤ limit) (joined part) (joined_each parts) full.0.within (within_each limit parts full.1)

septets_apart : (xs ys : List ℕ) → AreSeptets (xs ++ ys) → AreSeptets xs × AreSeptets ys
septets_apart xs ys h =
    let below : ℕ → Type 0 = λ s. s < 128 in
    let front = All-take below (length xs) (xs ++ ys) h in
    let behind = All-drop below (length xs) (xs ++ ys) h in
    (subst (λ (l : List ℕ). AreSeptets l) (take_at xs ys (length xs) refl) front, subst (λ (l : List ℕ). AreSeptets l) (drop_at xs ys (length xs) refl) behind)

units_apart : (coding : Coding) (xs ys : List ℕ) → AreUnits coding (xs ++ ys) → AreUnits coding xs × AreUnits coding ys
units_apart Septets xs ys h = septets_apart xs ys h
units_apart Octets xs ys h = (tt, tt)
units_apart Ucs2 xs ys h = (tt, tt)
units_apart Compressed xs ys h = (tt, tt)

pieces_are : (coding : Coding) (pieces : List (List ℕ)) → All (λ piece. length piece ≤ room coding) pieces → AreUnits coding (joined pieces) → All (IsPiece coding) pieces
pieces_are coding [] within units = All-nil _
pieces_are coding (piece ∷ pieces) within units =
    let u = units_apart coding piece (joined pieces) units in
    All-cons (IsPiece coding) piece pieces (All-head (λ p. length p ≤ room coding) piece pieces within, u.0) (pieces_are coding pieces (All-tail (λ p. length p ≤ room coding) piece pieces within) u.1)

-- ---- parts

piece_fits : (coding : Coding) (units : ℕ) → units ≤ room coding → data_length coding 7 units ≤ capacity coding
piece_fits Septets units le = omega arith
piece_fits Octets units le = omega arith
piece_fits Ucs2 units le = omega arith
piece_fits Compressed units le = omega arith

numbered_room : (content : Content) (reference total number : ℕ) (pieces : List (List ℕ)) → All (IsPiece content.coding) pieces → All HasRoom (numbered content reference total number pieces)
numbered_room content reference total number [] all = All-nil HasRoom
numbered_room content reference total number (piece ∷ pieces) all =
    let p = All-head (IsPiece content.coding) piece pieces all in
    let part = part_with content reference total number piece in
    let here : HasRoom part = record { room = piece_fits content.coding (length piece) p.0; units = p.1 } in
    All-cons HasRoom part (numbered content reference total (number + 1) pieces) here (numbered_room content reference total (number + 1) pieces (All-tail (IsPiece content.coding) piece pieces all))

numbered_read : (content : Content) (reference total number : ℕ) (pieces : List (List ℕ)) → content.coding ≡ coding_of content.dcs → 0 < number → number + length pieces ≤ total + 1 → All (IsPiece content.coding) pieces → All IsPart (numbered content reference total number pieces)
numbered_read content reference total number [] coding low high all = All-nil IsPart
numbered_read content reference total number (piece ∷ pieces) coding low high all =
    let p = All-head (IsPiece content.coding) piece pieces all in
    let part = part_with content reference total number piece in
    let here : IsPart part = record { coding_is = coding; units = p.1; key_is = (low, omega arith) } in
    All-cons IsPart part (numbered content reference total (number + 1) pieces) here
    (numbered_read content reference total (number + 1) pieces coding (omega arith) (let h : number + 1 + length pieces ≤ total + 1 = omega arith in h) (All-tail (IsPiece content.coding) piece pieces all))

-- ---- splits

lone_room : (coding : Coding) (units : ℕ) → units ≤ capacity coding → data_length coding 0 units ≤ capacity coding
lone_room Septets units le = omega arith
lone_room Octets units le = omega arith
lone_room Ucs2 units le = omega arith
lone_room Compressed units le = omega arith

division_pieces : (content : Content) (pieces : List (List ℕ)) → AreUnits content.coding content.units → IsDivision (room content.coding) (whole_units content.coding content.units) pieces → All (IsPiece content.coding) pieces
division_pieces content pieces units d =
    let within : All (λ piece. length piece ≤ room content.coding) pieces = subst (λ (ps : List (List ℕ)). All (λ piece. length piece ≤ room content.coding) ps) d.3 (within_each (room content.coding) d.0 d.1) in
    let all : AreUnits content.coding (joined pieces) = subst (λ (us : List ℕ). AreUnits content.coding us) (sym (division_joined (room content.coding) content.coding content.units pieces d)) units in
    pieces_are content.coding pieces within all

pub split_room : (content : Content) (reference : ℕ) (parts : List Part) → AreUnits content.coding content.units → IsSplit content reference parts → All HasRoom parts
split_room content reference parts units s = elim (way content) [
  | lone le ↦
      let here : HasRoom (record { content = content; key = None }) = record { room = lone_room content.coding (length content.units) le; units = units } in
      subst (λ (ps : List Part). All HasRoom ps) (sym (s.fits le)) (All-cons HasRoom _ [] here (All-nil HasRoom))
  | uncut over c ↦ let h = (s.cut over).0 in absurd cc
  | cut over c ↦
      let d = (s.cut over).1 in
      subst (λ (ps : List Part). All HasRoom ps) (sym d.2) (numbered_room content reference (length d.0) 1 d.0 (division_pieces content d.0 units d.1))
]

pub split_read : (content : Content) (reference : ℕ) (parts : List Part) → content.coding ≡ coding_of content.dcs → AreUnits content.coding content.units → IsSplit content reference parts → All IsPart parts
split_read content reference parts coding units s = elim (way content) [
  | lone le ↦
      let here : IsPart (record { content = content; key = None }) = record { coding_is = coding; units = units; key_is = tt } in
      subst (λ (ps : List Part). All IsPart ps) (sym (s.fits le)) (All-cons IsPart _ [] here (All-nil IsPart))
  | uncut over c ↦ let h = (s.cut over).0 in absurd cc
  | cut over c ↦
      let d = (s.cut over).1 in
      subst (λ (ps : List Part). All IsPart ps) (sym d.2) (numbered_read content reference (length d.0) 1 d.0 coding (omega arith) (let h : 1 + length d.0 ≤ length d.0 + 1 = omega arith in h) (division_pieces content d.0 units d.1))
]

pub room_clause : (content : Content) (reference : ℕ) (r : Result (List Part) SplitError) → Splits r (split_of content reference) → AreUnits content.coding content.units → IfOk r (λ parts. All HasRoom parts)
room_clause content reference (Ok parts) s units = split_room content reference parts units (found_is content reference parts s).0
room_clause content reference (Err e) s units = tt
