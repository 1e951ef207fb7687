-- The rows that a handset's changes and frames tell, as more of them come.
use Rattle.std.proofs.Common.{◌≡◌, ℕ, ◌<◌, arith, List, [], ◌∷◌, ◌++◌, true, false, cond, refl, sym, ◌∙◌, ap, inl, inr, ⊎_elim, Option, Some, None}
use Rattle.std.specs.Prelude.{◌==◌, ◌&&◌, is_some, nat_le}
use Rattle.std.specs.Str.{bytes_eq}
use Rattle.std.proofs.lemmas.Bool.{and_from, and_parts, cases_Bool, cond-false, cond-true, cond_both, eq-eqb, eqb-true, leb-true}
use Rattle.std.proofs.lemmas.Slice.Eq.{bytes_eq-Decides}
use Rattle.std.proofs.lemmas.List.{append-nil, append_assoc}
use Rattle.sms_base.specs.Among.{Among}
use Rattle.sms_base.specs.declared.carried.Carried.{Carried}
use Rattle.sms_base.specs.declared.carried.Kind.TheVariants.{Data}
use Rattle.sms_base.specs.declared.holder.Holder.{Holder}
use Rattle.sms_base.specs.declared.holder.Holder.TheVariants.{Memory}
use Rattle.sms_control.specs.ControlReading.{cp_at}
use Rattle.sms_link.specs.declared.outgoing.Outgoing.{Outgoing}
use Rattle.sms_link.specs.LinkTurn.{carried_in, carrying, from_links}
use Rattle.sms_handset_rows.specs.declared.outbox.out_entry.OutEntry.{OutEntry}
use Rattle.sms_handset_rows.specs.outbox.Keys.{out_key}
use Rattle.sms_script.specs.declared.report.rows.Direction.TheVariants.{Up}
use Rattle.sms_script.specs.declared.report.rows.GivenRow.{GivenRow}
use Rattle.sms_rows.specs.declared.table.change.Change.{Change}
use Rattle.sms_rows.specs.declared.table.change.Change.TheVariants.{Put, Remove}
use Rattle.sms_rows.specs.table.Table.{all_applied, put, row_at, without}
use Rattle.sms_play.specs.HandsetSide.{carried_given, entries_given, entry_given, memories_given, memory_given}
use Rattle.sms_play.specs.Premises.{is_of_reference, is_same_side, last_holder}

-- ---- to whom a reference was given last

pub last_over : (o : Option Holder) (h : List ℕ) (r : ℕ) (xs ys : List GivenRow) → last_holder o h Up r (xs ++ ys) ≡ last_holder (last_holder o h Up r xs) h Up r ys
last_over o h r [] ys = refl
last_over o h r (g ∷ xs) ys = last_over (cond (is_of_reference h Up r g) (Some g.holder) o) h r xs ys

other_reference : (h : List ℕ) (r : ℕ) (g : GivenRow) → ¬ (g.reference ≡ r) → is_of_reference h Up r g ≡ false
other_reference h r g ne = ⊎_elim
    (λ (t : is_of_reference h Up r g ≡ true).
    let p = and_parts (bytes_eq g.handset h) (is_same_side g.direction Up && (g.reference == r)) t in
    let q = and_parts (is_same_side g.direction Up) (g.reference == r) p.1 in
    absurd (ne (eqb-true g.reference r q.1)))
    (λ (f : is_of_reference h Up r g ≡ false). f)
    (cases_Bool (is_of_reference h Up r g))

-- rows of other references
pub last_other : (o : Option Holder) (h : List ℕ) (r : ℕ) (rows : List GivenRow) → ((g : GivenRow) → Among g rows → ¬ (g.reference ≡ r)) → last_holder o h Up r rows ≡ o
last_other o h r [] other = refl
last_other o h r (g ∷ rows) other =
    ap (λ (z : Option Holder). last_holder z h Up r rows) (cond-false (is_of_reference h Up r g) (Some g.holder) o (other_reference h r g (other g (inl refl))))
    ∙ last_other o h r rows (λ x i. other x (inr i))

-- one row of it
pub last_own : (o : Option Holder) (g : GivenRow) → is_same_side g.direction Up ≡ true → last_holder o g.handset Up g.reference (g ∷ []) ≡ Some g.holder
last_own o g side =
    cond-true (is_of_reference g.handset Up g.reference g) (Some g.holder) o
    (and_from (bytes_eq g.handset g.handset) (is_same_side g.direction Up && (g.reference == g.reference)) ((bytes_eq-Decides g.handset g.handset).1 refl)
    (and_from (is_same_side g.direction Up) (g.reference == g.reference) side (eq-eqb g.reference g.reference refl)))

-- ---- entries

module _ (h : List ℕ) (moment : ℕ) where
  abbrev one_given : OutEntry → List OutEntry → List GivenRow
  one_given x outbox = cond (is_some (row_at out_key x.number outbox)) [] (entry_given h moment x)

  pub entries_put : (cs : List (Change OutEntry)) (x : OutEntry) (base : List OutEntry) → entries_given h moment base (cs ++ Put x ∷ []) ≡ entries_given h moment base cs ++ (one_given x (all_applied out_key cs base) ++ [])
  entries_put [] x base = refl
  entries_put (Put y ∷ cs) x base =
      ap (λ (z : List GivenRow). one_given y base ++ z) (entries_put cs x (put out_key y base))
      ∙ sym (append_assoc (one_given y base) (entries_given h moment (put out_key y base) cs) (one_given x (all_applied out_key cs (put out_key y base)) ++ []))
  entries_put (Remove n ∷ cs) x base = entries_put cs x (without out_key n base)

  pub entries_removed : (cs : List (Change OutEntry)) (n : ℕ) (base : List OutEntry) → entries_given h moment base (cs ++ Remove n ∷ []) ≡ entries_given h moment base cs
  entries_removed [] n base = refl
  entries_removed (Put y ∷ cs) n base = ap (λ (z : List GivenRow). one_given y base ++ z) (entries_removed cs n (put out_key y base))
  entries_removed (Remove k ∷ cs) n base = entries_removed cs n (without out_key k base)

  -- an entry that stood there is given nothing
  pub entries_old : (cs : List (Change OutEntry)) (x o : OutEntry) (base : List OutEntry) → row_at out_key x.number (all_applied out_key cs base) ≡ Some o
      → entries_given h moment base (cs ++ Put x ∷ []) ≡ entries_given h moment base cs
  entries_old cs x o base e =
      entries_put cs x base
      ∙ ap (λ (z : Option OutEntry). entries_given h moment base cs ++ (cond (is_some z) [] (entry_given h moment x) ++ [])) e
      ∙ append-nil (entries_given h moment base cs)

  -- a new one its reference
  pub entries_new : (cs : List (Change OutEntry)) (x : OutEntry) (base : List OutEntry) → row_at out_key x.number (all_applied out_key cs base) ≡ None
      → entries_given h moment base (cs ++ Put x ∷ []) ≡ entries_given h moment base cs ++ entry_given h moment x
  entries_new cs x base e =
      entries_put cs x base ∙ ap (λ (z : Option OutEntry). entries_given h moment base cs ++ (cond (is_some z) [] (entry_given h moment x) ++ [])) e

-- ---- RP-SMMA

module _ (h : List ℕ) (moment next : ℕ) where
  abbrev one_reported : Outgoing → List GivenRow
  one_reported f = cond f.is_copy [] (carried_given h moment next f.carried)

  pub memories_over : (xs ys : List Outgoing) → memories_given h moment next (xs ++ ys) ≡ memories_given h moment next xs ++ memories_given h moment next ys
  memories_over [] ys = refl
  memories_over (f ∷ xs) ys =
      ap (λ (z : List GivenRow). one_reported f ++ z) (memories_over xs ys) ∙ sym (append_assoc (one_reported f) (memories_given h moment next xs) (memories_given h moment next ys))

  -- what a link repeats is told already
  pub copies_reported : (under_way answered : Option Carried) (fs : List (List ℕ)) → memories_given h moment next (from_links under_way answered fs) ≡ []
  copies_reported under_way answered [] = refl
  copies_reported under_way answered (f ∷ fs) = λ j. one_copy (carried_in (cp_at f) under_way answered) j ++ copies_reported under_way answered fs j
    where
      one_copy : (o : Option Carried) → cond (is_some o) [] (carried_given h moment next o) ≡ []
      one_copy None = refl
      one_copy (Some c) = refl

  -- frames that all carry what is told nothing of
  pub carrying_reported : (c : Carried) (fs : List (List ℕ)) → carried_given h moment next (Some c) ≡ [] → memories_given h moment next (carrying (Some c) fs) ≡ []
  carrying_reported c [] e = refl
  carrying_reported c (f ∷ fs) e = λ j. e j ++ carrying_reported c fs e j

  -- an RP-SMMA that has a number is told already
  pub numbered_reported : (reference n : ℕ) → n < next → memory_given h moment next reference (Memory n) ≡ []
  numbered_reported reference n below = ⊎_elim
      (λ (t : nat_le next n ≡ true). let l = leb-true next n t in absurd (omega (arith, l, below)))
      (λ (f : nat_le next n ≡ false).
      cond-false (nat_le next n) (record { handset = h; direction = Up; reference = reference; holder = Memory n; moment = moment } ∷ []) [] f)
      (cases_Bool (nat_le next n))

  -- all that is told has the reference that they carry
  either_row : (x : GivenRow) (xs ys : List GivenRow) → Among x (xs ++ ys) → (P : Type 0) → (Among x xs → P) → (Among x ys → P) → P
  either_row x [] ys i P f g = g i
  either_row x (z ∷ zs) ys i P f g = ⊎_elim (λ (e : x ≡ z). f (inl e)) (λ (j : Among x (zs ++ ys)). either_row x zs ys j P (λ k. f (inr k)) g) i

  one_reference : (reference n : ℕ) (g : GivenRow) → Among g (memory_given h moment next reference (Memory n)) → g.reference ≡ reference
  one_reference reference n g i =
      cond_both (nat_le next n) (record { handset = h; direction = Up; reference = reference; holder = Memory n; moment = moment } ∷ []) []
      (λ (rows : List GivenRow). Among g rows → g.reference ≡ reference)
      (λ t j. ⊎_elim (λ (e : g ≡ record { handset = h; direction = Up; reference = reference; holder = Memory n; moment = moment }). ap (λ (z : GivenRow). z.reference) e) (λ none. absurd none) j)
      (λ t j. absurd j)
      i

  pub all_reference : (reference n : ℕ) (fs : List (List ℕ)) (g : GivenRow) → Among g (memories_given h moment next (carrying (Some (record { kind = Data; reference = reference; tag = Memory n })) fs)) → g.reference ≡ reference
  all_reference reference n [] g i = absurd i
  all_reference reference n (f ∷ fs) g i =
      either_row g (memory_given h moment next reference (Memory n)) (memories_given h moment next (carrying (Some (record { kind = Data; reference = reference; tag = Memory n })) fs)) i (g.reference ≡ reference)
      (λ j. one_reference reference n g j) (λ j. all_reference reference n fs g j)
