-- A row of the outbox takes the place of another of its number.
use Rattle.std.proofs.Common.{◌≡◌, ◌⊎◌, ℕ, List, [], ◌∷◌, true, false, cond, refl, sym, ◌∙◌, ap, subst, inl, inr, ⊎_elim, Some, eq-eqb}
use Rattle.std.specs.Prelude.{◌==◌, ◌&&◌}
use Rattle.std.proofs.lemmas.Bool.{cases_eq, cases_Bool, cond-true, cond-false, eqb-true, and_from, and_parts, both_ways}
use Rattle.std.proofs.lemmas.Slice.Eq.{bytes_eq-Decides}
use Rattle.std.proofs.lemmas.Option.{same_Some}
use Rattle.sms_base.specs.Among.{Among}
use Rattle.sms_rows.specs.table.Table.{row_at, put}
use Rattle.sms_rows.proofs.table.Tables.{found_key, row_at_put, row_at_put_other}
use Rattle.sms_base.specs.declared.holder.Holder.TheVariants.{Entry as EntryHolder}
use Rattle.sms_handset_rows.specs.declared.outbox.out_entry.OutEntry.{OutEntry as OutRow}
use Rattle.sms_handset_rows.specs.outbox.Keys.{out_key}
use Rattle.sms_world_model.specs.World.{Allocation, EntryState, OutEntry, is_same_handset}
use Rattle.sms_world_model.specs.WorldStep.{replaced}
use Rattle.sms_world.specs.handset_runs_are_steps.RefinesOutbox.{RefinesOut}
use Rattle.sms_world.specs.headline.SeenWorld.{entry_seen}

pub same_digits : (a b : List ℕ) → a ≡ b → is_same_handset a b ≡ true
same_digits a b e = (bytes_eq-Decides a b).1 e

pub digits_same : (a b : List ℕ) → is_same_handset a b ≡ true → a ≡ b
digits_same a b e = (bytes_eq-Decides a b).0 e

abbrev pub SameEntry : OutEntry → OutEntry → Type 0
SameEntry x e = (x.handset ≡ e.handset) × (x.number ≡ e.number)

pub replaced_here : (e : OutEntry) (st : EntryState) (y : OutEntry) (xs : List OutEntry) → Among y xs → SameEntry y e → Among (record y { state = st }) (replaced e st xs)
replaced_here e st y [] i q = absurd i
replaced_here e st y (x ∷ xs) i q =
    ⊎_elim
    (λ (p : y ≡ x).
    let t : ((is_same_handset x.handset e.handset) && (x.number == e.number)) ≡ true =
    and_from (is_same_handset x.handset e.handset) (x.number == e.number) (same_digits x.handset e.handset (ap (λ (z : OutEntry). z.handset) (sym p) ∙ q.0)) (eq-eqb x.number e.number (ap (λ (z : OutEntry). z.number) (sym p) ∙ q.1)) in
    inl (ap (λ (z : OutEntry). record z { state = st }) p ∙ sym (cond-true ((is_same_handset x.handset e.handset) && (x.number == e.number)) (record x { state = st }) x t)))
    (λ (p : Among y xs). inr (replaced_here e st y xs p q)) i

pub replaced_there : (e : OutEntry) (st : EntryState) (y : OutEntry) (xs : List OutEntry) → Among y xs → ¬ SameEntry y e → Among y (replaced e st xs)
replaced_there e st y [] i q = i
replaced_there e st y (x ∷ xs) i q =
    ⊎_elim
    (λ (p : y ≡ x).
    inl (p ∙ sym (⊎_elim
    (λ (t : ((is_same_handset x.handset e.handset) && (x.number == e.number)) ≡ true).
    let a = and_parts (is_same_handset x.handset e.handset) (x.number == e.number) t in
    absurd (q (ap (λ (z : OutEntry). z.handset) p ∙ digits_same x.handset e.handset a.0, ap (λ (z : OutEntry). z.number) p ∙ eqb-true x.number e.number a.1)))
    (λ (t : ((is_same_handset x.handset e.handset) && (x.number == e.number)) ≡ false). cond-false ((is_same_handset x.handset e.handset) && (x.number == e.number)) (record x { state = st }) x t)
    (cases_Bool ((is_same_handset x.handset e.handset) && (x.number == e.number))))))
    (λ (p : Among y xs). inr (replaced_there e st y xs p q)) i

-- where an entry comes from
pub replaced_back : (e : OutEntry) (st : EntryState) (y : OutEntry) (xs : List OutEntry) → Among y (replaced e st xs)
    → (x : OutEntry) × (Among x xs × ((SameEntry x e × (y ≡ record x { state = st })) ⊎ (¬ SameEntry x e × (y ≡ x))))
replaced_back e st y [] i = absurd i
replaced_back e st y (x ∷ xs) i =
    ⊎_elim
    (λ (p : y ≡ cond ((is_same_handset x.handset e.handset) && (x.number == e.number)) (record x { state = st }) x). (
      x,
      (
        inl refl,
        ⊎_elim
            (λ (t : ((is_same_handset x.handset e.handset) && (x.number == e.number)) ≡ true).
            let a = and_parts (is_same_handset x.handset e.handset) (x.number == e.number) t in
            inl ((digits_same x.handset e.handset a.0, eqb-true x.number e.number a.1), p ∙ cond-true ((is_same_handset x.handset e.handset) && (x.number == e.number)) (record x { state = st }) x t))
            (λ (t : ((is_same_handset x.handset e.handset) && (x.number == e.number)) ≡ false).
            inr (
              (λ s. both_ways ((is_same_handset x.handset e.handset) && (x.number == e.number)) t (and_from (is_same_handset x.handset e.handset) (x.number == e.number) (same_digits x.handset e.handset s.0) (eq-eqb x.number e.number s.1))),
              p ∙ cond-false ((is_same_handset x.handset e.handset) && (x.number == e.number)) (record x { state = st }) x t,
            ))
            (cases_Bool ((is_same_handset x.handset e.handset) && (x.number == e.number))),
      ),
    ))
    (λ (p : Among y (replaced e st xs)). let k = replaced_back e st y xs p in (k.0, (inr k.1.0, k.1.1))) i

module _ (h : List ℕ) (next : ℕ) (outbox : List OutRow) (entries : List OutEntry) (up : List Allocation) (o x : OutRow) (at : row_at out_key o.number outbox ≡ Some o)
    (number : x.number ≡ o.number) (reference : x.reference ≡ o.reference) where
  new_here : row_at out_key o.number (put out_key x outbox) ≡ Some x
  new_here = ap (λ (z : ℕ). row_at out_key z (put out_key x outbox)) (sym number) ∙ row_at_put out_key x outbox

  old_there : (k : ℕ) → ¬ (o.number ≡ k) → row_at out_key k (put out_key x outbox) ≡ row_at out_key k outbox
  old_there k ne = row_at_put_other out_key k x outbox (λ q. ne (sym number ∙ q))

  -- the row found under a number, and what it was
  arrived_from : (n : ℕ) (y : OutRow) → row_at out_key n (put out_key x outbox) ≡ Some y
      → (z : OutRow) × ((row_at out_key n outbox ≡ Some z) × (z.reference ≡ y.reference))
  arrived_from n y q = ⊎_elim
      (λ (g : o.number ≡ n).
      let same : x ≡ y = same_Some x y (sym new_here ∙ ap (λ (z : ℕ). row_at out_key z (put out_key x outbox)) g ∙ q) in
      (o, (ap (λ (z : ℕ). row_at out_key z outbox) (sym g) ∙ at, sym reference ∙ ap (λ (z : OutRow). z.reference) same)))
      (λ (g : o.number ≡ n → ⊥). (y, (sym (old_there n g) ∙ q, refl)))
      (cases_eq o.number n)

  given_still : RefinesOut h next outbox entries up → (n : ℕ) (y : OutRow) → row_at out_key n (put out_key x outbox) ≡ Some y
      → (moment : ℕ) × Among (record { handset = h; reference = y.reference; holder = EntryHolder n; moment = moment; tpdu = [] }) up
  given_still s n y q =
      let z = arrived_from n y q in
      let g = s.given n z.0 z.1.0 in
      (g.0, subst (λ (v : ℕ). Among (record { handset = h; reference = v; holder = EntryHolder n; moment = g.0; tpdu = [] }) up) z.1.1 g.1)

  same_still : RefinesOut h next outbox entries up → (n : ℕ) (y : OutRow) (v : Allocation) → row_at out_key n (put out_key x outbox) ≡ Some y → Among v up → v.handset ≡ h → v.holder ≡ EntryHolder n → v.reference ≡ y.reference
  same_still s n y v q i a e = let z = arrived_from n y q in s.same n z.0 v z.1.0 i a e ∙ z.1.1

  -- the world shows nothing of the change
  pub out_noted : entry_seen h x ≡ entry_seen h o → RefinesOut h next outbox entries up → RefinesOut h next (put out_key x outbox) entries up
  out_noted seen s = record {
    there = λ n y q. ⊎_elim
        (λ (g : o.number ≡ n).
        let same : x ≡ y = same_Some x y (sym new_here ∙ ap (λ (z : ℕ). row_at out_key z (put out_key x outbox)) g ∙ q) in
        subst (λ (z : OutEntry). Among z entries) (sym seen ∙ ap (λ (z : OutRow). entry_seen h z) same) (s.there o.number o at))
        (λ (g : o.number ≡ n → ⊥). s.there n y (sym (old_there n g) ∙ q))
        (cases_eq o.number n);
    only = λ e i a.
        let old = s.only e i a in
        ⊎_elim
        (λ (g : o.number ≡ e.number).
        let same : old.0 ≡ o = same_Some old.0 o (sym old.1.0 ∙ ap (λ (v : ℕ). row_at out_key v outbox) (sym g) ∙ at) in
        (x, (ap (λ (z : ℕ). row_at out_key z (put out_key x outbox)) (sym g) ∙ new_here, old.1.1 ∙ ap (λ (z : OutRow). entry_seen h z) same ∙ sym seen)))
        (λ (g : o.number ≡ e.number → ⊥). (old.0, (old_there e.number g ∙ old.1.0, old.1.1)))
        (cases_eq o.number e.number);
    given = given_still s;
    same = same_still s;
    used = s.used;
  }

  -- the entry is in another state
  pub out_changed : (st : EntryState) → entry_seen h x ≡ record (entry_seen h o) { state = st } → RefinesOut h next outbox entries up → RefinesOut h next (put out_key x outbox) (replaced (entry_seen h o) st entries) up
  out_changed st seen s = record {
    there = λ n y q. ⊎_elim
        (λ (g : o.number ≡ n).
        let same : x ≡ y = same_Some x y (sym new_here ∙ ap (λ (z : ℕ). row_at out_key z (put out_key x outbox)) g ∙ q) in
        subst (λ (z : OutEntry). Among z (replaced (entry_seen h o) st entries)) (sym seen ∙ ap (λ (z : OutRow). entry_seen h z) same)
        (replaced_here (entry_seen h o) st (entry_seen h o) entries (s.there o.number o at) (refl, refl)))
        (λ (g : o.number ≡ n → ⊥).
        let old : row_at out_key n outbox ≡ Some y = sym (old_there n g) ∙ q in
        replaced_there (entry_seen h o) st (entry_seen h y) entries (s.there n y old) (λ z. g (sym z.1 ∙ found_key out_key n y outbox old)))
        (cases_eq o.number n);
    only = λ e i a.
        let k = replaced_back (entry_seen h o) st e entries i in
        ⊎_elim
        (λ (z : SameEntry k.0 (entry_seen h o) × (e ≡ record k.0 { state = st })).
        let old = s.only k.0 k.1.0 z.0.0 in
        let same : old.0 ≡ o = same_Some old.0 o (sym old.1.0 ∙ ap (λ (v : ℕ). row_at out_key v outbox) z.0.1 ∙ at) in (
          x,
          (
            ap (λ (v : ℕ). row_at out_key v (put out_key x outbox)) (ap (λ (v : OutEntry). v.number) z.1 ∙ z.0.1) ∙ new_here,
            z.1 ∙ ap (λ (v : OutEntry). record v { state = st }) (old.1.1 ∙ ap (λ (v : OutRow). entry_seen h v) same) ∙ sym seen,
          ),
        ))
        (λ (z : ¬ SameEntry k.0 (entry_seen h o) × (e ≡ k.0)).
        let mine : k.0.handset ≡ h = ap (λ (v : OutEntry). v.handset) (sym z.1) ∙ a in
        let old = s.only k.0 k.1.0 mine in
        (old.0, (ap (λ (v : OutEntry). row_at out_key v.number (put out_key x outbox)) z.1 ∙ old_there k.0.number (λ v. z.0 (mine, sym v)) ∙ old.1.0, z.1 ∙ old.1.1)))
        k.1.1;
    given = given_still s;
    same = same_still s;
    used = s.used;
  }
