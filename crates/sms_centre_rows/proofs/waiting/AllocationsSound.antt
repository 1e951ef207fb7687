-- A giving leaves sound handsets and references sound.
use Rattle.std.proofs.Common.{◌≡◌, ℕ, ◌<◌, List, [], ◌∷◌, Option, Some, None, refl, sym, ◌∙◌, ap, subst, inl, ⊎_elim, arith}
use Rattle.std.proofs.lemmas.Bool.{cases_eq}
use Rattle.sms_base.specs.Among.{Among}
use Rattle.sms_rows.specs.table.Keys.{pair_key}
use Rattle.sms_rows.specs.table.Table.{put, row_at, Rises}
use Rattle.sms_rows.proofs.table.Tables.{among_put, rises_put, row_at_put, row_at_put_other}
use Rattle.sms_centre_rows.specs.declared.waiting.handset.HandsetRow.{HandsetRow}
use Rattle.sms_centre_rows.specs.declared.waiting.reference.ReferenceRow.{ReferenceRow}
use Rattle.sms_centre_rows.specs.waiting.Keys.{handset_key, reference_key}
use Rattle.sms_centre_rows.specs.waiting.References.{given_row, handset_at, mentioned, or_new_handset, place_after}
use Rattle.sms_centre_rows.specs.waiting.SoundAllocations.{IsGiven, IsMentioned, IsNumber, SoundAllocations}
use Rattle.sms_centre_rows.proofs.waiting.Mentions.{below_next_place, number_found, row_fits}

first_place : (hs : List HandsetRow) → Rises handset_key hs → 0 < place_after 1 hs
first_place [] rises = omega arith
first_place (h ∷ hs) rises = let l = below_next_place 1 h (h ∷ hs) rises (inl refl) in omega (arith, l)

-- the row has a place and a number
pub row_placed : (number : List ℕ) (hs : List HandsetRow) (rs : List ReferenceRow) (o : Option HandsetRow) → SoundAllocations hs rs → IsNumber number → handset_at number hs ≡ o
    → (0 < (or_new_handset number (place_after 1 hs) o).place) × IsNumber (or_new_handset number (place_after 1 hs) o).number
row_placed number hs rs None sound is none = (first_place hs sound.handset_keys, is)
row_placed number hs rs (Some h) sound is found = let m = sound.mentioned h (number_found number h hs found).0 in (m.place, m.number)

pub give_sound : (number : List ℕ) (hs : List HandsetRow) (rs : List ReferenceRow) (o : Option HandsetRow) (reference now : ℕ) → SoundAllocations hs rs → IsNumber number → handset_at number hs ≡ o → reference < 256
    → let h : HandsetRow = or_new_handset number (place_after 1 hs) o in SoundAllocations (put handset_key (mentioned h reference) hs) (put reference_key (given_row h reference now) rs)
give_sound number hs rs o reference now sound is at small =
    let h : HandsetRow = or_new_handset number (place_after 1 hs) o in
    let m : HandsetRow = mentioned h reference in
    let row : ReferenceRow = given_row h reference now in
    let fits = row_fits number hs o sound.handset_keys sound.apart at in
    let placed = row_placed number hs rs o sound is at in
    record {
      handset_keys = rises_put handset_key m hs sound.handset_keys;
      reference_keys = rises_put reference_key row rs sound.reference_keys;
      mentioned = λ g among. ⊎_elim
          (λ (e : g ≡ m). subst (λ (x : HandsetRow). IsMentioned (put reference_key row rs) x) (sym e)
          (record { place = placed.0; number = placed.1; small = small; last = (row, row_at_put reference_key row rs) }))
          (λ (k : Among g hs × ¬ (g.place ≡ h.place)).
          let was = sound.mentioned g k.0 in
          let apart : ¬ (pair_key h.place reference ≡ pair_key g.place g.last_reference) = λ q. k.1 (omega (arith, q, small, was.small)) in
          record {
            place = was.place;
            number = was.number;
            small = was.small;
            last = (was.last.0, row_at_put_other reference_key (pair_key g.place g.last_reference) row rs apart ∙ was.last.1);
          })
          (among_put handset_key g m hs among);
      given = λ x among. ⊎_elim
          (λ (e : x ≡ row). subst (λ (y : ReferenceRow). IsGiven (put handset_key m hs) y) (sym e)
          (record { small = small; handset = (m, row_at_put handset_key m hs) }))
          (λ (k : Among x rs × ¬ (pair_key x.place x.reference ≡ pair_key h.place reference)).
          let was = sound.given x k.0 in
          record {
            small = was.small;
            handset = ⊎_elim
                (λ (e : h.place ≡ x.place).
                let there : row_at handset_key x.place (put handset_key m hs) ≡ Some m = subst (λ (n : ℕ). row_at handset_key n (put handset_key m hs) ≡ Some m) e (row_at_put handset_key m hs) in
                let found : (g : HandsetRow) × (row_at handset_key x.place (put handset_key m hs) ≡ Some g) = (m, there) in found)
                (λ (e : h.place ≡ x.place → ⊥). (was.handset.0, row_at_put_other handset_key x.place m hs e ∙ was.handset.1))
                (cases_eq h.place x.place);
          })
          (among_put reference_key x row rs among);
      apart = λ f g a b e. ⊎_elim
          (λ (p : f ≡ m). ⊎_elim
          (λ (q : g ≡ m). ap (λ (x : HandsetRow). x.place) (p ∙ sym q))
          (λ (q : Among g hs × ¬ (g.place ≡ h.place)). absurd (q.1 (fits.0.place g q.0 (sym e ∙ ap (λ (x : HandsetRow). x.number) p))))
          (among_put handset_key g m hs b))
          (λ (p : Among f hs × ¬ (f.place ≡ h.place)). ⊎_elim
          (λ (q : g ≡ m). absurd (p.1 (fits.0.place f p.0 (e ∙ ap (λ (x : HandsetRow). x.number) q))))
          (λ (q : Among g hs × ¬ (g.place ≡ h.place)). sound.apart f g p.0 q.0 e)
          (among_put handset_key g m hs b))
          (among_put handset_key f m hs a);
    }
