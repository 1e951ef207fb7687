-- A queue that represents a handset gives the references that are given over all rows, and each allocation stays on its queue.
use Rattle.std.proofs.Common.{◌≡◌, ℕ, zero, suc, ◌<◌, List, Bool, Option, Some, None, refl, sym, ◌∙◌, ap, subst, ⊎_elim, cond, arith}
use Rattle.std.proofs.lemmas.Bool.{cases_eq}
use Rattle.std.specs.Prelude.{not, ◌&&◌}
use Rattle.sms_base.specs.Among.{Among}
use Rattle.sms_rows.specs.table.Keys.{pair_key}
use Rattle.sms_rows.specs.table.Table.{put}
use Rattle.sms_rows.proofs.table.Tables.{found_among, found_key, row_at_put, row_at_put_other}
use Rattle.sms_centre_rows.specs.declared.waiting.handset.HandsetRow.{HandsetRow}
use Rattle.sms_centre_rows.specs.declared.waiting.queued_part.QueuedPart.{QueuedPart}
use Rattle.sms_centre_rows.specs.declared.waiting.reference.ReferenceRow.{ReferenceRow}
use Rattle.sms_centre_rows.specs.waiting.Keys.{handset_key, reference_key}
use Rattle.sms_centre_rows.specs.waiting.References.{first_passing, following, given_row, handset_at, is_free, is_held, is_late, mentioned, next_reference, or_new_handset, place_after}
use Rattle.sms_centre_rows.specs.waiting.DeliveryQueueRows.{RepresentsGiven}
use Rattle.sms_centre_rows.specs.waiting.SoundAllocations.{SoundAllocations, reference_at}
use Rattle.sms_centre_rows.proofs.waiting.Mentions.{below_next_place, number_found, put_number, put_number_other, row_fits}

-- ---- tests that agree find the same

pub passing_alike : (p q : ℕ → Bool) (turns r : ℕ) → ((i : ℕ) → i < 256 → p i ≡ q i) → r < 256 → first_passing p turns r ≡ first_passing q turns r
unfolding first_passing
passing_alike p q zero r same small = refl
passing_alike p q (suc turns) r same small =
    let next : following r < 256 = omega arith in
    ap (λ (b : Bool). cond b (Some r) (first_passing p turns (following r))) (same r small)
    ∙ ap (λ (o : Option ℕ). cond (q r) (Some r) o) (passing_alike p q turns (following r) same next)

-- ---- where no row is of a place

none_there : (hs : List HandsetRow) (rs : List ReferenceRow) (place r : ℕ) → SoundAllocations hs rs → ((g : HandsetRow) → Among g hs → g.place ≡ place → ⊥) → r < 256 → reference_at place r rs ≡ None
none_there hs rs place r sound none small = by (reference_at place r rs) refl where
  by : (o : Option ReferenceRow) → reference_at place r rs ≡ o → o ≡ None
  by None e = refl
  by (Some x) e =
      let given = sound.given x (found_among reference_key (pair_key place r) x rs e) in
      let key : pair_key x.place x.reference ≡ pair_key place r = found_key reference_key (pair_key place r) x rs e in
      let place_is : x.place ≡ place = omega (arith, key, given.small, small) in
      let h : HandsetRow = given.handset.0 in
      let at : h.place ≡ x.place = found_key handset_key x.place h hs given.handset.1 in
      absurd (none h (found_among handset_key x.place h hs given.handset.1) (at ∙ place_is))

-- ---- the next reference

pub free_alike : (h : HandsetRow) (waiting : List QueuedPart) (rs given : List ReferenceRow) (now r : ℕ) → reference_at h.place r given ≡ reference_at h.place r rs → is_free h waiting rs now r ≡ is_free h waiting given now r
free_alike h waiting rs given now r e = ap (λ (o : Option ReferenceRow). not (is_held r waiting) && not (is_late now o)) (sym e)

pub represented_at : (number : List ℕ) (hs : List HandsetRow) (rs given : List ReferenceRow) (o : Option HandsetRow) → SoundAllocations hs rs → handset_at number hs ≡ o → RepresentsGiven o rs given
    → (r : ℕ) → r < 256 → reference_at (or_new_handset number (place_after 1 hs) o).place r given ≡ reference_at (or_new_handset number (place_after 1 hs) o).place r rs
represented_at number hs rs given None sound none represents r small =
    ap (λ (l : List ReferenceRow). reference_at (place_after 1 hs) r l) represents
    ∙ sym (none_there hs rs (place_after 1 hs) r sound (λ g m e. let l = below_next_place 1 g hs sound.handset_keys m in absurd (omega (arith, l, e))) small)
represented_at number hs rs given (Some h) sound found represents r small = represents r small

pub next_represented : (number : List ℕ) (hs : List HandsetRow) (rs given : List ReferenceRow) (waiting : List QueuedPart) (o : Option HandsetRow) (now : ℕ) → SoundAllocations hs rs → handset_at number hs ≡ o → RepresentsGiven o rs given
    → next_reference (or_new_handset number (place_after 1 hs) o) waiting rs now ≡ next_reference (or_new_handset number (place_after 1 hs) o) waiting given now
next_represented number hs rs given waiting o now sound at represents =
    let h : HandsetRow = or_new_handset number (place_after 1 hs) o in
    let first : following h.last_reference < 256 = omega arith in
    passing_alike (is_free h waiting rs now) (is_free h waiting given now) 256 (following h.last_reference)
    (λ r small. free_alike h waiting rs given now r (represented_at number hs rs given o sound at represents r small)) first

-- ---- a giving, on its own queue

pub given_own : (number : List ℕ) (hs : List HandsetRow) (rs given : List ReferenceRow) (o : Option HandsetRow) (reference now : ℕ) → SoundAllocations hs rs → handset_at number hs ≡ o → RepresentsGiven o rs given → reference < 256
    → let h : HandsetRow = or_new_handset number (place_after 1 hs) o in
    (Some (mentioned h reference) ≡ handset_at number (put handset_key (mentioned h reference) hs))
    × RepresentsGiven (Some (mentioned h reference)) (put reference_key (given_row h reference now) rs) (put reference_key (given_row h reference now) given)
given_own number hs rs given o reference now sound at represents small =
    let h : HandsetRow = or_new_handset number (place_after 1 hs) o in
    let row : ReferenceRow = given_row h reference now in
    let fits = row_fits number hs o sound.handset_keys sound.apart at in
    let there : handset_at h.number (put handset_key (mentioned h reference) hs) ≡ Some (mentioned h reference) =
    put_number (mentioned h reference) hs (record { place = fits.0.place; number = fits.0.number }) in (
      sym (subst (λ (n : List ℕ). handset_at n (put handset_key (mentioned h reference) hs) ≡ Some (mentioned h reference)) fits.1 there),
      λ r s. ⊎_elim
          (λ (e : reference ≡ r).
          let same : (l : List ReferenceRow) → reference_at h.place r (put reference_key row l) ≡ Some row = λ l.
          subst (λ (n : ℕ). reference_at h.place n (put reference_key row l) ≡ Some row) e (row_at_put reference_key row l) in
          same given ∙ sym (same rs))
          (λ (e : reference ≡ r → ⊥).
          let apart : ¬ (pair_key h.place reference ≡ pair_key h.place r) = λ k. e (omega (arith, k)) in
          row_at_put_other reference_key (pair_key h.place r) row given apart
          ∙ represented_at number hs rs given o sound at represents r s
          ∙ sym (row_at_put_other reference_key (pair_key h.place r) row rs apart))
          (cases_eq reference r),
    )

-- ---- and on another

pub given_other : (number other : List ℕ) (hs : List HandsetRow) (rs given : List ReferenceRow) (o p : Option HandsetRow) (reference now : ℕ) → SoundAllocations hs rs → handset_at number hs ≡ o → handset_at other hs ≡ p
    → ¬ (number ≡ other) → RepresentsGiven p rs given → reference < 256
    → let h : HandsetRow = or_new_handset number (place_after 1 hs) o in
    (p ≡ handset_at other (put handset_key (mentioned h reference) hs)) × RepresentsGiven p (put reference_key (given_row h reference now) rs) given
given_other number other hs rs given o p reference now sound at there apart represents small =
    let h : HandsetRow = or_new_handset number (place_after 1 hs) o in
    let fits = row_fits number hs o sound.handset_keys sound.apart at in (
      sym (put_number_other other (mentioned h reference) hs (record { place = fits.0.place; number = fits.0.number }) (λ e. apart (sym fits.1 ∙ e)) ∙ there),
      shown p there represents,
    )
  where
    shown : (p : Option HandsetRow) → handset_at other hs ≡ p → RepresentsGiven p rs given → RepresentsGiven p (put reference_key (given_row (or_new_handset number (place_after 1 hs) o) reference now) rs) given
    shown None none represents = represents
    shown (Some g) found represents = λ r s.
        let h : HandsetRow = or_new_handset number (place_after 1 hs) o in
        let fits = row_fits number hs o sound.handset_keys sound.apart at in
        let here = number_found other g hs found in
        let places : ¬ (h.place ≡ g.place) = λ e. apart (sym fits.1 ∙ sym (fits.0.number g here.0 (sym e)) ∙ here.1) in
        represents r s ∙ sym (row_at_put_other reference_key (pair_key g.place r) (given_row h reference now) rs (λ k. places (omega (arith, k, small, s))))
