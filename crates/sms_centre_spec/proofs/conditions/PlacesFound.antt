-- The place under the key of a handset's digits is that of the handset's row.
use Rattle.std.proofs.Common.{◌≡◌, ℕ, List, [], ◌∷◌, nat_eq, Option, Some, None, refl, sym, ◌∙◌, ap, inl, inr, ⊎_elim, eq-eqb, arith}
use Rattle.std.specs.Option.{option_map}
use Rattle.std.proofs.lemmas.Bool.{cond-true, cond-false, ne_eqb}
use Rattle.sms_base.proofs.OctetLaws.{cases_octets}
use Rattle.sms_base.specs.Among.{Among}
use Rattle.sms_rows.specs.table.Keys.{digits_key, pair_key}
use Rattle.sms_rows.specs.table.Table.{Rises}
use Rattle.sms_base.proofs.KeysOfDigits.{digits_equal}
use Rattle.sms_centre_rows.specs.declared.waiting.handset.HandsetRow.{HandsetRow}
use Rattle.sms_centre_rows.specs.declared.waiting.reference.ReferenceRow.{ReferenceRow}
use Rattle.sms_centre_rows.specs.waiting.Keys.{handset_key}
use Rattle.sms_centre_rows.specs.waiting.References.{handset_at}
use Rattle.sms_centre_rows.specs.waiting.SoundAllocations.{IsNumber, SoundAllocations}
use Rattle.sms_centre_rows.proofs.waiting.Mentions.{number_behind, number_here}
use Rattle.sms_centre_spec.proofs.SteadyTimes.{above_among}
use Rattle.sms_centre_rows.specs.conditions.AllocationTest.{number_key}
use Rattle.sms_centre_rows.specs.conditions.WaitingTest.{Places, hold_at, place_from}
use Rattle.sms_centre_spec.proofs.conditions.AllocationsTested.{all_digits}

-- where none has the key, what was found stays
none_from : (key : ℕ) (hs : List HandsetRow) (place : Option ℕ) → ((g : HandsetRow) → Among g hs → ¬ (key ≡ number_key g)) → place_from key hs place ≡ place
none_from key [] place ne = refl
none_from key (h ∷ hs) place ne =
    ap (λ (o : Option ℕ). place_from key hs o) (cond-false (nat_eq key (number_key h)) (Some h.place) place (ne_eqb key (number_key h) (ne h (inl refl))))
    ∙ none_from key hs place (λ g a. ne g (inr a))

-- the handset's place, or what was found
abbrev or_place : Option HandsetRow → Option ℕ → Option ℕ
or_place None place = place
or_place (Some h) place = Some h.place

found_from : (number : List ℕ) (hs : List HandsetRow) (place : Option ℕ) → IsNumber number → ((g : HandsetRow) → Among g hs → IsNumber g.number)
    → ((f g : HandsetRow) → Among f hs → Among g hs → f.number ≡ g.number → f.place ≡ g.place) → Rises handset_key hs
    → place_from (digits_key number) hs place ≡ or_place (handset_at number hs) place
found_from number [] place is are apart rises = refl
found_from number (h ∷ hs) place is are apart rises = ⊎_elim
    (λ (e : h.number ≡ number).
    let same : digits_key number ≡ number_key h = ap (λ (n : List ℕ). digits_key n) (sym e) in
    ap (λ (o : Option ℕ). place_from (digits_key number) hs o) (cond-true (nat_eq (digits_key number) (number_key h)) (Some h.place) place (eq-eqb (digits_key number) (number_key h) same))
    ∙ none_from (digits_key number) hs (Some h.place)
    (λ g a q.
    let numbers : number ≡ g.number = digits_equal number g.number (all_digits number is) (all_digits g.number (are g (inr a))) q in
    let places : h.place ≡ g.place = apart h g (inl refl) (inr a) (e ∙ numbers) in
    let above = above_among handset_key h.place g hs rises.0 a in
    absurd (omega (arith, places, above)))
    ∙ sym (ap (λ (o : Option HandsetRow). or_place o place) (number_here number h hs e)))
    (λ (ne : h.number ≡ number → ⊥).
    ap (λ (o : Option ℕ). place_from (digits_key number) hs o)
    (cond-false (nat_eq (digits_key number) (number_key h)) (Some h.place) place
    (ne_eqb (digits_key number) (number_key h) (λ q. ne (sym (digits_equal number h.number (all_digits number is) (all_digits h.number (are h (inl refl))) q)))))
    ∙ found_from number hs place is (λ g a. are g (inr a)) (λ f g a b e. apart f g (inr a) (inr b) e) rises.1
    ∙ sym (ap (λ (o : Option HandsetRow). or_place o place) (number_behind number h hs ne)))
    (cases_octets h.number number)

-- ---- the key of a reference at a handset

abbrev pub held : ℕ → Option HandsetRow → Option ℕ
held reference None = None
held reference (Some h) = Some (pair_key h.place reference)

held_place : (reference : ℕ) (o : Option HandsetRow) → option_map (λ (place : ℕ). pair_key place reference) (or_place o None) ≡ held reference o
held_place reference None = refl
held_place reference (Some h) = refl

pub hold_is : (entries : List (ℕ × ℕ)) (hs : List HandsetRow) (rs : List ReferenceRow) (reference : ℕ) (number : List ℕ) → Places entries hs → SoundAllocations hs rs → IsNumber number
    → hold_at entries reference number ≡ held reference (handset_at number hs)
hold_is entries hs rs reference number places sound is =
    ap (λ (o : Option ℕ). option_map (λ (place : ℕ). pair_key place reference) o)
    (places (digits_key number) ∙ found_from number hs None is (λ g a. (sound.mentioned g a).number) sound.apart sound.handset_keys)
    ∙ held_place reference (handset_at number hs)
