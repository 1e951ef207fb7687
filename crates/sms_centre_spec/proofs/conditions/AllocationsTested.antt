-- The tests of handsets and references hold exactly where a centre can stand on them.
use Rattle.std.proofs.Common.{◌≡◌, ℕ, List, map, true, refl, ap, is_some}
use Rattle.std.specs.Prelude.{◌&&◌, nat_lt}
use Rattle.std.proofs.lemmas.Bool.{and_from, and_parts, lt-ltb, ltb-true}
use Rattle.sms_base.specs.HandsetNumber.{own_address}
use Rattle.sms_base.specs.Msisdn.{AllDigits}
use Rattle.sms_rows.specs.table.Keys.{digits_key}
use Rattle.sms_rows.specs.table.Table.{Rises, row_at}
use Rattle.sms_base.proofs.KeysOfDigits.{digits_equal}
use Rattle.sms_centre_rows.specs.declared.waiting.handset.HandsetRow.{HandsetRow}
use Rattle.sms_centre_rows.specs.declared.waiting.reference.ReferenceRow.{ReferenceRow}
use Rattle.sms_centre_rows.specs.waiting.Keys.{handset_key, reference_key}
use Rattle.sms_centre_rows.specs.waiting.SoundAllocations.{IsGiven, IsMentioned, IsNumber, SoundAllocations, reference_at}
use Rattle.sms_centre_rows.specs.conditions.AllocationTest.{AllocationsPass, is_given, is_mentioned, number_key}
use Rattle.sms_centre_rows.specs.conditions.MessageTest.{is_handset}
use Rattle.sms_centre_rows.proofs.conditions.AddressTested.{address_from, address_to}
use Rattle.sms_centre_spec.proofs.conditions.DifferTested.{distinct_from, distinct_to, keys_differ, one_row}
use Rattle.sms_centre_rows.proofs.conditions.Passing.{each_from, each_to, is_there, there_is}

pub all_digits : (number : List ℕ) → IsNumber number → AllDigits number
all_digits number is = ((is.digits).number refl).digits

mentioned_from : (rs : List ReferenceRow) (h : HandsetRow) → is_mentioned rs h ≡ true → IsMentioned rs h
mentioned_from rs h e =
    let a = and_parts (nat_lt 0 h.place && is_handset h.number) (nat_lt h.last_reference 256 && is_some (reference_at h.place h.last_reference rs)) e in
    let b = and_parts (nat_lt 0 h.place) (is_handset h.number) a.0 in
    let c = and_parts (nat_lt h.last_reference 256) (is_some (reference_at h.place h.last_reference rs)) a.1 in
    record {
      place = ltb-true 0 h.place b.0;
      number = address_from (own_address h.number) b.1;
      small = ltb-true h.last_reference 256 c.0;
      last = there_is (reference_at h.place h.last_reference rs) c.1;
    }

mentioned_to : (rs : List ReferenceRow) (h : HandsetRow) → IsMentioned rs h → is_mentioned rs h ≡ true
mentioned_to rs h is =
    and_from (nat_lt 0 h.place && is_handset h.number) (nat_lt h.last_reference 256 && is_some (reference_at h.place h.last_reference rs))
    (and_from (nat_lt 0 h.place) (is_handset h.number) (lt-ltb 0 h.place is.place) (address_to (own_address h.number) is.number))
    (and_from (nat_lt h.last_reference 256) (is_some (reference_at h.place h.last_reference rs)) (lt-ltb h.last_reference 256 is.small)
    (is_there (reference_at h.place h.last_reference rs) (is.last).0 (is.last).1))

given_from : (hs : List HandsetRow) (r : ReferenceRow) → is_given hs r ≡ true → IsGiven hs r
given_from hs r e =
    let a = and_parts (nat_lt r.reference 256) (is_some (row_at handset_key r.place hs)) e in
    record { small = ltb-true r.reference 256 a.0; handset = there_is (row_at handset_key r.place hs) a.1 }

given_to : (hs : List HandsetRow) (r : ReferenceRow) → IsGiven hs r → is_given hs r ≡ true
given_to hs r is =
    and_from (nat_lt r.reference 256) (is_some (row_at handset_key r.place hs)) (lt-ltb r.reference 256 is.small) (is_there (row_at handset_key r.place hs) (is.handset).0 (is.handset).1)

pub allocations_from : (hs : List HandsetRow) (rs : List ReferenceRow) → Rises handset_key hs → Rises reference_key rs → AllocationsPass hs rs → SoundAllocations hs rs
allocations_from hs rs a b pass = record {
  handset_keys = a;
  reference_keys = b;
  mentioned = λ h m. mentioned_from rs h (each_from (λ x. is_mentioned rs x) hs pass.each_handset h m);
  given = λ r m. given_from hs r (each_from (λ x. is_given hs x) rs pass.each_reference r m);
  apart = λ h g mh mg e. ap (λ (x : HandsetRow). x.place)
      (one_row number_key h g hs (distinct_from (map number_key hs) pass.numbers) mh mg (ap (λ (n : List ℕ). digits_key n) e));
}

pub allocations_to : (hs : List HandsetRow) (rs : List ReferenceRow) → SoundAllocations hs rs → AllocationsPass hs rs
allocations_to hs rs s = record {
  each_handset = each_to (λ x. is_mentioned rs x) hs (λ h m. mentioned_to rs h (s.mentioned h m));
  each_reference = each_to (λ x. is_given hs x) rs (λ r m. given_to hs r (s.given r m));
  numbers = distinct_to (map number_key hs)
      (keys_differ number_key handset_key hs s.handset_keys
      (λ x y a b e. s.apart x y a b (digits_equal x.number y.number (all_digits x.number (s.mentioned x a).number) (all_digits y.number (s.mentioned y b).number) e)));
}
