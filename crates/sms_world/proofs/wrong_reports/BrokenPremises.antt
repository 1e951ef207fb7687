-- A frame that is late is not timely, and a reference that is used again before its message has arrived is not fresh.
use Rattle.std.proofs.Common.{◌≡◌, arith, ◌<◌, ◌≤◌, [], ◌∷◌, true, false, refl, sym, ◌∙◌, ap, inl, ⊎_elim}
use Rattle.jiff_core.specs.Calendar.{days_from_civil, day_count, days_of_years, days_of_months}
use Rattle.sms_alphabet.specs.Concatenation.{key_of}
use Rattle.sms_alphabet.specs.HeaderGrammar.{header_at, elements_behind}
use Rattle.sms_alphabet.specs.declared.concat_key.ConcatReference.TheVariants.{EightBit}
use Rattle.sms_base.specs.Reading.{run_in}
use Rattle.sms_base.specs.TimeStamp.{scts_in, clock_in, zone_in, moment_in}
use Rattle.sms_base.specs.declared.holder.Holder.TheVariants.{Part}
use Rattle.sms_base.specs.declared.type_of_number.TypeOfNumber.TheVariants.{International}
use Rattle.sms_tpdu.specs.AddressReading.{address_in, type_of_number_in, characters_in, digits_in, two_digits_in}
use Rattle.sms_tpdu.specs.TimeReading.{time_in}
use Rattle.sms_tpdu.specs.TpduReading.{down_at, data_down_at, deliver_at}
use Rattle.sms_tpdu.specs.UserDataReading.{text_in, text_test, user_data_in}
use Rattle.sms_world.specs.wrong_reports.Literals.{handset}
use Rattle.sms_world.specs.wrong_reports.Worlds.{FreshLaw, InTimeLaw, LateLaw, ReusedLaw, again_given, first_given, given_to}
use Rattle.sms_world_model.specs.Groups.{is_among, is_for, number_in, numbers, rounds_of}
use Rattle.sms_world_model.specs.Place.{Key, place_in}
use Rattle.sms_world_model.specs.Premises.{AllArrived}
use Rattle.sms_world_model.specs.World.{Allocation, IsLatest, SameReference}

other_message : Part 2 1 ≡ Part 1 1 → ⊥
other_message e = absurd cc

pub late : LateLaw
late (g, (latest, handset_is, reference_is, holder)) = ⊎_elim
    (λ (e : g ≡ given_to 2). other_message (ap (λ (z : Allocation). z.holder) (sym e) ∙ holder))
    (λ (older : ¬ SameReference g (given_to 2) × IsLatest g (given_to 1 ∷ [])). older.0 (handset_is, reference_is))
    latest

pub in_time : InTimeLaw
in_time = (given_to 2, (inl refl, refl, refl, refl))

abbrev key : Key
key = record {
  source = record { ton = International; npi = 1; digits = 52 ∷ 52 ∷ 55 ∷ 55 ∷ 48 ∷ 48 ∷ 57 ∷ 48 ∷ 48 ∷ 48 ∷ 48 ∷ 49 ∷ [] };
  reference = EightBit 42;
  total = 2;
}

its : is_for handset key again_given ≡ true
unfolding place_in header_at elements_behind key_of down_at data_down_at deliver_at address_in type_of_number_in characters_in digits_in two_digits_in time_in scts_in clock_in zone_in moment_in days_from_civil day_count days_of_years days_of_months run_in text_in text_test user_data_in
its = refl

there : is_among (number_in again_given) (numbers (rounds_of handset key (first_given ∷ [])).present) ≡ true
unfolding place_in header_at elements_behind key_of down_at data_down_at deliver_at address_in type_of_number_in characters_in digits_in two_digits_in time_in scts_in clock_in zone_in moment_in days_from_civil day_count days_of_years days_of_months run_in text_in text_test user_data_in
there = refl

one_is_there : 0 < 1
one_is_there = omega arith

one_of_two : 1 ≤ 2
one_of_two = omega arith

pub reused : ReusedLaw
reused may =
    let arrived : AllArrived 2 (rounds_of handset key (first_given ∷ [])).present [] = may key its there in
    let x = arrived 1 one_is_there one_of_two in absurd x.1.2

pub fresh : FreshLaw
fresh key is again = absurd (no again)
  where
    no : false ≡ true → ⊥
    no e = absurd cc
