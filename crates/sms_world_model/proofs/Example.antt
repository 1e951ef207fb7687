-- A run that delivers and joins, so that the claims speak of something: one part with a header 1 of 1.
use Rattle.std.proofs.Common.{◌≡◌, ℕ, List, [], ◌∷◌, true, false, refl, ◌∙◌, inl, arith, Some, Ok}
use Rattle.jiff_core.specs.Calendar.{days_from_civil, day_count, days_of_years, days_of_months}
use Rattle.sms_base.specs.Among.{Among}
use Rattle.sms_base.specs.Reading.{run_in}
use Rattle.sms_base.specs.TimeStamp.{scts_in, clock_in, zone_in, moment_in}
use Rattle.sms_base.specs.declared.address.Address.{Address}
use Rattle.sms_base.specs.declared.final_state.FinalState.TheVariants.{Delivered}
use Rattle.sms_base.specs.declared.type_of_number.TypeOfNumber.TheVariants.{International}
use Rattle.sms_alphabet.specs.declared.scheme.Coding.TheVariants.{Octets}
use Rattle.sms_alphabet.specs.Concatenation.{key_of}
use Rattle.sms_alphabet.specs.HeaderGrammar.{header_at, elements_behind}
use Rattle.sms_concat.specs.UserData.{part_in}
use Rattle.sms_alphabet.specs.declared.concat_key.ConcatReference.TheVariants.{EightBit}
use Rattle.sms_concat.specs.declared.content.Content.{Content}
use Rattle.sms_tpdu.specs.AddressReading.{address_in, type_of_number_in, characters_in, digits_in, two_digits_in}
use Rattle.sms_tpdu.specs.TimeReading.{time_in}
use Rattle.sms_tpdu.specs.UserDataReading.{text_in, text_test, user_data_in}
use Rattle.sms_tpdu.specs.TpduReading.{down_at, data_down_at, deliver_at}
use Rattle.sms_tpdu.specs.declared.carrier.Carrier.TheVariants.{InData}
use Rattle.sms_tpdu.specs.declared.deliver.Deliver.{Deliver as DeliverOf}
use Rattle.sms_tpdu.specs.declared.down.Down.TheVariants.{Deliver}
use Rattle.sms_tpdu.specs.declared.user_data.UserData.{UserData}
use Rattle.sms_tpdu.specs.MoreMessages.{compared}
use Rattle.sms_world_model.specs.Submission.{Submission, Always, IsDeliverOf}
use Rattle.sms_world_model.specs.Place.{Key, place_in, carried_in}
use Rattle.sms_world_model.specs.World.{Final, Allocation, Down, Frame, Joined, World, IsRecorded, answer, empty, pair_of}
use Rattle.sms_world_model.specs.References.{Ticket, part_allocation}
use Rattle.sms_world_model.specs.WorldStep.{Step, Submit, Offer, Take, Settle, Receipt, Join, data_of, Item, after_item, Run, end}
use Rattle.sms_world_model.specs.Premises.{Timely, Fresh}
use Rattle.sms_base.specs.declared.carried.Kind.TheVariants.{Ack}
use Rattle.sms_world_model.proofs.Keys.{place_known}

abbrev source : Address
source = record { ton = International; npi = 1; digits = 52 ∷ 52 ∷ 55 ∷ 55 ∷ 48 ∷ 48 ∷ 57 ∷ 48 ∷ 48 ∷ 48 ∷ 48 ∷ 49 ∷ [] }

abbrev part : UserData
part = record { length = 7; octets = 5 ∷ 0 ∷ 3 ∷ 42 ∷ 1 ∷ 1 ∷ 97 ∷ [] }

-- ---- its DELIVER

abbrev tpdu : List ℕ
tpdu = 100 ∷ 12 ∷ 145 ∷ 68 ∷ 119 ∷ 0 ∷ 9 ∷ 0 ∷ 16 ∷ 0 ∷ 4 ∷ 66 ∷ 32 ∷ 146 ∷ 50 ∷ 149 ∷ 133 ∷ 0 ∷ 7 ∷ 5 ∷ 0 ∷ 3 ∷ 42 ∷ 1 ∷ 1 ∷ 97 ∷ []

abbrev deliver : DeliverOf
deliver = record {
  no_more_messages_to_send = true;
  loop_prevention = false;
  status_report_indication = true;
  user_data_header_indicator = true;
  reply_path = false;
  originating_address = source;
  protocol_identifier = 0;
  data_coding_scheme = 4;
  service_centre_time_stamp = 1709251198;
  user_data = part;
}

reads : down_at InData tpdu ≡ Ok (Deliver deliver)
unfolding down_at data_down_at deliver_at address_in type_of_number_in characters_in digits_in two_digits_in time_in scts_in clock_in zone_in moment_in days_from_civil day_count days_of_years days_of_months run_in text_in text_test user_data_in
reads = refl

abbrev key : Key
key = record { source = source; reference = EightBit 42; total = 1 }

placed : place_in tpdu ≡ Some (record { key = key; number = 1 })
unfolding header_at elements_behind key_of run_in
placed = place_known tpdu deliver reads ∙ refl

abbrev content : Content
content = record { coding = Octets; dcs = 4; units = 97 ∷ [] }

carried : carried_in tpdu ≡ Some (record { content = content; key = Some (record { reference = EightBit 42; total = 1; number = 1 }) })
unfolding carried_in part_in header_at elements_behind key_of down_at data_down_at deliver_at address_in type_of_number_in characters_in digits_in two_digits_in time_in scts_in clock_in zone_in moment_in days_from_civil day_count days_of_years days_of_months run_in text_in text_test user_data_in
carried = refl

-- ---- the run

abbrev s : Submission
s = record {
  id = 1;
  source = source;
  handset = 52 ∷ 52 ∷ 55 ∷ 55 ∷ 48 ∷ 48 ∷ 57 ∷ 48 ∷ 48 ∷ 52 ∷ 53 ∷ 54 ∷ [];
  protocol_identifier = 0;
  data_coding_scheme = 4;
  reply_path = false;
  user_data_header_indicator = true;
  limit = 1709251199;
  wish = Always;
  by_report = false;
  parts = part ∷ [];
}

abbrev at : Step → Item
at step = record { step = step; moment = 1709251198; stopped = false }

abbrev t : Ticket
t = record { reference = 0; tpdu = tpdu }

abbrev g : Allocation
g = part_allocation s 1709251198 1 t

abbrev w1 : World
w1 = after_item empty (at (Submit s (t ∷ [])))

abbrev u : Frame
u = data_of w1 g Down tpdu

abbrev v : Frame
v = answer u Ack 2

abbrev joined : Joined
joined = record { handset = s.handset; key = key; place = 0; group = pair_of u ∷ []; content = content }

abbrev items : List Item
items = at (Submit s (t ∷ [])) ∷ at (Offer g tpdu) ∷ at (Take u) ∷ at (Settle v g 1 1) ∷ at (Receipt s Delivered) ∷ at (Join joined) ∷ []

is_deliver : IsDeliverOf s part 1709251198 tpdu
is_deliver = record {
  deliver = deliver;
  reads = reads;
  time_stamp = refl;
  source = refl;
  protocol_identifier = refl;
  data_coding_scheme = refl;
  reply_path = refl;
  header_indicator = refl;
  user_data = refl;
}

same : compared tpdu ≡ tpdu
unfolding compared
same = refl

submits : Run empty (at (Submit s (t ∷ [])) ∷ [])
submits = ((tt, omega arith, refl, ((omega arith, (λ x i _ _. i.0), tt), (part, (refl, is_deliver)), tt)), tt)

runs : Run empty items
unfolding compared place_in carried_in part_in header_at elements_behind key_of down_at data_down_at deliver_at address_in type_of_number_in characters_in digits_in two_digits_in time_in scts_in clock_in zone_in moment_in days_from_civil day_count days_of_years days_of_months run_in text_in text_test user_data_in
runs = (
  submits.0,
  (
    ((inl refl, (s, [], (refl, λ i. i))), same),
    (
      ((inl refl, refl, refl), λ i. i),
      (
        ((inl refl, refl, refl), ((inl refl, (s, [], (refl, λ i. i))), refl, refl, refl)),
        (
          ((refl, tt, λ f i. i), λ e. absurd (cc)),
          (
            (inl (refl, refl), tt, refl),
            tt,
          ),
        ),
      ),
    ),
  ),
)

timely : Timely empty items
timely = (tt, (tt, ((g, (inl refl, refl, refl, refl)), ((g, (inl refl, refl, refl, refl)), (tt, (tt, tt))))))

fresh : Fresh empty items
fresh = (((λ k is bad. absurd (cc)), tt), (tt, (tt, (tt, (tt, (tt, tt))))))

delivered : IsRecorded (end empty items).table 1 s (Final Delivered)
delivered = refl

was_reported_once : Among (record { id = 1; state = Delivered }) (end empty items).receipts
was_reported_once = inl refl

was_joined : Among joined (end empty items).joined
was_joined = inl refl
