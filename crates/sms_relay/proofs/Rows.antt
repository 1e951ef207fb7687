-- The definitions computed on whole frames.
use Rattle.std.proofs.Common.{◌≡◌, ℕ, List, [], ◌∷◌, Ok, Err, Some, None, refl}
use Rattle.sms_relay.specs.declared.cause.RpCause.TheVariants.{ShortMessageTransferRejected}
use Rattle.sms_relay.specs.declared.fault.RelayFault.TheVariants.{Truncated, Trailing, Unknown, BadLength}
use Rattle.sms_relay.specs.declared.frame.Rp.TheVariants.{DataUnit, ErrorUnit, Smma}
use Rattle.sms_relay.specs.Cause.{cause_of}
use Rattle.sms_relay.specs.MessageType.{type_of}
use Rattle.sms_relay.specs.RelayGrammar.{ack_down, error_down}
use Rattle.sms_relay.specs.RelayReading.{up_at, down_at, unit_at, unit_in, data_in, ack_in, error_in, smma_in, centre_in, nobody_in, addresses_in, tpdu_in, user_data_in, cause_in}
use Rattle.sms_base.specs.Reading.{run_in}

abbrev centre : List ℕ
centre = 0x91 ∷ 0x44 ∷ 0x77 ∷ 0x00 ∷ 0x09 ∷ 0x00 ∷ 0x00 ∷ []

abbrev report : List ℕ
report = 0x01 ∷ 0x00 ∷ 0x42 ∷ 0x20 ∷ 0x92 ∷ 0x32 ∷ 0x95 ∷ 0x85 ∷ 0x00 ∷ []

short_data : up_at (0 ∷ 3 ∷ 0 ∷ 7 ∷ 0x91 ∷ 0x44 ∷ 0x77 ∷ 0x00 ∷ 0x09 ∷ 0x00 ∷ 0x00 ∷ 2 ∷ 1 ∷ 7 ∷ []) ≡ Ok (DataUnit 3 centre (1 ∷ 7 ∷ []))
unfolding up_at unit_at unit_in type_of data_in addresses_in nobody_in centre_in tpdu_in run_in
short_data = refl

cut_data : up_at (0 ∷ 3 ∷ 0 ∷ 7 ∷ 0x91 ∷ 0x44 ∷ []) ≡ Err Truncated
unfolding up_at unit_at unit_in type_of data_in addresses_in nobody_in centre_in tpdu_in run_in
cut_data = refl

long_centre : up_at (0 ∷ 3 ∷ 0 ∷ 12 ∷ []) ≡ Err BadLength
unfolding up_at unit_at unit_in type_of data_in addresses_in nobody_in centre_in tpdu_in run_in
long_centre = refl

ack_list : ack_down 3 (Some report) ≡ 3 ∷ 3 ∷ 0x41 ∷ 9 ∷ 0x01 ∷ 0x00 ∷ 0x42 ∷ 0x20 ∷ 0x92 ∷ 0x32 ∷ 0x95 ∷ 0x85 ∷ 0x00 ∷ []
ack_list = refl

error_list : error_down 3 ShortMessageTransferRejected (Some (1 ∷ 0xC6 ∷ [])) ≡ 5 ∷ 3 ∷ 1 ∷ 0x15 ∷ 0x41 ∷ 2 ∷ 0x01 ∷ 0xC6 ∷ []
error_list = refl

error_read : down_at (5 ∷ 3 ∷ 1 ∷ 0x15 ∷ []) ≡ Ok (ErrorUnit 3 ShortMessageTransferRejected None)
unfolding down_at unit_at unit_in type_of error_in cause_in cause_of user_data_in
error_read = refl

smma_read : up_at (6 ∷ 5 ∷ []) ≡ Ok (Smma 5)
unfolding up_at unit_at unit_in type_of smma_in
smma_read = refl

smma_down : down_at (6 ∷ 5 ∷ []) ≡ Err Unknown
unfolding down_at unit_at unit_in type_of
smma_down = refl

unknown : up_at (7 ∷ []) ≡ Err Unknown
unfolding up_at unit_at unit_in type_of
unknown = refl

alone : up_at (0 ∷ []) ≡ Err Truncated
unfolding up_at unit_at unit_in type_of data_in addresses_in
alone = refl

high_cause : up_at (4 ∷ 1 ∷ 1 ∷ 0x80 ∷ []) ≡ Err BadLength
unfolding up_at unit_at unit_in type_of error_in cause_in
high_cause = refl

high_cause_first : up_at (4 ∷ 1 ∷ 2 ∷ 0x80 ∷ []) ≡ Err BadLength
unfolding up_at unit_at unit_in type_of error_in cause_in
high_cause_first = refl

other_element : up_at (2 ∷ 3 ∷ 0x40 ∷ 0 ∷ []) ≡ Err Trailing
unfolding up_at unit_at unit_in type_of ack_in user_data_in
other_element = refl
