-- A text of 141 octets in two parts under the reference 7, and what is not that text. A row that says another thing than its part.
use Rattle.std.specs.Prelude.{ℕ, List, [], ◌∷◌, Some}
use Rattle.sms_alphabet.specs.declared.concat_key.ConcatReference.TheVariants.{SixteenBit}
use Rattle.sms_base.specs.HandsetNumber.{own_address}
use Rattle.sms_centre_rows.specs.declared.messages.message.MessageRow.{MessageRow}
use Rattle.sms_centre_rows.specs.declared.messages.part.PartRow.{PartRow}
use Rattle.sms_play.specs.PlayState.{PlayState}
use Rattle.sms_world.specs.headline.Claims.{DeliveredOnce, IsWholeIn, pair_in_row}
use Rattle.sms_world.specs.headline.Origins.{IsOfHandset}
use Rattle.sms_world.specs.headline.SplitClaims.{IsSplitOf, SaysSplit}
use Rattle.sms_world.specs.wrong_plays.Played.{long_content}
use Rattle.sms_world.specs.wrong_plays.Plays.{from_application, part_one, party, with_rows, writers_core}
use Rattle.sms_world.specs.wrong_plays.SentUp.{from_up, part_up, sent_up}
use Rattle.sms_world.specs.wrong_reports.Literals.{accepted, given, handset, hello_octets, joined_row, long_accepted, writer, zeros}

-- ---- the text in its parts

abbrev pub split_message : MessageRow
split_message = record from_application { data_coding_scheme = 4; split_reference = Some 7 }

-- 8-bit data behind a header of the 16-bit reference 7 (3GPP TS 23.040 9.2.3.24.8)
abbrev pub split_part : ℕ → ℕ → ℕ → PartRow
split_part number size length = record part_one {
  number = number;
  reference = number;
  tpdu = (long_accepted 0 number size length).tpdu;
  key = Some (record { reference = SixteenBit 7; total = 2; number = number });
}

abbrev pub split_one : PartRow
split_one = split_part 1 133 140

abbrev pub split_two : PartRow
split_two = split_part 2 8 15

abbrev pub split_parts : List PartRow
split_parts = split_one ∷ split_two ∷ []

abbrev pub RightSplitLaw : Type 0
RightSplitLaw = IsSplitOf split_message long_content 7 split_parts

-- the text has another first octet
abbrev pub OtherContentLaw : Type 0
OtherContentLaw = ¬ IsSplitOf split_message (record long_content { units = 1 ∷ zeros 140 }) 7 split_parts

-- a part more, without a place in the text
abbrev pub NoPlaceLaw : Type 0
NoPlaceLaw = ¬ IsSplitOf split_message long_content 7 (split_one ∷ split_two ∷ record part_one { number = 3 } ∷ [])

-- ---- what was joined of it

-- other words
abbrev pub OtherWordsLaw : Type 0
OtherWordsLaw =
    ¬ SaysSplit (with_rows (split_message ∷ []) split_parts []) (party handset [] writers_core) joined_row (pair_in_row split_message split_one ∷ [])

-- beside a part of another message
abbrev pub second : MessageRow
second = record from_application { id = 2 }

abbrev pub stray : PartRow
stray = record part_one { id = 2; reference = 3 }

abbrev pub MixedRoundLaw : Type 0
MixedRoundLaw =
    ¬ IsWholeIn (with_rows (split_message ∷ second ∷ []) (split_one ∷ split_two ∷ stray ∷ []) []) split_message
    (pair_in_row split_message split_one ∷ pair_in_row second stray ∷ [])

-- ---- rows that say another thing than their parts

abbrev pub odd : MessageRow
odd = record from_application { protocol_identifier = 1 }

-- its part was accepted once, and has TP-PID 0
abbrev pub delivered_odd : PlayState
delivered_odd = record (with_rows (odd ∷ []) (part_one ∷ []) []) {
  parties = party handset (accepted hello_octets ∷ []) writers_core ∷ [];
  given = given ∷ [];
}

abbrev pub OtherRowLaw : Type 0
OtherRowLaw = ¬ DeliveredOnce delivered_odd

-- its source has the handset's digits, and is of no numbering plan
abbrev pub OtherPlanLaw : Type 0
OtherPlanLaw = ¬ IsOfHandset 1 sent_up (record from_up { source = record (own_address writer) { npi = 0 } }) (part_up ∷ [])
