-- A small script that is played to the end, and its report. Reports, events and premises that differ from it.
use Rattle.std.specs.Prelude.{◌≡◌, ◌↔◌, List, [], ◌∷◌, Some, None, true, false, Ok}
use Rattle.sms_alphabet.specs.declared.scheme.Coding.TheVariants.{Octets, Septets}
use Rattle.sms_base.specs.HandsetNumber.{own_address}
use Rattle.sms_base.specs.declared.carried.Kind.TheVariants.{Ack, Data}
use Rattle.sms_base.specs.declared.final_state.FinalState.TheVariants.{Delivered}
use Rattle.sms_base.specs.declared.holder.Holder.TheVariants.{Part}
use Rattle.sms_base.specs.declared.originator.Originator.TheVariants.{Application, Handset}
use Rattle.sms_base.specs.declared.wish.Wish.TheVariants.{Always, Nothing}
use Rattle.sms_concat.specs.declared.content.Content.{Content}
use Rattle.sms_intake.specs.declared.submission.Submission.{Submission as SubmissionTaken}
use Rattle.sms_intake.specs.declared.submission.Text.TheVariants.{Whole as WholeText}
use Rattle.sms_play.specs.PlayState.{PlayState}
use Rattle.sms_play.specs.PlayedEvent.{played}
use Rattle.sms_play.specs.Premises.{is_fresh_event, is_timely_event}
use Rattle.sms_play.specs.Setups.{beginning}
use Rattle.sms_script.specs.declared.event.Act.TheVariants.{Deliver}
use Rattle.sms_script.specs.declared.event.WorldEvent.{WorldEvent}
use Rattle.sms_script.specs.declared.event.WorldEvent.TheVariants.{Whole}
use Rattle.sms_script.specs.declared.report.Report.{Report}
use Rattle.sms_centre_rows.specs.declared.report_lines.MessageState.TheVariants.{Enroute, Final}
use Rattle.sms_script.specs.declared.report.rows.Direction.TheVariants.{Down, Up}
use Rattle.sms_script.specs.declared.report.rows.FrameRow.{FrameRow}
use Rattle.sms_world.specs.headline.Claims.{AllFresh, AllTimely}
use Rattle.sms_world.specs.headline.Headline.{Headline}
use Rattle.sms_world.specs.headline.OneRun.{AreFreshThere, IsTimelyThere}
use Rattle.sms_world.specs.headline.Origins.{IsSubmitted}
use Rattle.sms_world.specs.headline.SplitClaims.{IsSplitOf}
use Rattle.sms_world.specs.wrong_plays.Happened.{queries}
use Rattle.sms_world.specs.wrong_plays.Plays.{first, from_application, part_one}
use Rattle.sms_world.specs.wrong_plays.Shown.{submission}
use Rattle.sms_world.specs.wrong_reports.Literals.{accepted, answer, deliver, given, handset, hello, hello_octets, line, name, receipt, setup, source, submits}
use Rattle.sms_world.specs.wrong_reports.Literals.{writer, zeros}
use Rattle.sms_world.specs.wrong_reports.Worlds.{first_given, first_of_two}
use Rattle.sms_world_model.specs.World.{empty}
use Rattle.sms_world_model.specs.WorldStep.{Step, Submit as SubmitStep}

-- ---- an application submits `hello`; the DELIVER is handed over, and then its RP-ACK

abbrev pub plays : List WorldEvent
plays = submits ∷ Whole (Deliver 1) ∷ Whole (Deliver 3) ∷ []

-- CP-DATA with RP-DATA, CP-ACK, CP-DATA with RP-ACK, CP-ACK (3GPP TS 24.011 7.2, 7.3)
abbrev pub frames : List FrameRow
frames =
    record {
      number = 1;
      direction = Down;
      handset = handset;
      carried = Some (record { kind = Data; reference = 0; tag = Part 1 1 });
      octets = 9 ∷ 1 ∷ 29 ∷ 1 ∷ 0 ∷ 2 ∷ 145 ∷ 241 ∷ 0 ∷ 22 ∷ deliver hello_octets;
    }
    ∷ record { number = 2; direction = Up; handset = handset; carried = None; octets = 137 ∷ 4 ∷ [] }
    ∷ record {
      number = 3;
      direction = Up;
      handset = handset;
      carried = Some (record { kind = Ack; reference = 0; tag = Part 1 1 });
      octets = 137 ∷ 1 ∷ 6 ∷ 2 ∷ 0 ∷ 65 ∷ 2 ∷ 0 ∷ 0 ∷ [];
    }
    ∷ record { number = 4; direction = Down; handset = handset; carried = None; octets = 9 ∷ 4 ∷ [] }
    ∷ []

abbrev pub report : Report
report = record {
  answers = answer ∷ [];
  table = line (Final Delivered) ∷ [];
  accepted = accepted hello_octets ∷ [];
  joined = [];
  receipts = receipt ∷ [];
  outboxes = [];
  given = given ∷ [];
  bag = frames;
}

-- its report has the headline, and its events keep both premises
abbrev pub RightReportLaw : Type 0
RightReportLaw = Headline setup plays report

abbrev pub RightTimelyLaw : Type 0
RightTimelyLaw = AllTimely 1 plays (beginning setup)

abbrev pub RightFreshLaw : Type 0
RightFreshLaw = AllFresh 1 plays (beginning setup)

-- the same with another state of the message, and without its receipt
abbrev pub OtherReportLaw : Type 0
OtherReportLaw = ¬ Headline setup plays (record report { table = line Enroute ∷ [] })

abbrev pub NoReceiptLaw : Type 0
NoReceiptLaw = ¬ Headline setup plays (record report { receipts = [] })

-- ---- a query_sm that is not answered

abbrev pub NotAnsweredLaw : Type 0
NotAnsweredLaw = ¬ (played 1 queries (beginning setup) ≡ Ok (beginning setup))

-- ---- premises

-- the frame was made for message 1, and its reference was given to message 2 since
abbrev pub late : PlayState
late = record (beginning setup) {
  given = given ∷ record given { holder = Part 2 1 } ∷ [];
  bag = record {
    number = 1;
    direction = Down;
    handset = handset;
    carried = Some (record { kind = Data; reference = 0; tag = Part 1 1 });
    octets = 9 ∷ 1 ∷ 29 ∷ 1 ∷ 0 ∷ 2 ∷ 145 ∷ 241 ∷ 0 ∷ 22 ∷ deliver hello_octets;
  }
      ∷ [];
}

abbrev pub LateFrameLaw : Type 0
LateFrameLaw = ¬ AllTimely 1 (Whole (Deliver 1) ∷ []) late

-- where the world has no such frame, they do not agree
abbrev pub LateAloneLaw : Type 0
LateAloneLaw = ¬ ((is_timely_event (Whole (Deliver 1)) late ≡ true) ↔ IsTimelyThere (Whole (Deliver 1)) late empty)

-- a first part is submitted again, before its handset has accepted any part of the text
abbrev pub again : Step
again = SubmitStep submission (record { reference = 1; tpdu = first_of_two } ∷ [])

-- what gives no reference is decided to be fresh, and that step is not
abbrev pub StaleAloneLaw : Type 0
StaleAloneLaw =
    ¬ ((is_fresh_event first first ≡ true) ↔ AreFreshThere submits first (record empty { down = first_given ∷ [] }) (again ∷ []))

-- ---- what was submitted

abbrev pub content : Content
content = record { coding = Septets; dcs = 0; units = hello }

abbrev pub taken : SubmissionTaken
taken = record {
  originator = Application name;
  source = own_address source;
  handset = handset;
  protocol_identifier = 0;
  reply_path = false;
  wish = Always;
  rejects_duplicates = false;
  limit = 946771200;
  due = 0;
  priority = 0;
  text = WholeText content;
}

abbrev pub OtherOriginatorLaw : Type 0
OtherOriginatorLaw = ¬ IsSubmitted taken (record from_application { originator = Handset 7 }) (part_one ∷ [])

abbrev pub OtherSourceLaw : Type 0
OtherSourceLaw = ¬ IsSubmitted taken (record from_application { source = own_address writer }) (part_one ∷ [])

abbrev pub OtherHandsetLaw : Type 0
OtherHandsetLaw = ¬ IsSubmitted taken (record from_application { handset = writer }) (part_one ∷ [])

abbrev pub OtherProtocolLaw : Type 0
OtherProtocolLaw = ¬ IsSubmitted taken (record from_application { protocol_identifier = 1 }) (part_one ∷ [])

abbrev pub OtherWishLaw : Type 0
OtherWishLaw = ¬ IsSubmitted taken (record from_application { wish = Nothing }) (part_one ∷ [])

abbrev pub OtherLimitLaw : Type 0
OtherLimitLaw = ¬ IsSubmitted taken (record from_application { limit = 946771201 }) (part_one ∷ [])

-- it fits one part, and has a reference as a split one has
abbrev pub OtherSplitLaw : Type 0
OtherSplitLaw = ¬ IsSubmitted taken (record from_application { split_reference = Some 7 }) (part_one ∷ [])

abbrev pub LostPartLaw : Type 0
LostPartLaw = ¬ IsSubmitted taken from_application []

abbrev pub OnePartMoreLaw : Type 0
OnePartMoreLaw = ¬ IsSubmitted taken from_application (part_one ∷ record part_one { number = 2 } ∷ [])

-- ---- a text that is split

-- one part holds it
abbrev pub ShortLaw : Type 0
ShortLaw = ¬ IsSplitOf from_application content 7 (part_one ∷ [])

abbrev pub long_content : Content
long_content = record { coding = Octets; dcs = 4; units = zeros 141 }

-- none of its parts is there
abbrev pub LostTextLaw : Type 0
LostTextLaw = ¬ IsSplitOf from_application long_content 7 []
