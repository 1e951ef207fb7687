-- A SUBMIT that a handset sent, and messages that are not from it. Texts that are another part's, or nobody's.
use Rattle.std.specs.Prelude.{ℕ, List, [], ◌∷◌, Some}
use Rattle.sms_base.specs.HandsetNumber.{own_address}
use Rattle.sms_base.specs.declared.carried.Kind.TheVariants.{Data}
use Rattle.sms_base.specs.declared.holder.Holder.TheVariants.{Entry}
use Rattle.sms_base.specs.declared.originator.Originator.TheVariants.{Handset}
use Rattle.sms_base.specs.declared.wish.Wish.TheVariants.{Nothing}
use Rattle.sms_centre_rows.specs.declared.messages.message.MessageRow.{MessageRow}
use Rattle.sms_centre_rows.specs.declared.messages.part.PartRow.{PartRow}
use Rattle.sms_play.specs.PlayState.{PlayState}
use Rattle.sms_script.specs.declared.report.Report.{Report}
use Rattle.sms_script.specs.declared.report.rows.Direction.TheVariants.{Up}
use Rattle.sms_script.specs.declared.report.rows.FrameRow.{FrameRow}
use Rattle.sms_world.specs.headline.Claims.{HaveNoneInCommon, SentSubmitted}
use Rattle.sms_world.specs.headline.Origins.{IsOfHandset, IsSubmitted}
use Rattle.sms_world.specs.headline.OwnerClaims.{OwnersAreSent}
use Rattle.sms_world.specs.headline.SeenPlay.{SeenWorld}
use Rattle.sms_world.specs.wrong_plays.Played.{taken}
use Rattle.sms_world.specs.wrong_plays.Plays.{first, from_application, from_writer, part_one, part_two, sent, setup, writers_submit}
use Rattle.sms_world.specs.wrong_reports.Literals.{deliver, handset, nothing, other_octets, source, writer}
use Rattle.sms_world_model.specs.World.{Accepted, empty}

-- ---- a message from a handset

-- CP-DATA with RP-DATA to the centre (3GPP TS 24.011 7.2.1, 7.3.1.2)
abbrev pub frame_up : FrameRow
frame_up = record {
  number = 1;
  direction = Up;
  handset = writer;
  carried = Some (record { kind = Data; reference = 0; tag = Entry 1 });
  octets = 9 ∷ 1 ∷ 25 ∷ 0 ∷ 0 ∷ 0 ∷ 2 ∷ 145 ∷ 241 ∷ 18 ∷ writers_submit;
}

abbrev pub sent_up : PlayState
sent_up = record first { bag = frame_up ∷ [] }

abbrev pub from_up : MessageRow
from_up = record from_writer { id = 1 }

abbrev pub part_up : PartRow
part_up = record part_two { id = 1 }

-- a DELIVER from the writer with another text
abbrev pub other_deliver : List ℕ
other_deliver = 36 ∷ 11 ∷ 145 ∷ 68 ∷ 119 ∷ 0 ∷ 9 ∷ 16 ∷ 242 ∷ 0 ∷ 0 ∷ 0 ∷ 16 ∷ 16 ∷ 0 ∷ 0 ∷ 0 ∷ 0 ∷ 5 ∷ other_octets

abbrev pub RightLaw : Type 0
RightLaw = IsOfHandset 1 sent_up from_up (part_up ∷ [])

abbrev pub NextLaw : Type 0
NextLaw = ¬ IsOfHandset 1 sent_up from_writer (part_two ∷ [])

-- no frame of that number was sent
abbrev pub FrameLaw : Type 0
FrameLaw = ¬ IsOfHandset 2 sent_up from_up (part_up ∷ [])

-- it keeps another TP-MR than the SUBMIT has
abbrev pub ReferenceLaw : Type 0
ReferenceLaw = ¬ IsOfHandset 1 sent_up (record from_up { originator = Handset 8 }) (part_up ∷ [])

abbrev pub SourceLaw : Type 0
SourceLaw = ¬ IsOfHandset 1 sent_up (record from_up { source = own_address source }) (part_up ∷ [])

abbrev pub WishLaw : Type 0
WishLaw = ¬ IsOfHandset 1 sent_up (record from_up { wish = Nothing }) (part_up ∷ [])

abbrev pub HandsetLaw : Type 0
HandsetLaw = ¬ IsOfHandset 1 sent_up (record from_up { handset = writer }) (part_up ∷ [])

abbrev pub AloneLaw : Type 0
AloneLaw = ¬ IsOfHandset 1 sent_up from_up (part_up ∷ record part_up { number = 2 } ∷ [])

abbrev pub TextLaw : Type 0
TextLaw = ¬ IsOfHandset 1 sent_up from_up (record part_up { tpdu = other_deliver } ∷ [])

-- ---- an entry that counts as sent

-- its message is from another handset
abbrev pub SentByOtherLaw : Type 0
SentByOtherLaw = ¬ SentSubmitted (sent (record from_writer { source = own_address handset } ∷ []) (part_two ∷ []))

-- its message has another text
abbrev pub SentOtherTextLaw : Type 0
SentOtherTextLaw = ¬ SentSubmitted (sent (from_writer ∷ []) (record part_two { tpdu = other_deliver } ∷ []))

-- ---- an application's message with another text than it submitted

abbrev pub SubmittedTextLaw : Type 0
SubmittedTextLaw = ¬ IsSubmitted taken from_application (record part_one { tpdu = deliver other_octets } ∷ [])

-- ---- what nobody accepted, joined twice or wrote

-- someone accepts who is no handset of the script
abbrev pub TakersLaw : Type 0
TakersLaw = ¬ SeenWorld first (record empty { accepted = record { handset = source; reference = 0; tpdu = [] } ∷ [] })

-- one part is in two joined texts
abbrev pub CommonLaw : Type 0
CommonLaw = (x : Accepted) → ¬ HaveNoneInCommon ((x ∷ []) ∷ (x ∷ []) ∷ [])

-- a SUBMIT leaves for an entry, and no event wrote a text
abbrev pub OwnersLaw : Type 0
OwnersLaw = (after : ℕ → Report) → ¬ OwnersAreSent (record { setup = setup; events = [] }) after (record nothing { bag = frame_up ∷ [] })
