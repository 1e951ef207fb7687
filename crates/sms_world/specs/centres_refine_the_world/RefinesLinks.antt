-- What the centre's ends of the links may send again was sent.
use Rattle.std.specs.Prelude.{◌≡◌, ℕ, ◌<◌, List, Option, Some, None}
use Rattle.sms_base.specs.Among.{Among}
use Rattle.sms_base.specs.declared.carried.Carried.{Carried}
use Rattle.sms_base.specs.declared.holder.Holder.{Holder}
use Rattle.sms_base.specs.declared.holder.Holder.TheVariants.{Part, Report, Entry, Memory}
use Rattle.sms_control.specs.declared.link_state.Answer.{Answer}
use Rattle.sms_control.specs.declared.link_state.Begun.{Begun}
use Rattle.sms_control.specs.declared.link_state.Opened.{Opened}
use Rattle.sms_control.specs.declared.transaction.TransactionFlag.{TransactionFlag}
use Rattle.sms_control.specs.declared.transaction.TransactionFlag.TheVariants.{FromOriginator, ToOriginator}
use Rattle.sms_world.specs.frames_pass_between_sides.Between.{CarriesDown}
use Rattle.sms_world.specs.frames_pass_between_sides.FramesUp.{flag_for}
use Rattle.sms_centre_rows.specs.declared.waiting.handset_link.HandsetLink.{HandsetLink}
use Rattle.sms_world_model.specs.World.{Sent}
use Rattle.sms_world.specs.headline.SeenFrames.{sent_down}

abbrev pub WasSentDown : List ℕ → List Sent → TransactionFlag → List ℕ → Carried → Type 0
WasSentDown handset bag flag octets c =
    CarriesDown octets c × (flag_for c.kind ≡ flag) × ((number : ℕ) × Among (sent_down handset number octets (Some c)) bag)

abbrev pub RefinesAnswerDown : List ℕ → List Sent → Option Carried → Option Answer → Type 0
RefinesAnswerDown handset bag answered None = Unit {0}
RefinesAnswerDown handset bag answered (Some a) = (c : Carried) × ((answered ≡ Some c) × WasSentDown handset bag ToOriginator a.frame c)

abbrev pub RefinesOpenedDown : List ℕ → List Sent → Option Carried → Option Opened → Type 0
RefinesOpenedDown handset bag answered None = Unit {0}
RefinesOpenedDown handset bag answered (Some o) = (o.identifier < 7) × RefinesAnswerDown handset bag answered o.answer

-- the number of a part is an octet
abbrev pub IsNumbered : Holder → Type 0
IsNumbered (Part id number) = number < 256
IsNumbered (Report id) = Unit {0}
IsNumbered (Entry n) = Unit {0}
IsNumbered (Memory n) = Unit {0}

abbrev pub RefinesBegunDown : List ℕ → List Sent → Option Carried → Option Begun → Type 0
RefinesBegunDown handset bag under_way None = Unit {0}
RefinesBegunDown handset bag under_way (Some b) = (c : Carried) × ((under_way ≡ Some c) × WasSentDown handset bag FromOriginator b.frame c × IsNumbered c.tag)

pub record RefinesLink (bag : List Sent) (link : HandsetLink) : Type 0 where
  pub next : link.near_end.links.next_identifier < 7
  pub opened : RefinesOpenedDown link.handset bag link.near_end.answered link.near_end.links.opened
  pub begun : RefinesBegunDown link.handset bag link.near_end.under_way link.near_end.links.begun

abbrev pub RefinesLinks : List Sent → List HandsetLink → Type 0
RefinesLinks bag links = (link : HandsetLink) → Among link links → RefinesLink bag link
