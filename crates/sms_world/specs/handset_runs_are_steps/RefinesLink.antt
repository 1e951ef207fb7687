-- What the end of a link may send again was sent.
use Rattle.std.specs.Prelude.{◌≡◌, ℕ, ◌<◌, List, Option, Some, None}
use Rattle.sms_base.specs.Among.{Among}
use Rattle.sms_control.specs.declared.link_state.Answer.{Answer}
use Rattle.sms_control.specs.declared.link_state.Begun.{Begun}
use Rattle.sms_control.specs.declared.link_state.LinkState.{LinkState}
use Rattle.sms_control.specs.declared.link_state.Opened.{Opened}
use Rattle.sms_control.specs.declared.transaction.TransactionFlag.{TransactionFlag}
use Rattle.sms_control.specs.declared.transaction.TransactionFlag.TheVariants.{FromOriginator, ToOriginator}
use Rattle.sms_base.specs.declared.carried.Carried.{Carried}
use Rattle.sms_world_model.specs.World.{Sent as Sent_frame}
use Rattle.sms_world.specs.frames_pass_between_sides.FramesUp.{CarriesUp, flag_for}
use Rattle.sms_world.specs.headline.SeenFrames.{sent_as}

-- the frame carries that, is in such a transaction, and was sent
abbrev pub WasSent : List ℕ → List Sent_frame → TransactionFlag → List ℕ → Carried → Type 0
WasSent handset bag flag octets c =
    CarriesUp octets c × (flag_for c.kind ≡ flag) × ((number : ℕ) × Among (sent_as handset number octets (Some c)) bag)

-- the answer in the transaction that the other side opened, and what this side began
abbrev pub RefinesAnswer : List ℕ → List Sent_frame → Option Carried → Option Answer → Type 0
RefinesAnswer handset bag answered None = Unit {0}
RefinesAnswer handset bag answered (Some a) = (c : Carried) × ((answered ≡ Some c) × WasSent handset bag ToOriginator a.frame c)

abbrev pub RefinesOpened : List ℕ → List Sent_frame → Option Carried → Option Opened → Type 0
RefinesOpened handset bag answered None = Unit {0}
RefinesOpened handset bag answered (Some o) = (o.identifier < 7) × RefinesAnswer handset bag answered o.answer

abbrev pub RefinesBegun : List ℕ → List Sent_frame → Option Carried → Option Begun → Type 0
RefinesBegun handset bag under_way None = Unit {0}
RefinesBegun handset bag under_way (Some b) = (c : Carried) × ((under_way ≡ Some c) × WasSent handset bag FromOriginator b.frame c)

pub record RefinesLinks (handset : List ℕ) (bag : List Sent_frame) (links : LinkState) (under_way answered : Option Carried) : Type 0 where
  pub next : links.next_identifier < 7
  pub opened : RefinesOpened handset bag answered links.opened
  pub begun : RefinesBegun handset bag under_way links.begun
