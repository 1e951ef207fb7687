-- The rows of an event of the centre record what its steps gave.
use Rattle.std.specs.Prelude.{◌≡◌, ◌⊎◌, ℕ, List, [], ◌∷◌, ◌++◌, Bool}
use Rattle.sms_script.specs.declared.report.rows.GivenRow.{GivenRow}
use Rattle.sms_centre_spec.specs.CentreEvent.{happened}
use Rattle.sms_centre_spec.specs.Draft.{Core, rows_of}
use Rattle.sms_centre_spec.specs.SoundCore.{IsEvent, IsSoundCore}
use Rattle.sms_centre_spec.specs.declared.event.CentreEvent.{CentreEvent}
use Rattle.sms_centre_spec.specs.declared.rows.Rows.{Rows}
use Rattle.sms_play.specs.CentreSide.{given_by}
use Rattle.sms_world_model.specs.WorldStep.{Item, Run, end, Receive, Step, Submit}
use Rattle.sms_world_model.specs.ScriptRun.{items}
use Rattle.sms_world_model.specs.World.{World, empty}
use Rattle.sms_world.specs.centres_refine_the_world.RefinesGiven.{RefinesHolders}
use Rattle.sms_world.specs.headline.SeenWorld.{messages_by, parts_by, AgreesDown}
use Rattle.sms_world.specs.centres_refine_the_world.RefinesReports.{reports_by}

-- the rows show to whom the centre gave references
abbrev pub HoldersSee : Rows → World → Type 0
HoldersSee rows w = RefinesHolders (messages_by rows.messages) (parts_by rows.parts) (reports_by rows.reports) w.down

-- a run led there from the empty world
abbrev pub IsReached : World → Type 0
IsReached w = (is : List Item) × (Run empty is × (end empty is ≡ w))

-- ---- submissions among steps

-- the step takes a submission
abbrev pub Submits : Step → Type 0
Submits (Submit s tickets) = Unit {0}
Submits (Receive u s tickets) = Unit {0}
Submits _ = ⊥

abbrev pub NoneSubmits : List Step → Type 0
NoneSubmits [] = Unit {0}
NoneSubmits (s ∷ ss) = ¬ Submits s × NoneSubmits ss

-- one of them at most
abbrev pub OneSubmits : List Step → Type 0
OneSubmits [] = Unit {0}
OneSubmits (s ∷ ss) = NoneSubmits ss ⊎ (¬ Submits s × OneSubmits ss)

abbrev pub AgreementLaw : Type 0
AgreementLaw =
    (event : CentreEvent) (c : Core) (w : World) (m : ℕ) (b : Bool) (steps : List Step) (given : List GivenRow) → IsSoundCore c → IsEvent event
    → (happened event c).store.moment ≡ m → OneSubmits steps → IsReached w → Run w (items m b steps)
    → HoldersSee c.rows w → HoldersSee (rows_of (happened event c).store) (end w (items m b steps)) → AgreesDown given w.down
    → AgreesDown (given ++ given_by (happened event c)) (end w (items m b steps)).down
