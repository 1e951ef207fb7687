-- What the centre in the middle of an event says of the world. Each field looks rows up in the world, or the world's lists in rows.
use Rattle.std.specs.Prelude.{◌≡◌, ℕ, Option}
use Rattle.sms_centre_spec.specs.Draft.{Draft, Store, handsets_in, messages_in, parts_in, references_in, reports_in}
use Rattle.sms_centre_rows.specs.declared.messages.message.MessageRow.{MessageRow}
use Rattle.sms_world_model.specs.LastAllocations.{LastAllocations, RefinesAllocations}
use Rattle.sms_world_model.specs.World.{World}
use Rattle.sms_world.specs.centres_refine_the_world.FramesOut.{AreWholeDown, stacked_down}
use Rattle.sms_world.specs.centres_refine_the_world.RefinesGiven.{RefinesHolders, seconds_by}
use Rattle.sms_world.specs.centres_refine_the_world.RefinesLinks.{RefinesLinks}
use Rattle.sms_world.specs.headline.SeenWorld.{PartSeen, RefinesTable, messages_by, parts_by}
use Rattle.sms_world.specs.centres_refine_the_world.RefinesReports.{ReportSeen, RefinesReports, reports_by}

-- rows, by what the world knows of them
pub record RefinesRows (ms : ℕ → Option MessageRow) (ps : ℕ → ℕ → Option PartSeen) (rs : ℕ → Option ReportSeen) (latest : LastAllocations) (now : ℕ)
    (w : World) : Type 0 where
  pub table : RefinesTable ms ps w.table
  pub reports : RefinesReports rs w.receipts w.reports
  pub holders : RefinesHolders ms ps rs w.down
  pub seconds : RefinesAllocations latest w.down now

abbrev pub StoreRefines : Store → World → Type 0
StoreRefines s w =
    RefinesRows (messages_by (messages_in s)) (parts_by (parts_in s)) (reports_by (reports_in s)) (seconds_by (handsets_in s) (references_in s)) s.moment w

abbrev pub RowsSee : Draft → World → Type 0
RowsSee d w = StoreRefines d.store w

-- The draft shows the world, which its event began with `before`: its frames are sent on top of the bag.
pub record CentreRefines (before : World) (d : Draft) (w : World) : Type 0 where
  pub frames : w.bag ≡ stacked_down d.links.frames before.bag
  pub whole : AreWholeDown d.links.frames
  pub links : RefinesLinks w.bag d.links.all
  pub rows : RowsSee d w
