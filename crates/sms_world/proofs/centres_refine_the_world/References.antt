-- The references of a centre between two events are those of the world.
use Rattle.sms_centre_spec.proofs.SoundStores.{SoundStore}
use Rattle.sms_centre_spec.specs.Draft.{Store, draft_of, messages_in, parts_in}
use Rattle.sms_world_model.specs.World.{World}
use Rattle.sms_world.specs.centres_refine_the_world.CentreLaws.{NextReferenceLaw, NoReferenceLaw}
use Rattle.sms_world.specs.centres_refine_the_world.CentreRefinement.{StoreRefines}
use Rattle.sms_world.specs.headline.SeenWorld.{messages_by, parts_by}
use Rattle.sms_world.proofs.centres_refine_the_world.Allocations.{RefinesStates, can_give, cannot_give}
use Rattle.sms_world.proofs.centres_refine_the_world.QuietEvents.{start}

pub states_of : (s : Store) (w : World) → StoreRefines s w → RefinesStates (messages_by (messages_in s)) (parts_by (parts_in s)) w.table
states_of s w refines id m e = let x = refines.table.there id m e in (x.0, x.1, (x.2.0, x.2.2))

pub next_law : NextReferenceLaw
next_law number reference c w sound s e =
    let store : Store = (draft_of c).store in
    let k : SoundStore store = start c sound in
    can_give store w k.consistent.held s.rows.holders (states_of store w s.rows) s.rows.reports number reference s.rows.seconds e

pub none_law : NoReferenceLaw
none_law number c w sound s e = cannot_give (draft_of c).store w (start c sound) s.rows number e
