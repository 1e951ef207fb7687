-- A question and the answer to a receipt are no step, since all that could go was offered.
use Rattle.std.proofs.Common.{◌≡◌, ℕ, Bool, sym, subst, Option, Some, None}
use Rattle.smpp_pdu.specs.declared.query.QuerySm.{QuerySm}
use Rattle.sms_intake.specs.declared.submission.CentreAccount.{CentreAccount}
use Rattle.sms_centre_rows.specs.declared.messages.message.MessageRow.{MessageRow}
use Rattle.sms_centre_rows.specs.reports.Receipts.{session_key}
use Rattle.sms_rows.specs.table.Table.{row_at}
use Rattle.sms_centre_rows.specs.waiting.Links.{Links}
use Rattle.sms_centre_spec.specs.CentreEvent.{happened}
use Rattle.sms_centre_spec.specs.Draft.{Core, Draft, draft_of}
use Rattle.sms_centre_spec.specs.Requests.{account_at, queried, query_by}
use Rattle.sms_centre_spec.specs.SoundCore.{IsSoundCore}
use Rattle.sms_centre_spec.specs.declared.event.CentreEvent.TheVariants.{DeliverAnswered, Query}
use Rattle.sms_world.specs.centre_runs_are_steps.Offered.{HasOffered}
use Rattle.sms_world.proofs.centre_runs_are_steps.NothingOffered.{answered_nothing, query_nothing, receipt_there}
use Rattle.sms_world_model.specs.World.{World}
use Rattle.sms_world.specs.centres_refine_the_world.CentreRefinement.{CentreRefines, StoreRefines}
use Rattle.sms_world.specs.centres_refine_the_world.FramesOut.{AreWholeDown, stacked_down}
use Rattle.sms_world.specs.centres_refine_the_world.RefinesLinks.{RefinesLinks}
use Rattle.sms_world.proofs.centres_refine_the_world.SessionsChange.{answered_refines}
use Rattle.sms_world.proofs.centres_refine_the_world.QuietEvents.{start}

-- nothing was sent, and the links are as they were
same_links : (x d : Draft) (w : World) → x.links ≡ d.links → CentreRefines w d w → StoreRefines x.store w → CentreRefines w x w
same_links x d w e s rows = record {
  frames = subst (λ (a : Links). w.bag ≡ stacked_down a.frames w.bag) (sym e) s.frames;
  whole = subst (λ (a : Links). AreWholeDown a.frames) (sym e) s.whole;
  links = subst (λ (a : Links). RefinesLinks w.bag a.all) (sym e) s.links;
  rows = rows;
}

queried_rows : (m : Option MessageRow) (d : Draft) (w : World) → StoreRefines d.store w → StoreRefines (queried m d).store w
queried_rows None d w k = k
queried_rows (Some m) d w k = k

query_rows : (a : Option CentreAccount) (q : QuerySm) (d : Draft) (w : World) → StoreRefines d.store w → StoreRefines (query_by a q d).store w
query_rows None q d w k = k
query_rows (Some a) q d w k = queried_rows _ d w k

pub query_still : (account : ℕ) (wanted : QuerySm) (c : Core) (w : World) → HasOffered c → CentreRefines w (draft_of c) w → CentreRefines w (happened (Query account wanted) c) w
query_still account wanted c w k s =
    same_links (happened (Query account wanted) c) (draft_of c) w (query_nothing account wanted c k) s (query_rows (account_at account c.rows.setup.accounts) wanted (draft_of c) w s.rows)

pub answered_still : (session id : ℕ) (is_accepted : Bool) (c : Core) (w : World) → IsSoundCore c → HasOffered c → CentreRefines w (draft_of c) w → CentreRefines w (happened (DeliverAnswered session id is_accepted) c) w
answered_still session id is_accepted c w sound k s =
    let d : Draft = draft_of c in
    let x = answered_refines w id is_accepted (row_at session_key session d.bindings.sessions) d w (λ y e n i r q. receipt_there c y session sound e n i r q) (start c sound) s in
    same_links (happened (DeliverAnswered session id is_accepted) c) d w (answered_nothing session id is_accepted c sound k) s x.rows
