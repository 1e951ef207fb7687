-- The claims of every script.
use Rattle.std.proofs.Common.{◌+◌, List, length, ◌∙◌, ap, subst, Some}
use Rattle.sms_base.specs.Among.{Among}
use Rattle.sms_base.specs.declared.final_state.FinalState.{FinalState}
use Rattle.sms_centre_rows.specs.messages.Messages.{message_key}
use Rattle.sms_script.specs.declared.event.WorldEvent.{WorldEvent}
use Rattle.sms_script.specs.declared.script.Script.{Script}
use Rattle.sms_rows.proofs.table.Tables.{found_among}
use Rattle.sms_play.specs.CentreSide.{state_of}
use Rattle.sms_play.specs.PlayState.{PlayState}
use Rattle.sms_play.specs.Setups.{beginning}
use Rattle.sms_world_model.specs.Agreement.{FinalForGood, HeldDiffer as WorldHeldDiffer}
use Rattle.sms_world_model.specs.WorldStep.{end}
use Rattle.sms_world_model.specs.World.{World, empty}
use Rattle.sms_world_model.proofs.Runs.{final_stays, held_differ, sound_empty, sound_run}
use Rattle.sms_world_model.proofs.Scripts.{script_steps}
use Rattle.sms_world.specs.scripts_are_runs.PlayRuns.{happenings}
use Rattle.sms_world.specs.scripts_are_runs.PlayRefinement.{PlayRefines}
use Rattle.sms_world.proofs.scripts_are_runs.Runs.{run_leads}
use Rattle.sms_world.specs.headline.Claims.{AllTimely, DeliveredOnce, AllFresh}
use Rattle.sms_world.specs.headline.HeadlineLaws.{DeliveredLaw, FinalLaw, GivenLaw, HeldLaw, IsScript, JoinedLaw, JoinedOnceLaw, JoinedWholeLaw, LeadsOn, LineLaw, OnceLaw, ReceiptLaw, RunLaw, SentLaw, ReportedLaw}
use Rattle.sms_world.proofs.headline.GivenRows.{given_once}
use Rattle.sms_world.proofs.headline.HeldApart.{held_apart}
use Rattle.sms_world.proofs.headline.ReceiptLines.{from_report, receipts_once}
use Rattle.sms_world.proofs.headline.FreshClaims.{joined_whole, IsMatchedWhole, TimelyAndFresh, matches_first, matches_kept}
use Rattle.sms_world.proofs.headline.JoinedClaims.{joined_of_parts, joined_once}
use Rattle.sms_world.proofs.headline.SentClaims.{sent_submitted, IsToldUp, told_up_first, told_up_kept}
use Rattle.sms_world.proofs.headline.TimelyClaims.{delivered_once, IsTrusted, trusted_first, trusted_kept}
use Rattle.sms_world.proofs.headline.Tables.{line_of, line_stays, line_there, one_line}
use Rattle.sms_world.proofs.headline.ScriptCourses.{claimed, course_of}

pub run_is : RunLaw
run_is script some others c d is on =
    let k = course_of script some others c d is on in
    let y = run_leads (1 + length some) others c d k.world k.refines k.then_good k.then_octets k.then_leads in
    (k.world, y.0, (k.plays, k.refines, y.1.0, y.1.1))

pub final_is : FinalLaw
final_is script some others c d is on m state i e =
    let x = run_is script some others c d is on in
    let k : PlayRefines c x.0 = x.2.1 in
    let l : PlayRefines d x.1 = x.2.3 in
    let z = script_steps x.0 x.1 (happenings (1 + length some) others c) x.2.2 in
    let good : FinalForGood x.0 x.1 = subst (λ (v : World). FinalForGood x.0 v) z.1.1 (final_stays x.0 z.0 z.1.0) in
    line_stays c.centre d.centre x.0 x.1 k.sound l.sound k.centre l.centre good m state i e

pub lines_are : LineLaw
lines_are script some others c d is on a b i j e =
    let k = course_of script some others c d is on in one_line a b c.centre.rows.messages k.refines.sound.rows.messages.message_keys i j e

pub receipts_are : ReceiptLaw
receipts_are script some others c d is on r i =
    let f = from_report r c.centre.rows.messages c.centre.rows.reports i in (
      line_of f.message,
      (line_there f.message c.centre.rows.messages (found_among message_key f.report.id f.message c.centre.rows.messages f.found), f.id, ap state_of f.state),
    )

pub once_is : OnceLaw
once_is script some others c d is on =
    let k = course_of script some others c d is on in
    receipts_once c.centre.rows.messages c.centre.rows.reports k.refines.sound.rows.reports.keys k.refines.sound.rows.reports.once

pub held_is : HeldLaw
held_is script some others c d is on =
    let k = course_of script some others c d is on in
    let z = script_steps empty k.world (happenings 1 some (beginning script.setup)) k.plays in
    let differ : WorldHeldDiffer k.world = subst (λ (v : World). WorldHeldDiffer v) z.1.1 (held_differ (end empty z.0) (sound_run empty z.0 sound_empty z.1.0)) in
    held_apart c.centre k.world k.refines.sound k.refines.centre differ

pub given_is : GivenLaw
given_is script some others c d is on =
    let k = course_of script some others c d is on in given_once c k.world k.refines

pub joined_is : JoinedLaw
joined_is script some others c d is on =
    let k = course_of script some others c d is on in joined_of_parts c k.world k.refines

-- while frames are timely, the course sees a world where what counts as delivered was accepted
pub reaches : (script : Script) (some others : List WorldEvent) (c d : PlayState) → IsScript script some others → LeadsOn script some c d → AllTimely 1 some (beginning script.setup) → (v : World) × (PlayRefines c v × IsTrusted c v)
reaches script some others c d is on timely = claimed AllTimely IsTrusted trusted_kept script some others c d is on timely (trusted_first script.setup)

pub delivered_is : DeliveredLaw
delivered_is script some others c d is on timely =
    let r = reaches script some others c d is on timely in delivered_once c r.0 r.1.0 r.1.1.faithful r.1.1.takers

pub joined_once_is : JoinedOnceLaw
joined_once_is script some others c d is on timely =
    let r = reaches script some others c d is on timely in joined_once c r.0 r.1.0 r.1.1.faithful

pub told_is : ReportedLaw
told_is script some others c d is on timely x i e =
    let f = from_report x c.centre.rows.messages c.centre.rows.reports i in
    let among : Among f.message c.centre.rows.messages = found_among message_key f.report.id f.message c.centre.rows.messages f.found in
    let once : DeliveredOnce c = delivered_is script some others c d is on timely in
    (f.message, (among, f.id, λ p j of. once f.message p among (f.state ∙ ap (λ (z : FinalState). Some z) e) j of))

-- while references are fresh, too, one where each ended group is a round
pub matches : (script : Script) (some others : List WorldEvent) (c d : PlayState) → IsScript script some others → LeadsOn script some c d → AllTimely 1 some (beginning script.setup)
    → AllFresh 1 some (beginning script.setup) → (v : World) × (PlayRefines c v × IsMatchedWhole c v)
matches script some others c d is on timely fresh =
    claimed TimelyAndFresh IsMatchedWhole matches_kept script some others c d is on (timely, fresh) (matches_first script.setup)

pub joined_whole_is : JoinedWholeLaw
joined_whole_is script some others c d is on timely fresh =
    let r = matches script some others c d is on timely fresh in joined_whole c r.0 r.1.0 r.1.1

-- while frames are timely, one where what counts as sent has its message
pub sent_is : SentLaw
sent_is script some others c d is on timely =
    let r = claimed AllTimely IsToldUp told_up_kept script some others c d is on timely (told_up_first script.setup) in sent_submitted c r.0 r.1.0 r.1.1.up
