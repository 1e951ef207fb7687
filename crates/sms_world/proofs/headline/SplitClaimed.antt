-- The claims of messages that the centre split, of every script.
use Rattle.std.proofs.Common.{◌+◌, List, length}
use Rattle.sms_script.specs.declared.event.WorldEvent.{WorldEvent}
use Rattle.sms_script.specs.declared.script.Script.{Script}
use Rattle.sms_play.specs.PlayState.{PlayState}
use Rattle.sms_play.specs.Setups.{beginning}
use Rattle.sms_world_model.specs.World.{empty}
use Rattle.sms_world.specs.headline.SplitClaims.{AllSplitUnder}
use Rattle.sms_world.proofs.split_messages_stay.SplitEvents.{splits_hold}
use Rattle.sms_world.proofs.split_messages_stay.SplitTexts.{IsSplitAs, split_lasts}
use Rattle.sms_world.proofs.split_messages_stay.KeptMessages.{IsSaid, said_on}
use Rattle.sms_world.specs.headline.HeadlineLaws.{IsScript, LeadsOn, SplitJoinedLaw, SplitLongLaw, SplitStaysLaw}
use Rattle.sms_world.proofs.headline.Claimed.{matches}
use Rattle.sms_world.proofs.headline.FreshClaims.{joined_whole}
use Rattle.sms_world.proofs.headline.SplitPlays.{all_preserved}
use Rattle.sms_world.proofs.headline.SplitJoins.{split_long, splits_joined}
use Rattle.sms_world.proofs.headline.ScriptCourses.{course_of}

-- each message that was split is whole, whatever a script plays
pub all_split : (script : Script) (some others : List WorldEvent) (c d : PlayState) → IsScript script some others → LeadsOn script some c d → AllSplitUnder c.centre.rows.messages c.centre.rows.parts
all_split script some others c d is on =
    let k = course_of script some others c d is on in
    all_preserved AllSplitUnder splits_hold 1 some (beginning script.setup) c empty k.start (λ m r i e. absurd i) k.good k.octets k.leads

pub split_long_is : SplitLongLaw
split_long_is script some others c d is on m reference i e =
    let k = course_of script some others c d is on in
    let x = all_split script some others c d is on m reference i e in
    (x.0, split_long c k.world k.refines m reference x.0 x.1)

-- ---- it stays

pub split_stays_is : SplitStaysLaw
split_stays_is script some others c d is on m content reference at split =
    let k = course_of script some others c d is on in
    all_preserved (IsSaid m.id (IsSplitAs content reference)) (said_on m.id (IsSplitAs content reference) (split_lasts content reference)) (1 + length some) others c d k.world k.refines (m, (at, split)) k.then_good k.then_octets k.then_leads

-- ---- what handsets join

pub split_joined_is : SplitJoinedLaw
split_joined_is script some others c d is on timely fresh =
    let r = matches script some others c d is on timely fresh in
    splits_joined c r.0 r.1.0 (joined_whole c r.0 r.1.0 r.1.1)
