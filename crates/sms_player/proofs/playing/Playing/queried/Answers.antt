use Rattle.std.proofs.Common.{refl, subst}
use Rattle.std.specs.Prelude.{OnOk}
use Rattle.smpp_pdu.specs.declared.query.QuerySm.{QuerySm}
use Rattle.sms_centre_spec.specs.declared.event.CentreEvent.TheVariants.{Query as CentreQuery}
use Rattle.sms_play.specs.Meeting.{AtCentre}
use Rattle.sms_script.specs.Requests.{query_of}
use Rattle.sms_player.specs.playing.Plays.{Represents}
use Rattle.sms_player.specs.playing.Playing.{acted, met_as}
use Rattle.sms_player.proofs.playing.Outcomes.{at_account, no_account, or_none}
use Rattle.sms_script.specs.declared.event.Act.TheVariants.{Query}
use Rattle.sms_player.proofs.playing.Playing.queried.Goals as goal

pub returns-in-Some : goal.returns-in-Some
returns-in-Some c = λ play shown.
    let act = Query c.args.name.now c.args.id.now in
    or_none c.at_centre.result c.or_no_memory.result c.args.event c.at_centre.new.self (met_as c.args.stop c.args.event act (AtCentre (CentreQuery c.in-Some.account (query_of c.args.id.now))) play) (acted c.args.stop c.args.event act play)
    c.or_no_memory.ensures
    (at_account c.args.stop c.args.event act c.args.name.now (λ place. CentreQuery place (query_of c.args.id.now)) play refl c.in-Some.account c.args.self.now.centre.rows shown.centre.same_rows c.in-Some.ensures)
    (subst (λ (x : QuerySm). OnOk c.at_centre.result (Represents (met_as c.args.stop c.args.event act (AtCentre (CentreQuery c.in-Some.account x)) play) c.at_centre.new.self)) c.query_of-query.ensures (c.at_centre.ensures play act shown refl))

pub returns-in-None : goal.returns-in-None
returns-in-None c = λ play shown.
    no_account c.args.stop c.args.event (Query c.args.name.now c.args.id.now) c.args.name.now (λ place. CentreQuery place (query_of c.args.id.now)) play refl c.args.self.now c.args.self.now.centre.rows shown.centre.same_rows c.in-None.ensures
