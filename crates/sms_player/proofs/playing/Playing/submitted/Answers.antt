use Rattle.std.proofs.Common.{◌∙◌, ap, List, ℕ, refl}
use Rattle.sms_centre_spec.specs.declared.event.CentreEvent.TheVariants.{Submit as CentreSubmit}
use Rattle.sms_play.specs.Meeting.{AtCentre, account_from}
use Rattle.sms_script.specs.Requests.{submit_of}
use Rattle.sms_player.specs.playing.Playing.{acted, met_as}
use Rattle.sms_player.proofs.playing.Outcomes.{at_account, no_account, or_none}
use Rattle.sms_script.specs.declared.event.Act.TheVariants.{Submit}
use Rattle.sms_player.proofs.playing.Playing.submitted.Goals as goal

pub returns-in-Some : goal.returns-in-Some
returns-in-Some c = λ play shown.
    let act = Submit c.args.submission.now in
    or_none c.submit.result c.or_no_memory.result c.args.event c.submit.new.self (met_as c.args.stop c.args.event act (AtCentre (CentreSubmit c.in-Some.account (submit_of c.args.submission.now))) play) (acted c.args.stop c.args.event act play)
    c.or_no_memory.ensures
    (at_account c.args.stop c.args.event act c.args.submission.now.name (λ place. CentreSubmit place (submit_of c.args.submission.now)) play refl c.in-Some.account c.args.self.now.centre.rows shown.centre.same_rows
    (c.in-Some.ensures ∙ ap (λ (name : List ℕ). account_from 0 name c.args.self.now.centre.rows.setup.accounts) c.as_slice.ensures))
    (c.submit.ensures play shown)

pub returns-in-None : goal.returns-in-None
returns-in-None c = λ play shown.
    no_account c.args.stop c.args.event (Submit c.args.submission.now) c.args.submission.now.name (λ place. CentreSubmit place (submit_of c.args.submission.now)) play refl c.args.self.now c.args.self.now.centre.rows shown.centre.same_rows
    (c.in-None.ensures ∙ ap (λ (name : List ℕ). account_from 0 name c.args.self.now.centre.rows.setup.accounts) c.as_slice.ensures)
