use Rattle.std.proofs.Common.{ℕ, List, false, refl, sym, subst}
use Rattle.sms_centre_spec.specs.SoundRows.{all_for}
use Rattle.sms_centre.specs.state.CentreState.{Represents, CentreStateOf}
use Rattle.sms_centre.proofs.state.Begun.{begun_represents}
use Rattle.sms_centre.proofs.state.centre_state.CentreState.start_again.Goals as goal

pub returns-clause-centre_state : goal.returns-clause-centre_state
returns-clause-centre_state c = λ core centre_state at.
    let s = c.self.inside in
    let old : CentreStateOf = record { setup = s.setup; moment = s.moment; messages = s.messages; reference_index = s.reference_index; queues = s.queues; reports = s.reports; log = s.log; sessions = s.sessions } in
    let was : Represents core old = subst (λ (x : CentreStateOf). Represents core x) (sym c.self.view_is) centre_state in
    begun_represents false core.rows c.args.handsets.now c.args.sessions.rows was.centre.sound.rows c.are_numbers.ensures c.requires.apart c.requires.sessions c.as_slice-seats.ensures.order
    (record old { moment = c.args.moment; queues = c.renew.new.queues; sessions = c.args.sessions })
    was.centre.setup_is at was.centre.messages_are was.reference_index
    (c.in_ok-renew.ensures.consistent core.rows.handsets core.rows.references core.links (λ (n : List ℕ). all_for n core.rows) was.centre.queues_are)
    was.centre.reports_are was.log refl
