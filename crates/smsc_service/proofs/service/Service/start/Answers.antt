use Rattle.std.proofs.Common.{List, length, ◌∙◌, ap, subst, sym}
use Rattle.sms_centre.specs.state.CentreState.{Represents, CentreStateOf}
use Rattle.sms_centre_group.specs.Grouping.{held_in, store_of}
use Rattle.sms_centre_group.specs.declared.group_keep.GroupKeep.{GroupKeep}
use Rattle.sms_intake.specs.declared.submission.CentreAccount.{CentreAccount}
use Rattle.smsc_service.specs.Accounts.{bare}
use Rattle.smsc_service.specs.declared.seat_map.SeatMap.{SeatMap}
use Rattle.smsc_service.specs.Seats.{Seats, nobody, seats_in}
use Rattle.smsc_service.specs.Serving.{restarted}
use Rattle.smsc_service.proofs.AccountsCome.{accounts_are}
use Rattle.smsc_service.proofs.Standing.{stands_on}
use Rattle.smsc_service.proofs.service.Service.start.Goals as goal

pub returns-clause-served : goal.returns-clause-served
returns-clause-served g c = λ rows is honest holds.
    let state = g.K.RowStore.state in
    let started = c.in_ok-centre.ensures in
    let there = started.outcome rows is (subst (λ (k : GroupKeep g.row.K.Denot). (state (store_of k)).is_honest) c.of.ensures.keep honest)
    (subst (λ (k : g.row.K.Denot). (state k).holds (bare rows)) (sym c.over-group.ensures.store) holds) in
    let made : Represents (restarted rows nobody).core c.in_ok-centre.centre =
    subst (λ (q : Seats). Represents (restarted rows q).core c.in_ok-centre.centre) c.in-Ok.ensures.first there.0 in
    stands_on state c.of.result (restarted rows nobody)
    (ap (λ (k : GroupKeep g.row.K.Denot). held_in k) c.of.ensures.keep ∙ started.held)
    (subst (λ (k : GroupKeep g.row.K.Denot). (state (store_of k)).holds (bare rows)) (sym c.of.ensures.keep) there.1)
    (subst (λ (x : CentreStateOf). Represents (restarted rows nobody).core x) (sym c.of.ensures.centre) made)
    (ap (λ (m : SeatMap). seats_in m) c.of.ensures.seat_map ∙ c.in-Ok.ensures.first)
    (ap (λ (m : SeatMap). seats_in m) c.of.ensures.resumed ∙ c.in-Ok.ensures.second)
    (c.of.ensures.accounts ∙ c.account_count-count.ensures
    ∙ ap (λ (l : List CentreAccount). length l) (accounts_are (restarted rows nobody).core c.in_ok-centre.centre made))

pub returns-clause-before : goal.returns-clause-before
returns-clause-before g c = λ honest. subst (λ (k : g.row.K.Denot). (g.K.RowStore.state k).is_honest) c.over-group.ensures.store
    (c.in_ok-centre.ensures.before (subst (λ (k : GroupKeep g.row.K.Denot). (g.K.RowStore.state (store_of k)).is_honest) c.of.ensures.keep honest))

pub returns-clause-errands : goal.returns-clause-errands
returns-clause-errands g c = c.of.ensures.errands
