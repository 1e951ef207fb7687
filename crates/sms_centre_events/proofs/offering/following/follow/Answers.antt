use Rattle.sms_centre_spec.specs.CentreEvent.{follow}
use Rattle.sms_centre_spec.specs.Sessions.{send}
use Rattle.sms_centre_draft.specs.CentreDraft.{Represents}
use Rattle.sms_centre_events.proofs.offering.OneOffer.{short_off}
use Rattle.sms_centre_events.proofs.offering.following.follow.Goals as goal

pub returns-in-Ok-clause-outcome : goal.returns-in-Ok-clause-outcome
returns-in-Ok-clause-outcome g c = λ d rows represents can honest holds. c.offer.ensures.outcome (send d) rows (c.in-Ok.ensures d represents) can honest holds

pub returns-in-Err-clause-outcome : goal.returns-in-Err-clause-outcome
returns-in-Err-clause-outcome g c = λ d rows represents can honest holds.
    short_off (λ (u : Unit {0}). Represents (send d) c.send_receipts.new.draft) (λ (u : Unit {0}). Represents (follow d) c.send_receipts.new.draft) (follow d).links.read
    ((g.B.RowStore.state c.args.bodies.now).holds rows) (g.B.RowStore.state c.args.bodies.now).is_closed (g.B.RowStore.state c.args.bodies.now).refusals c.in-Err.error (c.in-Err.ensures d represents) holds
