use Rattle.sms_seats.proofs.Places.{ok_map}
use Rattle.smsc_server.proofs.serving.run.start_all.Goals as goal

pub returns-clause-seats : goal.returns-clause-seats
returns-clause-seats g c = ok_map c.start_entrance.result _ _ (λ x h. (c.in_ok-giver.giver, c.in_ok-giver.ensures, h.1)) c.start_entrance.ensures
