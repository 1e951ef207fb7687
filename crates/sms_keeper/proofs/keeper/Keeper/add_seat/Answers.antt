use Rattle.std.proofs.Common.{◌∙◌}
use Rattle.sms_seats.specs.Queues.{HasOneMore}
use Rattle.sms_seats.proofs.Places.{ok_map}
use Rattle.sms_keeper.proofs.keeper.Keeper.add_seat.Goals as goal

pub returns-clause-keeper : goal.returns-clause-keeper
returns-clause-keeper g c = ok_map c.add_seat.result (λ s. HasOneMore c.args.self.now.queues c.add_seat.new.self) _
    (λ s more new. record { seats = more.seats; ran = more.ran ∙ new.ran; given = λ n. more.given n ∙ new.given n; last = new.last }) c.add_seat.ensures.more
