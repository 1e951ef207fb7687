use Rattle.std.proofs.Common.{◌++◌, ◌∷◌, [], ◌∙◌, List, length, ap, sym, subst, zero-add}
use Rattle.sms_seats.specs.declared.seat.Seat.{Seat}
use Rattle.sms_hub.specs.Running.{SessionThread, AreAt}
use Rattle.sms_seats.specs.Seats.{number_of}
use Rattle.sms_keeper.specs.Seating.{IsSeatOf}
use Rattle.sms_seats.proofs.Places.{length_snoc}
use Rattle.sms_hub.proofs.Sessions.{keeper_more, at_more}
use Rattle.sms_hub.proofs.run.many.open_session.Goals as goal

pub returns-clause-opened : goal.returns-clause-opened
returns-clause-opened g c h = let a = c.args.opened.now.keeper in let b = c.add_seat.new.self in let ts = c.args.opened.now.threads.items in let t = c.in_ok-thread.thread in let k = c.in_ok-seat.ensures in
    let grown = c.push_reserved.ensures.items ∙ ap (λ l. l ++ t ∷ []) c.reserve.ensures.items in
    let P : Seat g.row.J.Denot g.row.O.Denot → Type 0 = λ s. IsSeatOf b s in
    let Q : List (SessionThread g.row.J.Denot g.row.O.Denot) → Type 0 = λ l. AreAt b 0 l in
    let is = c.in_ok-thread.ensures.promise.0 in record {
      keeper = keeper_more a b (length ts) _ k.keeper h.keeper (length_snoc ts t _ grown);
      seats = subst Q (sym grown) (at_more a b 0 ts t k.others h.seats (subst P (sym is) k.seat.seat) (ap number_of is ∙ k.seat.number ∙ h.keeper.seats ∙ sym (zero-add _)));
    }
