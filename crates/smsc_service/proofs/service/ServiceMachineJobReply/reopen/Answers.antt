use Rattle.std.proofs.Common.{◌∙◌, ap, subst, sym}
use Rattle.smsc_service.specs.declared.seat_map.SeatMap.{SeatMap}
use Rattle.smsc_service.specs.Seats.{seats_in}
use Rattle.smsc_service.proofs.Archived.{AreHad}
use Rattle.smsc_service.proofs.service.ServiceMachineJobReply.reopen.Goals as goal

pub returns-in-Ok-clause-ok : goal.returns-in-Ok-clause-ok
returns-in-Ok-clause-ok g c = λ honest s waiting.
    let has : AreHad (g.A.Archive.keeps c.restart.new.self.errands.archive) s.gone = λ x k.
    subst (λ (a : g.row.A.Denot). g.A.Archive.keeps a x.message x.parts) (sym (c.in-Ok.ensures.archive ∙ c.tell.ensures.archive)) (waiting.1 x k) in
    let kept = c.in-Ok.ensures.keep ∙ c.tell.ensures.keep ∙ waiting.2 in
    let before = waiting.0 in
    let there = c.in-Ok.ensures.served s.serving honest
    (record { waiting = before.waiting; accounts = record { come = before.accounts.come; count = before.accounts.count } }) in
    record { standing = record { made = there.made; sound = there.sound; seats = there.seats; again = there.again; accounts = record { come = there.accounts.come; count = there.accounts.count } }; archived = has; left = has; kept = (kept, kept) }

pub returns-in-Err-clause-fails : goal.returns-in-Err-clause-fails
returns-in-Err-clause-fails g c = λ honest s waiting.
    let has : AreHad (g.A.Archive.keeps c.restart.new.self.errands.archive) s.gone = λ x k.
    subst (λ (a : g.row.A.Denot). g.A.Archive.keeps a x.message x.parts) (sym (c.in-Err.ensures.archive ∙ c.tell.ensures.archive)) (waiting.1 x k) in
    (ap (λ (m : SeatMap). seats_in m) c.in-Err.ensures.resumed ∙ waiting.0.waiting.seats, has, c.in-Err.ensures.keep ∙ c.tell.ensures.keep ∙ waiting.2)
