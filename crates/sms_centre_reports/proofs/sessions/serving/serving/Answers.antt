use Rattle.std.proofs.Common.{◌≡◌, ℕ, ◌+◌, List, ◌∷◌, Option, suc, add-one, sym, ◌∙◌, ap, drop, drop-cons}
use Rattle.std.specs.Option.{option_map}
use Rattle.sms_centre_rows.specs.reports.Receipts.{Session}
use Rattle.sms_centre_reports.specs.declared.sessions.serving.Candidate.{Candidate}
use Rattle.sms_centre_reports.specs.open_reports.Serving.{serving}
use Rattle.sms_centre_reports.specs.sessions.SessionReceipts.{fewer}
use Rattle.sms_centre_reports.proofs.sessions.Candidates.{all_seen, best_on, number_of, serves_as}
use Rattle.sms_centre_reports.proofs.sessions.serving.serving.Goals as goal

pub loop-seat-preserved : goal.loop-seat-preserved
loop-seat-preserved c =
    let rest : drop c.loop-seat.seat-index c.args.seats.now ≡ c.seat-item.result ∷ drop (c.loop-seat.seat-index + 1) c.args.seats.now =
    drop-cons c.args.seats.now c.loop-seat.seat-index c.seat-item.result c.loop-seat-test.true
    ∙ ap (λ (s : Session). s ∷ drop (suc c.loop-seat.seat-index) c.args.seats.now) (sym c.seat-item.is)
    ∙ ap (λ (n : ℕ). c.seat-item.result ∷ drop n c.args.seats.now) (sym (add-one c.loop-seat.seat-index)) in
    best_on c.args.account.now c.loop-seat.best c.fewer-best.result c.seat-item.result (drop (c.loop-seat.seat-index + 1) c.args.seats.now)
    (c.fewer-best.ensures ∙ ap (λ (o : Option Candidate). fewer c.loop-seat.best o) c.seated_for-one.ensures)
    ∙ ap (λ (ss : List Session). fewer c.loop-seat.best (serves_as c.args.account.now ss)) (sym rest)
    ∙ c.loop-seat.invariant

pub returns-in-Some : goal.returns-in-Some
returns-in-Some c =
    ap (λ (o : Option Candidate). option_map (λ (x : Candidate). x.number) o)
    (sym c.in-Some.is
    ∙ all_seen c.args.account.now c.args.seats.now c.loop-seat.seat-index c.loop-seat.best c.loop-seat-test.false c.loop-seat.invariant)
    ∙ number_of (serving c.args.account.now c.args.seats.now)

pub returns-in-None : goal.returns-in-None
returns-in-None c =
    ap (λ (o : Option Candidate). option_map (λ (x : Candidate). x.number) o)
    (sym c.in-None.is
    ∙ all_seen c.args.account.now c.args.seats.now c.loop-seat.seat-index c.loop-seat.best c.loop-seat-test.false c.loop-seat.invariant)
    ∙ number_of (serving c.args.account.now c.args.seats.now)
