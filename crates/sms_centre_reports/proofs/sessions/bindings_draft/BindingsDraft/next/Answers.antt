use Rattle.std.proofs.Common.{◌≡◌, ◌≤◌, ◌+◌, ℕ, List, ◌∷◌, suc, add-one, subst, sym, ◌∙◌, ap, drop, drop-cons}
use Rattle.std.proofs.lemmas.List.{drop_all}
use Rattle.std.specs.Prelude.{IfSome, Option}
use Rattle.std.specs.Option.{option_map}
use Rattle.sms_centre_rows.specs.reports.Receipts.{Bindings, Session}
use Rattle.sms_centre_reports.specs.open_reports.Serving.{next_among, next_from, next_in}
use Rattle.sms_centre_reports.specs.declared.sessions.sending.ReceiptToSend.{ReceiptToSend}
use Rattle.sms_centre_reports.specs.sessions.SessionReceipts.{earlier_to_send, receipt_to_send}
use Rattle.sms_centre_reports.proofs.sessions.Earliest.{best_on, both_behind, or_none}
use Rattle.sms_centre_reports.proofs.sessions.bindings_draft.BindingsDraft.next.Goals as goal

pub loop-seat-preserved : goal.loop-seat-preserved
loop-seat-preserved c =
    let rest : drop c.loop-seat.seat-index c.as_slice-seats.result.now ≡ c.seat-item.result ∷ drop (c.loop-seat.seat-index + 1) c.as_slice-seats.result.now =
    drop-cons c.as_slice-seats.result.now c.loop-seat.seat-index c.seat-item.result c.loop-seat-test.true
    ∙ ap (λ (s : Session). s ∷ drop (suc c.loop-seat.seat-index) c.as_slice-seats.result.now) (sym c.seat-item.is)
    ∙ ap (λ (n : ℕ). c.seat-item.result ∷ drop n c.as_slice-seats.result.now) (sym (add-one c.loop-seat.seat-index)) in
    record {
      behind = subst (λ (o : Option ReceiptToSend). IfSome o (λ (g : ReceiptToSend). c.args.first ≤ g.receipt.place)) (sym c.earlier-best.ensures)
          (both_behind c.args.first c.loop-seat.best c.in_ok-going.going c.loop-seat.invariant.behind c.in_ok-going.ensures.behind);
      next = λ ms t tells.
          best_on c.loop-seat.best c.in_ok-going.going c.earlier-best.result
          (next_from c.seat-item.result (next_in c.args.first c.args.now c.args.self.now.sessions c.args.reports.now.current.accounts c.seat-item.result))
          (next_among c.args.first c.args.now c.args.self.now.sessions c.args.reports.now.current.accounts (drop (c.loop-seat.seat-index + 1) c.as_slice-seats.result.now))
          c.earlier-best.ensures (c.in_ok-going.ensures.next ms t tells)
          ∙ ap (λ (ss : List Session). earlier_to_send c.loop-seat.best (option_map receipt_to_send (next_among c.args.first c.args.now c.args.self.now.sessions c.args.reports.now.current.accounts ss))) (sym rest)
          ∙ c.loop-seat.invariant.next ms t tells;
    }

pub returns-clause-next : goal.returns-clause-next
returns-clause-next c = λ ms t tells.
    sym (or_none c.loop-seat.best)
    ∙ ap (λ (ss : List Session). earlier_to_send c.loop-seat.best (option_map receipt_to_send (next_among c.args.first c.args.now c.args.self.now.sessions c.args.reports.now.current.accounts ss)))
    (sym (drop_all c.loop-seat.seat-index c.as_slice-seats.result.now c.loop-seat-test.false))
    ∙ c.loop-seat.invariant.next ms t tells
    ∙ ap (λ (ss : List Session). option_map receipt_to_send (next_among c.args.first c.args.now c.args.self.now.sessions c.args.reports.now.current.accounts ss))
    (c.as_slice-seats.ensures.rows ∙ ap (λ (d : Bindings). d.sessions) c.self.view_is)
