use Rattle.std.proofs.Common.{ap, subst, sym, ◌∙◌, ◌≡◌, ◌∷◌, ◌+◌, List, ℕ, suc, add-one, drop, drop-cons}
use Rattle.sms_centre_reports.proofs.open_reports.ReceiptsMoved.{IsPuttingOff, puts_all, puts_one}
use Rattle.std.proofs.lemmas.List.{drop_all}
use Rattle.sms_centre_reports.proofs.open_reports.draft.OpenReportsDraft.put_off_receipts.Goals as goal

pub loop-id-preserved : goal.loop-id-preserved
loop-id-preserved c = λ ms t tells awaited.
    let rest : drop c.loop-id.id-index c.args.ids.now ≡ c.id-item.result ∷ drop (c.loop-id.id-index + 1) c.args.ids.now =
    drop-cons c.args.ids.now c.loop-id.id-index c.id-item.result c.loop-id-test.true
    ∙ ap (λ (n : ℕ). n ∷ drop (suc c.loop-id.id-index) c.args.ids.now) (sym c.id-item.is)
    ∙ ap (λ (n : ℕ). c.id-item.result ∷ drop n c.args.ids.now) (sym (add-one c.loop-id.id-index)) in
    puts_one ms c.args.now c.args.account.now c.id-item.result (drop (c.loop-id.id-index + 1) c.args.ids.now) c.args.ids.now c.loop-id.self c.end_receipt.new.self t
    (subst (λ (ids : List ℕ). IsPuttingOff ms c.args.now c.args.account.now ids c.args.ids.now c.loop-id.self t) rest (c.loop-id.invariant ms t tells awaited))
    (λ u tu here. c.in_ok-end_receipt.ensures ms u tu here)

pub returns : goal.returns
returns c = λ ms t tells awaited.
    puts_all ms c.args.now c.args.account.now c.args.ids.now c.loop-id.self t
    (subst (λ (ids : List ℕ). IsPuttingOff ms c.args.now c.args.account.now ids c.args.ids.now c.loop-id.self t) (drop_all c.loop-id.id-index c.args.ids.now c.loop-id-test.false) (c.loop-id.invariant ms t tells awaited))
