use Rattle.std.proofs.Common.{◌≡◌, subst, ◌∙◌}
use Rattle.std.proofs.lemmas.Result.{on_ok_weaker}
use Rattle.std.specs.Prelude.{OnOk}
use Rattle.smsc_endpoint.specs.EsmeView.{EsmeView}
use Rattle.smsc_endpoint.specs.EsmeCalls.{answered_next, answered_one}
use Rattle.smsc_endpoint.proofs.Throttling.{next_answered}
use Rattle.smsc_endpoint.proofs.esme.Esme.answer_next.Goals as goal

pub returns : goal.returns
returns c =
    let i = c.self.inside in
    let e : EsmeView = record {
      session = i.session;
      account = i.account;
      waiting = i.waiting.items;
      with_keeper = i.with_keeper;
      receipts = i.receipts.items;
      outbox = i.outbox;
      notes = i.notes.items;
      counts = i.counts;
      time = i.time;
      wrong_binds = i.wrong_binds;
      held = i.held;
    } in
    let left = c.pop_front.new.self.items in
    subst (λ (v : EsmeView). OnOk c.answer_one.result (c.answer_one.new.self ≡ answered_next c.args.answer v)) c.self.view_is
    (on_ok_weaker c.answer_one.result
    (λ (is : c.answer_one.new.self ≡ answered_one c.in-Some.request left c.args.answer (record e { waiting = left })).
    is ∙ next_answered e c.in-Some.request left c.args.answer c.in-Some.ensures.items)
    c.answer_one.ensures)
