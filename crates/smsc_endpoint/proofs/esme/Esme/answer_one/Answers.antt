use Rattle.std.proofs.Common.{◌≡◌, ◌∙◌}
use Rattle.std.proofs.lemmas.Result.{on_ok_weaker}
use Rattle.smsc_endpoint.specs.EsmeView.{EsmeView}
use Rattle.smsc_endpoint.specs.EsmeCalls.{responding}
use Rattle.smsc_endpoint.proofs.Throttling.{answered_by}
use Rattle.smsc_endpoint.proofs.esme.Esme.answer_one.Goals as goal

pub returns : goal.returns
returns c =
    let i = c.self.inside in
    let d : EsmeView = record {
      session = i.session;
      account = i.account;
      waiting = i.waiting.items;
      with_keeper = i.with_keeper;
      receipts = i.receipts.items;
      outbox = i.outbox;
      notes = i.notes.items;
      counts = i.counts;
      time = i.time;
      wrong_binds = i.wrong_binds;
      held = i.held;
    } in
    on_ok_weaker c.respond.result
    (λ (said : c.respond.new.self ≡ responding c.in_ok-octets.octets (record d { session = c.response.new.session })).
    said
    ∙ answered_by c.args.self.now c.args.request c.args.answer d c.response.new.session c.in_ok-octets.octets (c.self.view_is ∙ c.count_answered.ensures) c.in_ok-octets.ensures.octets
    c.in_ok-octets.ensures.session)
    c.respond.ensures
