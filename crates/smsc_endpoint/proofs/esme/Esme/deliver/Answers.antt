use Rattle.std.proofs.Common.{◌≡◌, ℕ, List, [], ◌∷◌, ◌++◌, ap, subst, ◌∙◌}
use Rattle.std.proofs.lemmas.Result.{on_ok_weaker}
use Rattle.std.specs.Prelude.{OnOk}
use Rattle.smpp_pdu.specs.Writing.{written}
use Rattle.smpp_pdu.specs.declared.message.Message.{Message}
use Rattle.smpp_session.specs.Sessions.{deliver_pdu, delivery_fault, for_version}
use Rattle.smsc_endpoint.specs.declared.pending.SentReceipt.{SentReceipt}
use Rattle.smsc_endpoint.specs.EsmeView.{EsmeView}
use Rattle.smsc_endpoint.specs.EsmeCalls.{and_more, receipt_by}
use Rattle.smsc_loop.specs.declared.note.Counts.{Counts}
use Rattle.smsc_endpoint.specs.Outbox.{with_octets}
use Rattle.smsc_endpoint.proofs.Deliveries.{receipt_is_sent}
use Rattle.smsc_endpoint.proofs.esme.Esme.deliver.Goals as goal

pub returns-in-Ok : goal.returns-in-Ok
returns-in-Ok c =
    let i = c.self.inside in
    let s = c.in-Ok.sent in
    let e : EsmeView = record {
      session = i.session;
      account = i.account;
      waiting = i.waiting.items;
      with_keeper = i.with_keeper;
      receipts = i.receipts.items;
      outbox = i.outbox;
      notes = i.notes.items;
      counts = i.counts;
      time = i.time;
      wrong_binds = i.wrong_binds;
      held = i.held;
    } in
    let octets = c.as_slice.ensures ∙ (c.in-Ok.ensures.octets ∙ ap (λ (m : Message). written (deliver_pdu s.sequence_number (for_version i.session.conversation.interface_version m))) (c.message.ensures ∙ c.requires.same)) in
    let counts : Counts = record i.counts { receipts = c.saturating_add-self-inside.result } in
    let counted : counts ≡ record i.counts { receipts = and_more 1 i.counts.receipts } = ap (λ (n : ℕ). record i.counts { receipts = n }) c.saturating_add-self-inside.ensures in
    let receipts = c.push_reserved.ensures.items
    ∙ ap (λ (rs : List SentReceipt). rs ++ record { sequence_number = s.sequence_number; id = c.args.end.now.id; since = i.time } ∷ []) c.in_ok-reserve.ensures.items in
    subst (λ (v : EsmeView). OnOk c.send.result
    (record e { session = c.deliver.new.self; receipts = c.push_reserved.new.self.items; outbox = c.send.new.self; counts = counts } ≡ receipt_by (delivery_fault v.session.conversation) c.args.end.now v))
    c.self.view_is
    (on_ok_weaker c.send.result
    (λ (sent : c.send.new.self ≡ with_octets c.as_slice.result.now i.outbox).
    receipt_is_sent e c.args.end.now c.deliver.new.self c.push_reserved.new.self.items c.send.new.self counts s.sequence_number c.as_slice.result.now c.in-Ok.ensures.nothing_against c.in-Ok.ensures.number
    octets c.in-Ok.ensures.ok receipts sent counted)
    c.send.ensures)
