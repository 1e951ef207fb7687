-- A receipt that is sent.
use Rattle.std.proofs.Common.{◌≡◌, ℕ, List, [], ◌∷◌, ◌++◌, Option, None, sym, ap, ◌∙◌}
use Rattle.smpp_pdu.specs.Writing.{written}
use Rattle.smpp_session.specs.declared.fault.DeliverFault.{DeliverFault}
use Rattle.smpp_session.specs.Sessions.{SessionView, after_delivery, deliver_pdu, delivery_fault, number_to_send}
use Rattle.sms_receipt.specs.declared.final_message.Final.{Final}
use Rattle.smsc_endpoint.specs.declared.pending.SentReceipt.{SentReceipt}
use Rattle.smsc_endpoint.specs.EsmeView.{EsmeView}
use Rattle.smsc_endpoint.specs.EsmeCalls.{receipt_by, and_more, receipt_for, receipt_sent}
use Rattle.smsc_loop.specs.declared.note.Counts.{Counts}
use Rattle.smsc_endpoint.specs.Outbox.{OutboxView, with_octets}

pub receipt_is_sent : (e : EsmeView) (end : Final) (session : SessionView) (receipts : List SentReceipt) (outbox : OutboxView) (counts : Counts) (number : ℕ) (octets : List ℕ)
    → delivery_fault e.session.conversation ≡ None → number ≡ number_to_send e.session.conversation → octets ≡ written (deliver_pdu number (receipt_for e end))
    → session ≡ after_delivery e.session → receipts ≡ e.receipts ++ record { sequence_number = number; id = end.id; since = e.time } ∷ [] → outbox ≡ with_octets octets e.outbox
    → counts ≡ record e.counts { receipts = and_more 1 e.counts.receipts }
    → record e { session = session; receipts = receipts; outbox = outbox; counts = counts } ≡ receipt_by (delivery_fault e.session.conversation) end e
receipt_is_sent e end session receipts outbox counts number octets fault is_number is_octets is_session is_receipts is_outbox is_counts =
    let left = after_delivery e.session in
    let counted : Counts = record e.counts { receipts = and_more 1 e.counts.receipts } in
    let all : List SentReceipt = e.receipts ++ record { sequence_number = number; id = end.id; since = e.time } ∷ [] in
    ap (λ (n : Counts). record e { session = session; receipts = receipts; outbox = outbox; counts = n }) is_counts
    ∙ (ap (λ (s : SessionView). record e { session = s; receipts = receipts; outbox = outbox; counts = counted }) is_session
    ∙ (ap (λ (rs : List SentReceipt). record e { session = left; receipts = rs; outbox = outbox; counts = counted }) is_receipts
    ∙ (ap (λ (o : OutboxView). record e { session = left; receipts = all; outbox = o; counts = counted }) (is_outbox ∙ ap (λ (os : List ℕ). with_octets os e.outbox) is_octets)
    ∙ (ap (λ (n : ℕ). receipt_sent n end e) is_number ∙ sym (ap (λ (f : Option DeliverFault). receipt_by f end e) fault)))))
