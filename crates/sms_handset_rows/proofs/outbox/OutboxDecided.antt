-- The tests decide whether rows of the outbox are sound.
use Rattle.std.proofs.Common.{◌≡◌, Result, Ok, Err, ◌∙◌, ℕ, List, refl, ap, false, subst, ◌≤◌, length, ◌<◌}
use Rattle.std.specs.Prelude.{◌==◌, ◌&&◌, not, nat_le, nat_lt}
use Rattle.sms_base.specs.Reading.{◌>>=◌}
use Rattle.sms_tpdu.specs.declared.fault.TpduFault.{TpduFault}
use Rattle.sms_tpdu.specs.declared.submit.Submit.{Submit as SubmitOf}
use Rattle.sms_tpdu.specs.declared.up.Up.{Up}
use Rattle.sms_tpdu.specs.declared.up.Up.TheVariants.{Submit, DeliverReport}
use Rattle.sms_tpdu.specs.declared.carrier.Carrier.TheVariants.{InData}
use Rattle.sms_tpdu.specs.TpduReading.{data_up_at, submit_at, up_at}
use Rattle.sms_handset_rows.proofs.inbox.InboxDecided.{IsTestOf, both, not_decides, same, address_decides, told_as, at_most, less, given_decides, apart_decides, each}
use Rattle.sms_handset_rows.specs.inbox.Groups.{is_same_address}
use Rattle.sms_handset_rows.specs.declared.inbox.entry.Entry.{Entry}
use Rattle.sms_handset_rows.specs.inbox.SoundInbox.{IsApart, IsGiven}
use Rattle.sms_handset_rows.specs.inbox.InboxTest.{is_apart, is_given, each_passes}
use Rattle.sms_handset_rows.specs.declared.outbox.out_entry.OutEntry.{OutEntry}
use Rattle.sms_handset_rows.specs.outbox.OutboxTest.{reads_submit, is_submitted, was_sent, are_tries, is_out_entry}
use Rattle.sms_handset_rows.specs.outbox.SoundOutbox.{IsSubmitted, WasSent, AreTries, AreOutEntries}
use Rattle.sms_handset_rows.specs.outbox.Settling.{most_tries}
use Rattle.sms_handset_rows.specs.declared.outbox.out_entry.EntryState.{EntryState}
use Rattle.sms_handset_rows.specs.declared.outbox.out_entry.EntryState.TheVariants.{Queued, Sending, Sent, Failed, Unsure}

-- ---- the outbox

of_bind : (r : Result SubmitOf TpduFault) (u : Result Up TpduFault) → (r >>= (λ (s : SubmitOf). Ok (Submit s))) ≡ u → (s : SubmitOf) → u ≡ Ok (Submit s) → r ≡ Ok s
of_bind (Ok x) u q s e = let f : Ok (Submit x) ≡ Ok (Submit s) = q ∙ e in cc
of_bind (Err f) u q s e = let g : Err f ≡ Ok (Submit s) = q ∙ e in absurd cc

up_submit : (octets : List ℕ) (s : SubmitOf) → up_at InData octets ≡ Ok (Submit s) → submit_at octets ≡ Ok s
unfolding up_at data_up_at
up_submit octets s e = of_bind (submit_at octets) (up_at InData octets) refl s e

pub submit_up : (octets : List ℕ) (s : SubmitOf) → submit_at octets ≡ Ok s → up_at InData octets ≡ Ok (Submit s)
unfolding up_at data_up_at
submit_up octets s e = ap (λ (r : Result SubmitOf TpduFault). r >>= (λ (x : SubmitOf). Ok (Submit x))) e

abbrev IsSubmitOf : OutEntry → SubmitOf → Type 0
IsSubmitOf o s = (s.destination_address ≡ o.destination) × ((s.message_reference ≡ o.message_reference) × (s.reject_duplicates ≡ false))

submit_decides : (o : OutEntry) (s : SubmitOf) → IsTestOf (reads_submit o (Ok (Submit s))) (IsSubmitOf o s)
submit_decides o s =
    both (is_same_address s.destination_address o.destination) ((s.message_reference == o.message_reference) && not s.reject_duplicates)
    (s.destination_address ≡ o.destination) ((s.message_reference ≡ o.message_reference) × (s.reject_duplicates ≡ false)) (address_decides s.destination_address o.destination)
    (both (s.message_reference == o.message_reference) (not s.reject_duplicates) (s.message_reference ≡ o.message_reference) (s.reject_duplicates ≡ false)
    (same s.message_reference o.message_reference) (not_decides s.reject_duplicates))

abbrev IsRead : OutEntry → Result Up TpduFault → Type 0
IsRead o u = (s : SubmitOf) × ((u ≡ Ok (Submit s)) × IsSubmitOf o s)

read_decides : (o : OutEntry) (u : Result Up TpduFault) → IsTestOf (reads_submit o u) (IsRead o u)
read_decides o (Ok (Submit s)) = (
  (λ t. (s, (refl, (submit_decides o s).0 t))),
  (λ h. let e : Ok (Submit s) ≡ Ok (Submit h.0) = h.1.0 in let q : h.0 ≡ s = cc in (submit_decides o s).1 (subst (λ (z : SubmitOf). IsSubmitOf o z) q h.1.1)),
)
read_decides o (Ok (DeliverReport r)) = ((λ t. absurd cc), (λ h. let e : Ok (DeliverReport r) ≡ Ok (Submit h.0) = h.1.0 in absurd cc))
read_decides o (Err f) = ((λ t. absurd cc), (λ h. let e : Err f ≡ Ok (Submit h.0) = h.1.0 in absurd cc))

submitted_decides : (o : OutEntry) → IsTestOf (is_submitted o) (IsSubmitted o)
submitted_decides o =
    told_as (is_submitted o) (IsRead o (up_at InData o.tpdu) × (length o.tpdu ≤ 200)) (IsSubmitted o)
    (λ h. (h.0.0, (up_submit o.tpdu h.0.0 h.0.1.0, h.0.1.1.0, h.0.1.1.1.0, h.0.1.1.1.1, h.1)))
    (λ h. ((h.0, (submit_up o.tpdu h.0 h.1.0, (h.1.1, (h.1.2, h.1.3)))), h.1.4))
    (both (reads_submit o (up_at InData o.tpdu)) (nat_le (length o.tpdu) 200) (IsRead o (up_at InData o.tpdu)) (length o.tpdu ≤ 200) (read_decides o (up_at InData o.tpdu)) (at_most (length o.tpdu) 200))

sent_decides : (tries : ℕ) → IsTestOf (was_sent tries) (WasSent tries)
sent_decides tries = both (nat_lt 0 tries) (nat_le tries most_tries) (0 < tries) (tries ≤ most_tries) (less 0 tries) (at_most tries most_tries)

tries_decide : (s : EntryState) (tries : ℕ) → IsTestOf (are_tries s tries) (AreTries s tries)
tries_decide Queued tries = less tries most_tries
tries_decide Sending tries = sent_decides tries
tries_decide Sent tries = sent_decides tries
tries_decide Failed tries = sent_decides tries
tries_decide Unsure tries = sent_decides tries

abbrev IsOut : ℕ → List Entry → OutEntry → Type 0
IsOut next es o = IsGiven next o.number × IsApart o.number es × IsSubmitted o × AreTries o.state o.tries

out_decides : (next : ℕ) (es : List Entry) (o : OutEntry) → IsTestOf (is_out_entry next es o) (IsOut next es o)
out_decides next es o =
    told_as (is_out_entry next es o) ((IsGiven next o.number × IsApart o.number es) × (IsSubmitted o × AreTries o.state o.tries)) (IsOut next es o)
    (λ h. (h.0.0, h.0.1, h.1.0, h.1.1)) (λ h. ((h.0, h.1), (h.2, h.3)))
    (both (is_given next o.number && is_apart o.number es) (is_submitted o && are_tries o.state o.tries) (IsGiven next o.number × IsApart o.number es) (IsSubmitted o × AreTries o.state o.tries)
    (both (is_given next o.number) (is_apart o.number es) (IsGiven next o.number) (IsApart o.number es) (given_decides next o.number) (apart_decides o.number es))
    (both (is_submitted o) (are_tries o.state o.tries) (IsSubmitted o) (AreTries o.state o.tries) (submitted_decides o) (tries_decide o.state o.tries)))

pub outbox_decides : (next : ℕ) (es : List Entry) (os : List OutEntry) → IsTestOf (each_passes (λ (o : OutEntry). is_out_entry next es o) os) (AreOutEntries next es os)
outbox_decides next es os = each (λ (o : OutEntry). is_out_entry next es o) (λ (o : OutEntry). IsOut next es o) (λ o. out_decides next es o) os
