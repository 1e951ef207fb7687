use Rattle.std.proofs.Common.{◌≡◌, ℕ, ◌≤◌, List, Some, Bool, length, refl, inr, sym, ◌∙◌, ap, subst}
use Rattle.sms_relay.specs.RelayGrammar.{data_down}
use Rattle.sms_tpdu.specs.AddressGrammar.{relay_address}
use Rattle.sms_tpdu.specs.MoreMessages.{with_more_messages}
use Rattle.sms_centre_draft.specs.CentreDraft.{Represents}
use Rattle.sms_centre_spec.specs.Offering.{read_of, tpdu_of, unit_of}
use Rattle.sms_centre_events.specs.offering.Offered.{offer_in, offer_next}
use Rattle.sms_centre_events.proofs.offering.OneOffer.{goes_off, goes_on, unless_alike}
use Rattle.sms_centre_events.proofs.offering.TpdusMade.{tpdu_short}
use Rattle.sms_centre_spec.proofs.CentreAddresses.{centre_is}
use Rattle.sms_centre_events.proofs.offering.offers.offer_queued.Goals as goal

pub returns-in-Ok-clause-outcome : goal.returns-in-Ok-clause-outcome
returns-in-Ok-clause-outcome g c = λ d rows represents can among honest holds.
    let l = c.args.queued.now in
    let s = d.store in
    let t = c.in-Ok.ensures.outcome d rows c.args.centre.now c.args.handset represents among can honest holds in
    let is = centre_is s.setup.centre can.sound.setup.centre in
    let unit : data_down l.reference c.args.centre.now (with_more_messages c.has_more-more.result c.in-Ok.tpdu) ≡ unit_of l c.has_more-more.result s =
    ap (λ (o : List ℕ). data_down l.reference o (with_more_messages c.has_more-more.result c.in-Ok.tpdu)) can.centre_is ∙ ap (λ (o : List ℕ). data_down l.reference (relay_address s.setup.centre) (with_more_messages c.has_more-more.result o)) t.0 in
    goes_on (λ (u : Unit {0}). Represents (offer_next c.args.handset (Some l) d) c.send.new.draft) (read_of l s d.links).read ((g.B.RowStore.state c.tpdu.new.bodies).holds rows) (g.B.RowStore.state c.tpdu.new.bodies).is_closed (g.B.RowStore.state c.args.bodies.now).refusals (g.B.RowStore.state c.tpdu.new.bodies).refusals c.send.result
    (unless_alike (λ (u : Unit {0}). Represents (offer_in c.args.handset (data_down l.reference c.args.centre.now (with_more_messages c.has_more-more.result c.in-Ok.tpdu)) l d) c.send.new.draft)
    (λ (u : Unit {0}). Represents (offer_next c.args.handset (Some l) d) c.send.new.draft) c.send.result
    (λ u shown. subst (λ (o : List ℕ). Represents (offer_in c.args.handset o l d) c.send.new.draft) (unit ∙ ap (λ (b : Bool). unit_of l b s) (c.has_more-more.ensures d represents)) shown)
    (c.send.ensures d represents (subst (λ (o : List ℕ). 2 ≤ length o) (sym can.centre_is) is.0) (subst (λ (o : List ℕ). length o ≤ 11) (sym can.centre_is) is.1)
    (subst (λ (o : List ℕ). length o ≤ 200) (sym t.0) (tpdu_short c.args.handset l s can.sound represents.consistent among))))
    t.1.0 t.1.1

pub returns-in-Err-clause-outcome : goal.returns-in-Err-clause-outcome
returns-in-Err-clause-outcome g c = λ d rows represents can among honest holds.
    goes_off (λ octets. octets ≡ tpdu_of c.args.queued.now d.store) (λ (u : Unit {0}). Represents (offer_next c.args.handset (Some c.args.queued.now) d) c.args.draft.now) (read_of c.args.queued.now d.store d.links).read (read_of c.args.queued.now d.store d.links).read
    ((g.B.RowStore.state c.tpdu.new.bodies).holds rows) (g.B.RowStore.state c.tpdu.new.bodies).is_closed (g.B.RowStore.state c.args.bodies.now).refusals (g.B.RowStore.state c.args.bodies.now).refusals (g.B.RowStore.state c.tpdu.new.bodies).refusals c.in-Err.error (inr refl) (λ k a. a)
    (c.in-Err.ensures.outcome d rows c.args.centre.now c.args.handset represents among can honest holds)
