use Rattle.std.proofs.Common.{◌≡◌, ℕ, [], ◌∷◌, refl, inr, sym, ◌∙◌, ap, subst, ⊎_elim}
use Rattle.sms_base.specs.Among.{Among}
use Rattle.sms_centre_spec.specs.Offering.{read_of, tpdu_of}
use Rattle.sms_centre_events.proofs.offering.OneOffer.{goes_on, goes_wide, is_read, made_none, made_some, unless_alike}
use Rattle.sms_centre_events.proofs.offering.TpdusMade.{queued_stored}
use Rattle.sms_centre_events.proofs.offering.reading.tpdu.Goals as goal

pub returns-in-Some-clause-outcome : goal.returns-in-Some-clause-outcome
returns-in-Some-clause-outcome g c = λ d rows centre handset represents among can honest holds.
    let l = c.args.queued.now in
    goes_on (λ octets. octets ≡ tpdu_of l d.store) (read_of l d.store d.links).read ((g.B.RowStore.state c.args.bodies.now).holds rows) (g.B.RowStore.state c.args.bodies.now).is_closed (g.B.RowStore.state c.args.bodies.now).refusals (g.B.RowStore.state c.args.bodies.now).refusals c.copied.result
    (unless_alike (λ octets. octets ≡ c.in-Some.octets.now) (λ octets. octets ≡ tpdu_of l d.store) c.copied.result
    (λ octets e. e ∙ made_some c.in-Some.octets.now l d.store (c.in-Some.ensures d handset represents among)) c.copied.ensures)
    holds (inr refl)

pub returns-in-None-clause-outcome : goal.returns-in-None-clause-outcome
returns-in-None-clause-outcome g c = λ d rows centre handset represents among can honest holds.
    let l = c.args.queued.now in
    let unmade = made_none l d.store (c.in-None.ensures d handset represents among) in
    goes_wide (λ octets. octets ≡ tpdu_of l d.store) (c.key.result ∷ []) (read_of l d.store d.links).read ((g.B.RowStore.state c.read.new.bodies).holds rows) (g.B.RowStore.state c.read.new.bodies).is_closed (g.B.RowStore.state c.args.bodies.now).refusals (g.B.RowStore.state c.read.new.bodies).refusals c.read.result
    (λ k a. ⊎_elim (λ (e : k ≡ c.key.result). subst (λ (n : ℕ). Among n (read_of l d.store d.links).read) (sym (e ∙ c.key.ensures)) (is_read l d.store d.links unmade)) (λ (b : ⊥). absurd b) a)
    (c.read.ensures.outcome rows (tpdu_of l d.store)
    (ap (λ (n : ℕ). g.B.BodyKeep.body_of rows n) c.key.ensures ∙ queued_stored (λ (n : ℕ). g.B.BodyKeep.body_of rows n) handset l d.store can.stored represents.consistent among unmade) honest holds)
