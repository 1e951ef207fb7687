use Rattle.std.proofs.Common.{◌≡◌, ℕ, nat_lt, Bool, sym, ◌∙◌, ap}
use Rattle.std.specs.Prelude.{◌&&◌}
use Rattle.sms_centre_rows.specs.declared.messages.claim.Claim.{Claim}
use Rattle.sms_centre_rows.specs.messages.SplitReferences.{is_among, own_bars}
use Rattle.sms_centre_messages.specs.declared.references.message_ends.MessageEnds.{MessageEnds}
use Rattle.sms_centre_messages.specs.references.ReferenceIndex.{ReferenceIndexOf}
use Rattle.sms_centre_messages.specs.references.Counts.{counted}
use Rattle.sms_centre_messages.specs.references.Keys.{key_of}
use Rattle.sms_centre_messages.proofs.references.Tallies.{own_told}
use Rattle.sms_centre_messages.proofs.references.reference_index.ReferenceIndex.is_stood_for.Goals as goal

pub returns-then-not-claim : goal.returns-then-not-claim
returns-then-not-claim c = λ bs ms ps h.
    let x : Claim = c.args.claim.now in
    sym (ap (λ (b : Bool). b && is_among x.reference (own_bars x.source x.handset bs)) c.if-not-claim.true)

pub returns : goal.returns
returns c = λ bs ms ps h.
    let x : Claim = c.args.claim.now in
    let key : MessageEnds = key_of x.source x.handset x.reference in
    ap (λ (n : ℕ). nat_lt 0 n) (c.of-2.ensures ∙ ap (λ (k : MessageEnds). counted k c.self.inside.own_bars) c.of.ensures ∙ ap (λ (k : ReferenceIndexOf). counted key k.own_bars) c.self.view_is)
    ∙ h.own_bars key ∙ sym (own_told x.source x.handset x.reference bs)
    ∙ sym (ap (λ (b : Bool). b && is_among x.reference (own_bars x.source x.handset bs)) c.if-not-claim.false)
