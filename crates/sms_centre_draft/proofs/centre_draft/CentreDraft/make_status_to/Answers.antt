use Rattle.std.proofs.Common.{◌≡◌, ℕ, List, Option, OnOk, sym, ◌∙◌, subst}
use Rattle.sms_centre_rows.specs.waiting.References.{handset_of}
use Rattle.sms_centre_spec.specs.Draft.{handsets_in, in_store}
use Rattle.sms_centre_spec.specs.Ends.{status_given}
use Rattle.sms_centre_spec.specs.Submitting.{reference_for}
use Rattle.sms_centre_draft.specs.CentreDraft.{Represents}
use Rattle.sms_centre_draft.proofs.centre_draft.CentreDraft.make_status_to.Goals as goal

pub returns-in-Some : goal.returns-in-Some
returns-in-Some c = λ d n represents can is.
    let m = c.args.message.now in
    let h = handset_of m.source.digits (handsets_in d.store) in
    let next = subst (λ (n : List ℕ). reference_for (handset_of n (handsets_in d.store)) d.store ≡ c.in_ok-free.free) c.requires (c.in_ok-free.ensures d represents) ∙ c.in-Some.is in
    subst (λ (o : Option ℕ). OnOk c.give_status.result (Represents (in_store (status_given c.args.state m h o d.store) d) c.give_status.new.self)) (sym next)
    (c.give_status.ensures d n represents can is next)

pub returns-in-None : goal.returns-in-None
returns-in-None c = λ d n represents can is.
    let m = c.args.message.now in
    let h = handset_of m.source.digits (handsets_in d.store) in
    let next = subst (λ (n : List ℕ). reference_for (handset_of n (handsets_in d.store)) d.store ≡ c.in_ok-free.free) c.requires (c.in_ok-free.ensures d represents) ∙ c.in-None.is in
    subst (λ (o : Option ℕ). OnOk c.make_unsent.result (Represents (in_store (status_given c.args.state m h o d.store) d) c.make_unsent.new.self)) (sym next)
    (c.make_unsent.ensures d c.args.state represents can)
