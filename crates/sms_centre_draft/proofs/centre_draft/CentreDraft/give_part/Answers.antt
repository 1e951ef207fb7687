-- give_part
use Rattle.std.proofs.Common.{◌≡◌, ℕ, Option, Some, None, OnOk, sym, ◌∙◌, ap, subst}
use Rattle.sms_centre_rows.specs.waiting.References.{handset_of}
use Rattle.sms_centre_spec.specs.Draft.{Store, handsets_in, in_store, with_given}
use Rattle.sms_centre_spec.specs.Submitting.{part_given, put_part_of}
use Rattle.sms_centre_draft.specs.CentreDraft.{Represents}
use Rattle.sms_centre_draft.proofs.centre_draft.CentreDraft.give_part.Goals as goal

pub returns-in-Some : goal.returns-in-Some
returns-in-Some c = λ d s represents can few is.
    let u = c.args.submission.now in
    let h = handset_of u.handset (handsets_in d.store) in
    let next = c.in_ok-free.ensures d represents ∙ c.in-Some.is in
    let given : Some (put_part_of c.args.id u c.args.number c.args.body.now c.in-Some.reference (with_given h c.in-Some.reference d.store)) ≡ Some s =
    sym (ap (λ (o : Option ℕ). part_given c.args.id u c.args.number c.args.body.now h o d.store) next) ∙ is in
    let same : put_part_of c.args.id u c.args.number c.args.body.now c.in-Some.reference (with_given h c.in-Some.reference d.store) ≡ s = cc in
    subst (λ (x : Store). OnOk c.put_part.result (Represents (in_store x d) c.put_part.new.self)) same (c.put_part.ensures d represents can few next)

pub returns-in-None : goal.returns-in-None
returns-in-None c = λ d s represents can few is.
    let u = c.args.submission.now in
    let h = handset_of u.handset (handsets_in d.store) in
    let next = c.in_ok-free.ensures d represents ∙ c.in-None.is in
    let bad : None ≡ Some s = sym (ap (λ (o : Option ℕ). part_given c.args.id u c.args.number c.args.body.now h o d.store) next) ∙ is in
    absurd cc
