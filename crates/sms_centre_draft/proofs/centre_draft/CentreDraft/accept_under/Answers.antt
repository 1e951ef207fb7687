-- accept_under
use Rattle.std.proofs.Common.{Option, true, false, sym, ◌∙◌, ap, subst}
use Rattle.sms_centre_spec.specs.Draft.{Store, in_store}
use Rattle.sms_centre_spec.specs.Shares.{unless_too_much}
use Rattle.sms_centre_spec.specs.Submitting.{enter}
use Rattle.sms_centre_draft.specs.Submitting.{Accepts}
use Rattle.sms_centre_draft.proofs.Entering.{entered_can}
use Rattle.sms_centre_draft.proofs.Judged.{room_for, no_room_for}
use Rattle.sms_centre_draft.proofs.centre_draft.CentreDraft.accept_under.Goals as goal

pub returns-then-not-has_room : goal.returns-then-not-has_room
returns-then-not-has_room c = λ d represents below.
    let none = no_room_for d.store c.args.id c.args.split c.args.submission.now c.args.bodies.now represents.consistent below c.requires.submission c.requires.few
    (sym (c.in_ok-has_room.ensures d represents) ∙ c.if-not-has_room.true) in
    subst (λ (o : Option Store). Accepts o d c.args.self.now false) (sym none) represents

pub returns : goal.returns
returns c = λ d represents below.
    let u = c.args.submission.now in
    let s = enter c.args.id c.args.split u d.store in
    let g = room_for d.store c.args.id c.args.split u c.args.bodies.now represents.consistent below c.requires.submission c.requires.few
    (sym (c.in_ok-has_room.ensures d represents) ∙ c.if-not-has_room.false) in
    subst (λ (o : Option Store). Accepts o d c.give_parts.new.self true) (sym (ap (λ (o : Option Store). unless_too_much u o) g.1.0 ∙ g.1.1))
    (c.in_ok-give_parts.ensures (in_store s d) g.0 (c.in_ok-enter.ensures d represents below c.requires.submission.handset c.requires.submission.report_address)
    (entered_can d.store c.args.id c.args.split u represents.consistent below) g.1.0)
