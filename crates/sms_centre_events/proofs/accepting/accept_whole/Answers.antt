use Rattle.std.proofs.Common.{Option, sym, subst}
use Rattle.std.specs.Prelude.{IfOk}
use Rattle.sms_centre_spec.specs.Draft.{Store}
use Rattle.sms_centre_spec.specs.Shares.{unless_too_much}
use Rattle.sms_centre_draft.specs.Submitting.{Accepts}
use Rattle.sms_centre_events.proofs.Accepted.{accepted_long, accepted_short}
use Rattle.sms_centre_events.proofs.accepting.accept_whole.Goals as goal

pub returns-then-is_long : goal.returns-then-is_long
returns-then-is_long c = λ d represents holds fresh.
    subst (λ (x : Option Store). IfOk c.accept_split.result (Accepts (unless_too_much c.args.submission.now x) d c.accept_split.new.draft))
    (accepted_long c.args.id c.args.submission.now c.args.content.now d.store c.requires.whole (sym c.if-is_long.ensures))
    (c.accept_split.ensures d represents holds fresh)

pub returns : goal.returns
returns c = λ d represents holds fresh.
    subst (λ (x : Option Store). IfOk c.accept_content.result (Accepts (unless_too_much c.args.submission.now x) d c.accept_content.new.draft))
    (accepted_short c.args.id c.args.submission.now c.args.content.now d.store c.requires.whole (sym c.if-is_long.ensures))
    (c.accept_content.ensures d represents fresh)
