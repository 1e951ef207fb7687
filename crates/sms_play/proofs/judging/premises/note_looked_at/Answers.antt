use Rattle.std.proofs.Common.{◌∙◌, ap, arith, List, ℕ}
use Rattle.std.specs.Prelude.{slice_index}
use Rattle.sms_play.proofs.judging.Counting.{push_as, set_as}
use Rattle.sms_play.proofs.judging.premises.note_looked_at.Goals as goal

pub returns-then-place-len-clause-counts : goal.returns-then-place-len-clause-counts
returns-then-place-len-clause-counts c = λ other.
    set_as c.args.counts.now.items c.args.place c.args.count other (omega (arith, c.if-place-len.true, c.len.ensures))

pub returns-in_ok-push-clause-counts : goal.returns-in_ok-push-clause-counts
returns-in_ok-push-clause-counts c = λ other.
    ap (λ (ns : List ℕ). slice_index ns other) c.in_ok-push.ensures.items
    ∙ push_as c.args.counts.now.items c.args.place c.args.count other (omega (arith, c.if-place-len.false, c.len.ensures, c.requires))
