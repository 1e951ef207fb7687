use Rattle.std.proofs.Common.{◌∙◌, ap, subst, List, drop, ℕ}
use Rattle.sms_play.specs.Premises.{pairs_of}
use Rattle.sms_script.specs.declared.report.rows.AcceptedRow.{AcceptedRow}
use Rattle.std.specs.Prelude.{slice_index}
use Rattle.sms_play.specs.judging.Watching.{Watches}
use Rattle.sms_play.proofs.judging.premises.Judge.take_accepted_at.Goals as goal

pub returns-clause-watch : goal.returns-clause-watch
returns-clause-watch c = λ given down accepted w.
    let counted = c.looked_at.ensures ∙ ap (λ (ns : List ℕ). slice_index ns c.args.place) c.as_slice.ensures.value in
    subst (λ (z : List AcceptedRow). Watches given down (pairs_of accepted z) c.look_at_accepted.new.watch)
    (c.behind-new.ensures ∙ ap (λ (n : ℕ). drop n c.args.rows.now) counted)
    (c.in_ok-look_at_accepted.ensures given down accepted w)
