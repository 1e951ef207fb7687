use Rattle.std.proofs.Common.{ℕ, List, ◌≤◌, length, sym, subst, ◌∙◌}
use Rattle.smpp_session.proofs.Places.{more_left}
use Rattle.smpp_session.proofs.numbers.SentNumbers.is_only.Goals as goal

pub returns-in_default : goal.returns-in_default
returns-in_default c =
    sym (more_left c.args.number c.args.self.now (subst (λ (xs : List ℕ). 2 ≤ length xs) (c.as_slice.ensures.value ∙ c.self.view_is) c.in_default.len_at_least))
