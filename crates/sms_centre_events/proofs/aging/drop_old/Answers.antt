use Rattle.std.proofs.Common.{ℕ, sym, ◌∙◌, subst}
use Rattle.sms_centre_events.proofs.Dropped.{IsLeft, left_next, left_none}
use Rattle.sms_centre_events.proofs.aging.drop_old.Goals as goal

pub dropping-init : goal.dropping-init
dropping-init c = λ d represents. record { store = d.store; represents = represents; goes = sym (c.old_reports_are_dropped_where_found.ensures.begins d.store) }

pub returns-in_default : goal.returns-in_default
returns-in_default c = λ d represents.
    left_none c.old_reports_are_dropped_where_found.ensures.none d c.dropping.first c.dropping.draft (c.dropping.invariant d represents) (sym c.in_default.is ∙ c.next_old.ensures.next)

pub dropping-preserved : goal.dropping-preserved
dropping-preserved c = λ d represents.
    subst (λ (n : ℕ). IsLeft d n c.drop_status.new.self) (sym c.in_ok-first.ensures)
    (left_next c.old_reports_are_dropped_where_found.ensures.next d c.dropping.first c.in-Some.entry c.dropping.draft c.drop_status.new.self (c.dropping.invariant d represents)
    (sym c.in-Some.is ∙ c.next_old.ensures.next) (λ x r refines there waits. c.in_ok-drop_status.ensures x r refines there waits))
