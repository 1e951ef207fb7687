use Rattle.std.proofs.Common.{Some, None, sym, ◌∙◌, eq-eqb, ne_eqb}
use Rattle.std.specs.Prelude.{◌==◌}
use Rattle.std.proofs.lemmas.Bool.{cond-true, cond-false}
use Rattle.sms_handset_rows.specs.inbox.Groups.{part_number}
use Rattle.sms_handset_rows.proofs.inbox.Numbers.{with_last, with_there}
use Rattle.sms_handset_rows.proofs.inbox.joining.part_with.Goals as goal

pub returns-in-Some : goal.returns-in-Some
returns-in-Some c = sym (with_there c.args.number c.args.members.now c.args.part.now c.in-Some.entry.now (sym c.in-Some.ensures))

pub returns-then-part_number-number : goal.returns-then-part_number-number
returns-then-part_number-number c =
    let n = part_number c.args.part.now.message in
    sym (with_last c.args.number c.args.members.now c.args.part.now (sym c.in_default.ensures)
    ∙ cond-true (n == c.args.number) (Some c.args.part.now) None (eq-eqb n c.args.number (sym c.part_number.ensures ∙ c.if-part_number-number.true)))

pub returns-else-part_number-number : goal.returns-else-part_number-number
returns-else-part_number-number c =
    let n = part_number c.args.part.now.message in
    sym (with_last c.args.number c.args.members.now c.args.part.now (sym c.in_default.ensures)
    ∙ cond-false (n == c.args.number) (Some c.args.part.now) None (ne_eqb n c.args.number (λ e. c.if-part_number-number.false (c.part_number.ensures ∙ e))))
