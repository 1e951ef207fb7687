use Rattle.std.proofs.Common.{◌≡◌, Option, IfOk, sym, subst}
use Rattle.sms_concat.specs.declared.content.Content.{Content}
use Rattle.sms_handset_rows.proofs.inbox.TakenGroups.{taken_joins}
use Rattle.sms_handset_rows.proofs.inbox.joining.join_with.Goals as goal

pub returns-then-is_full_with : goal.returns-then-is_full_with
returns-then-is_full_with c =
    subst (λ (o : Option Content). IfOk c.finish_with.result (λ content. content ≡ o))
    (taken_joins c.args.group.now c.args.members.now c.args.part.now c.args.joiner.now c.args.last.now c.is_full_with.result c.requires.taken (sym c.requires.last) c.is_full_with.ensures c.if-is_full_with.true)
    c.finish_with.ensures.ok
