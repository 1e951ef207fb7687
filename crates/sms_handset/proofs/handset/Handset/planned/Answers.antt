use Rattle.std.proofs.Common.{sym, ◌∙◌, ap, subst}
use Rattle.sms_rows.specs.table.Table.{Rises}
use Rattle.sms_handset_draft.specs.declared.rows.Rows.{Rows}
use Rattle.sms_handset_draft.specs.Draft.{HandsetOf, rows_after}
use Rattle.sms_handset_draft.specs.Outcome.{HaveRoom, Outcome}
use Rattle.sms_handset_rows.specs.inbox.Keys.{entry_key}
use Rattle.sms_handset_rows.specs.inbox.Slots.{slots_taken}
use Rattle.sms_handset_draft.specs.Regrouping.{IsRegrouped, Numbered}
use Rattle.sms_handset.proofs.handset.Handset.planned.Goals as goal

pub returns : goal.returns
returns c =
    let s = c.args.self.now in
    let order = subst (λ (z : HandsetOf). Rises entry_key z.core.rows.entries) c.self.view_is c.as_slice-in_order.ensures.order in
    let numbers = subst (λ (z : HandsetOf). Numbered z.core.rows) c.self.view_is c.self.invariant.0.numbers in
    let finished = c.in_ok-finished.ensures in
    let room = subst (λ (z : HandsetOf). HaveRoom c.in_ok-finished.finished.changes z.core.rows z.room) c.self.view_is finished.fits in
    let rows = c.requires.rests ∙ ap (λ (o : Outcome). rows_after o.changes s.core.rows) (sym finished.outcome) in
    record {
      outcome = finished.outcome;
      fits = record {
        entries = room.entries;
        last = room.last;
        outbox = room.outbox;
        marks = room.marks;
        groups = c.in-Ok.ensures;
        index = subst (λ (r : Rows). IsRegrouped c.args.regrouping s.core.rows r) rows (c.requires.groups order numbers);
        slots = finished.slots ∙ ap (λ (r : Rows). slots_taken r.entries) rows;
      };
    }
