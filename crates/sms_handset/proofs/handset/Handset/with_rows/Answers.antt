use Rattle.std.proofs.Common.{◌≡◌, ◌<◌, List, sym, ◌∙◌, ap, subst}
use Rattle.std.specs.List.{AllByRecursion}
use Rattle.sms_rows.specs.table.Table.{RowsInMemory}
use Rattle.sms_handset_rows.specs.declared.inbox.entry.Entry.{Entry}
use Rattle.sms_handset_rows.specs.inbox.Slots.{slots_taken}
use Rattle.sms_handset_rows.specs.inbox.OpenIndex.{Indexes}
use Rattle.sms_link.specs.LinkTurn.{LinkOf}
use Rattle.sms_handset.proofs.handset.Handset.with_rows.Goals as goal

pub invariant_of-result : goal.invariant_of-result
invariant_of-result c =
    let rows : c.from_vec-entries.result.rows ≡ c.args.rows.entries = ap (λ (t : RowsInMemory Entry). t.rows) c.from_vec-entries.ensures ∙ c.into_vec.ensures in (
      record {
        centre = c.requires.centre;
        index = subst (λ (es : List Entry). Indexes c.in_ok-groups.groups es) (c.as_slice.ensures ∙ sym rows) c.in_ok-groups.ensures;
        slots = c.in_ok-taken.ensures ∙ ap (λ (es : List Entry). slots_taken es) (c.as_slice-2.ensures ∙ sym rows);
        numbers = subst (λ (es : List Entry). AllByRecursion (λ (e : Entry). e.number < c.args.rows.counters.entry) es) (sym rows) c.requires.numbers;
      },
      ap (λ (l : LinkOf). l.side) c.new.ensures,
    )
