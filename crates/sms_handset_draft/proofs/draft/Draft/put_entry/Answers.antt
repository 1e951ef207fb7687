use Rattle.std.proofs.Common.{◌≡◌, ℕ, sym, ◌∙◌, ap, arith}
use Rattle.sms_rows.specs.table.TableDraft.{TableDraftOf}
use Rattle.sms_rows.specs.table.Table.{RowsInMemory, all_applied, row_at}
use Rattle.sms_handset_rows.specs.declared.inbox.entry.Entry.{Entry}
use Rattle.sms_handset_rows.specs.inbox.Keys.{entry_key}
use Rattle.sms_handset_rows.specs.inbox.Slots.{slots_of, slots_taken}
use Rattle.sms_handset_rows.proofs.inbox.CountedSlots.{no_more, one_put}
use Rattle.sms_handset_draft.proofs.draft.Draft.put_entry.Goals as goal

-- what the entry takes that stands there
freed : (n : ℕ) (p : TableDraftOf Entry) (t : RowsInMemory Entry) (k : ℕ) → p.base ≡ t → k ≡ slots_of (row_at entry_key n (all_applied entry_key p.changes p.base.rows)) → k ≡ slots_of (row_at entry_key n (all_applied entry_key p.changes t.rows))
freed n p t k e f = f ∙ ap (λ (b : RowsInMemory Entry). slots_of (row_at entry_key n (all_applied entry_key p.changes b.rows))) e

pub retaken-requires : goal.retaken-requires
retaken-requires c =
    let rows = c.self.inside.base.now.entries.rows in
    let free = freed c.args.entry.number c.self.inside.entries c.self.inside.base.now.entries c.slots_at-freed.result c.self.invariant.3 c.slots_at-freed.ensures in
    omega (arith, free, no_more c.args.entry.number (all_applied entry_key c.self.inside.entries.changes rows), c.self.invariant.1)

pub invariant_of-self-2 : goal.invariant_of-self-2
invariant_of-self-2 c =
    let rows = c.self.inside.base.now.entries.rows in
    let free = freed c.args.entry.number c.self.inside.entries c.self.inside.base.now.entries c.slots_at-freed.result c.self.invariant.3 c.slots_at-freed.ensures in (
      c.self.invariant.0,
      one_put c.args.entry c.self.inside.entries.changes rows c.self.inside.taken c.in_ok-taken.taken c.slots_at-freed.result c.as_slice-in_order.ensures.order
          c.self.invariant.1 free c.in_ok-taken.ensures
          ∙ ap (λ (p : TableDraftOf Entry). slots_taken (all_applied entry_key p.changes rows)) (sym c.in_ok-put.ensures.change),
      c.self.invariant.2,
      ap (λ (p : TableDraftOf Entry). p.base) c.in_ok-put.ensures.change ∙ c.self.invariant.3,
      c.self.invariant.4,
    )
