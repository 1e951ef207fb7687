use Rattle.std.proofs.Common.{ℕ, List, ◌+◌, ◌-◌, ◌≡◌, length, drop, sym, subst, arith}
use Rattle.std.proofs.lemmas.List.{drop_all}
use Rattle.sms_centre_rows.specs.declared.messages.part.PartRow.{PartRow}
use Rattle.sms_centre_rows.specs.messages.Messages.{part_key}
use Rattle.sms_centre_rows.specs.messages.OpenParts.{parts_waiting}
use Rattle.sms_centre_queue.specs.queues.Representing.{DraftRepresents}
use Rattle.sms_rows.specs.table.Table.{Rises}
use Rattle.sms_rows.proofs.table.Places.{rises_drop}
use Rattle.sms_centre_recovery.proofs.starting.RowsSeen.{next_back}
use Rattle.sms_centre_recovery.proofs.starting.filling.put_parts.Goals as goal

pub loop-i-init : goal.loop-i-init
loop-i-init c = λ g links represents.
    let parts = c.args.parts.now in
    let tables = c.args.tables.now in
    subst (λ (ps : List PartRow). DraftRepresents g links (λ (number : List ℕ). parts_waiting number tables.messages.rows tables.priorities.rows ps) c.args.queues.now)
    (sym (drop_all (length parts - 0) parts (omega arith))) represents

pub loop-i-preserved : goal.loop-i-preserved
loop-i-preserved c = λ g links represents.
    let parts = c.args.parts.now in
    let tables = c.args.tables.now in
    let i = c.loop-i.i in
    let part = c.index-parts-parts.result in
    let next = next_back parts i part (omega arith) c.index-parts-parts.is in
    subst (λ (ps : List PartRow). DraftRepresents g links (λ (number : List ℕ). parts_waiting number tables.messages.rows tables.priorities.rows ps) c.put_part.new.queues) (sym next)
    (c.in_ok-put_part.ensures g links (drop (length parts - i) parts)
    (subst (λ (ps : List PartRow). Rises part_key ps) next (rises_drop part_key (length parts - (i + 1)) parts c.requires))
    (c.loop-i.invariant g links represents))

pub returns : goal.returns
returns c = λ g links represents.
    let parts = c.args.parts.now in
    let tables = c.args.tables.now in
    subst (λ (k : ℕ). DraftRepresents g links (λ (number : List ℕ). parts_waiting number tables.messages.rows tables.priorities.rows (drop k parts)) c.loop-i.queues)
    (let none : length parts - c.loop-i.i ≡ 0 = omega arith in none) (c.loop-i.invariant g links represents)
