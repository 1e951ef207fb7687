use Rattle.std.proofs.Common.{rules, arith, ◌≤◌, ◌<◌, Some, sym, ◌∙◌, ap, length, get_or}
use Rattle.std.specs.Prelude.{nat_lt}
use Rattle.std.proofs.lemmas.List.Sorted.{IsPartitionPoint-from_clause, IsPartitionedBy-ltb}
use Rattle.sms_centre_rows.specs.declared.messages.message.MessageRow.{MessageRow}
use Rattle.sms_centre_rows.specs.messages.Messages.{message_key}
use Rattle.sms_rows.proofs.table.Places.{keys_rise, above_not, found_at, none_at, searched_at, searched_gap}
use Rattle.sms_centre_reports.proofs.open_reports.recover.find_message.Goals as goal

pub returns-then-place-messages : goal.returns-then-place-messages
returns-then-place-messages c =
    let point = IsPartitionPoint-from_clause (λ m. nat_lt (message_key m) c.args.id) c.args.messages.now c.partition_point-place.result c.partition_point-place.ensures.partitioned
    (IsPartitionedBy-ltb message_key c.args.messages.now c.args.id (keys_rise message_key c.args.messages.now c.requires)) (λ a r q k. search rules) in
    sym (none_at message_key c.args.id c.partition_point-place.result c.args.messages.now
    (searched_gap message_key c.args.id c.partition_point-place.result c.args.messages.now c.requires c.partition_point-place.ensures.bound point (λ d l. absurd (omega (arith, l, c.if-place-messages.true)))))

pub returns-then-number : goal.returns-then-number
returns-then-number c =
    let point = IsPartitionPoint-from_clause (λ m. nat_lt (message_key m) c.args.id) c.args.messages.now c.partition_point-place.result c.partition_point-place.ensures.partitioned
    (IsPartitionedBy-ltb message_key c.args.messages.now c.args.id (keys_rise message_key c.args.messages.now c.requires)) (λ a r q k. search rules) in
    let k = ap (λ (m : MessageRow). message_key m) c.index-messages-place.is in
    let gap : c.args.id < message_key (get_or c.args.messages.now c.partition_point-place.result c.index-messages-place.result) = omega (arith, k, c.number.ensures.value, c.number-2.ensures.value, c.if-number.true) in
    sym (none_at message_key c.args.id c.partition_point-place.result c.args.messages.now
    (searched_gap message_key c.args.id c.partition_point-place.result c.args.messages.now c.requires c.partition_point-place.ensures.bound point
    (λ d l e. above_not message_key c.args.id c.partition_point-place.result c.args.messages.now c.index-messages-place.result d l gap e)))

pub returns : goal.returns
returns c =
    let point = IsPartitionPoint-from_clause (λ m. nat_lt (message_key m) c.args.id) c.args.messages.now c.partition_point-place.result c.partition_point-place.ensures.partitioned
    (IsPartitionedBy-ltb message_key c.args.messages.now c.args.id (keys_rise message_key c.args.messages.now c.requires)) (λ a r q k. search rules) in
    let k = ap (λ (m : MessageRow). message_key m) c.index-messages-place.is in
    let le : message_key (get_or c.args.messages.now c.partition_point-place.result c.index-messages-place.result) ≤ c.args.id = omega (arith, k, c.number.ensures.value, c.number-2.ensures.value, c.if-number.false) in
    let l : c.partition_point-place.result < length c.args.messages.now = omega arith in
    ap (λ (m : MessageRow). Some m) c.index-messages-place-2.is
    ∙ sym (found_at message_key c.args.id c.partition_point-place.result c.args.messages.now c.index-messages-place-2.result
    (searched_at message_key c.args.id c.partition_point-place.result c.args.messages.now c.index-messages-place.result l point le))
