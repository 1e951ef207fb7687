use Rattle.std.proofs.Common.{◌≡◌, ◌-◌, ◌≤◌, ◌++◌, slice_range}
use Rattle.sms_centre_messages.specs.message_index.Forgettable.{claims_of_entries}
use Rattle.sms_centre_messages.proofs.message_index.index.MessageIndex.add_claims_at.Given as goal

abbrev pub invariant-loop-place : goal.invariant-loop-place
invariant-loop-place l = record {
  begun : l.fn.places.start ≤ l.place;
  within : l.place - l.fn.places.start ≤ l.fn.places.end - l.fn.places.start;
  claims : l.claims.items ≡ l.initial.claims.items ++ claims_of_entries l.message (slice_range l.self.parts.rows l.fn.places.start l.place);
}
