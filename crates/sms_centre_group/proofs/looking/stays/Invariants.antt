use Rattle.std.proofs.Common.{◌≡◌, drop}
use Rattle.sms_centre_group.specs.Newest.{stays}
use Rattle.sms_centre_group.proofs.looking.stays.Given as goal

abbrev pub invariant-loop-revision : goal.invariant-loop-revision
invariant-loop-revision g l = stays g.T.Row.key l.key (drop l.revision-index l.later) ≡ stays g.T.Row.key l.key l.later
