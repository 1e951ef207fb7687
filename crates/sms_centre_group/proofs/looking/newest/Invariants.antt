use Rattle.std.proofs.Common.{◌≡◌, drop}
use Rattle.std.specs.Prelude.{option_copied}
use Rattle.sms_centre_group.specs.Newest.{first_of, newest}
use Rattle.sms_centre_group.proofs.looking.newest.Given as goal

abbrev pub invariant-loop-i : goal.invariant-loop-i
invariant-loop-i g l = first_of (newest g.T.Row.key (g.T.Sought.is l.number) (drop l.i l.revisions)) (option_copied l.found) ≡ newest g.T.Row.key (g.T.Sought.is l.number) l.revisions
