use Rattle.std.proofs.Common.{◌≤◌, true, length}
use Rattle.sms_keeper.specs.Fates.{WentOn}
use Rattle.sms_keeper.specs.Groups.{as_items, IsHolding, LeadsTwoWays}
use Rattle.sms_keeper.proofs.keeper.Keeper.gather.Given as goal

abbrev pub invariant-loop-asked : goal.invariant-loop-asked
invariant-loop-asked g l = record {
  holding : IsHolding (g.C.Clock.reads l.clock) l.fn.self l.held.items l.self;
  led : g.M.Machine.is_honest l.machine → LeadsTwoWays g.M.Machine.gives g.M.Machine.after (g.M.Machine.stands l.fn.machine) l.held.items (g.M.Machine.stands l.machine);
  went : WentOn (as_items true l.held.items);
  most : length l.held.items ≤ l.asked;
  before : g.M.Machine.is_honest l.machine → g.M.Machine.is_honest l.fn.machine;
}
