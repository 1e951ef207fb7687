use Rattle.sms_world_model.proofs.Allocations.{may_give, gave, still_refines, seen_again}
use Rattle.sms_world_model.proofs.last_allocations_suffice.Goals as goal

pub returns-clause-again : goal.returns-clause-again
returns-clause-again c latest down now handset reference refines earlier = may_give latest down now handset reference refines earlier

pub returns-clause-gave : goal.returns-clause-gave
returns-clause-gave c latest next down now g refines from here = gave latest next down now g refines from here

pub returns-clause-later : goal.returns-clause-later
returns-clause-later c latest down now later refines l = still_refines latest down now later refines l

pub returns-clause-recovered : goal.returns-clause-recovered
returns-clause-recovered c latest down now start refines l = seen_again latest down now start refines l
