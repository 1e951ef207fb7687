use Rattle.sms_store_sql.proofs.listing.Steps.{ok_then}
use Rattle.sms_store.specs.handset.HandsetRows.{handset_stores}
use Rattle.sms_store.proofs.handset.Turning.{counters_turn}
use Rattle.sms_store.proofs.keeping.Lists.{turns_none}
use Rattle.sms_store.proofs.handset.commit.write_counters.Goals as goal

pub returns-in-Some-clause-done : goal.returns-in-Some-clause-done
returns-in-Some-clause-done g c clean live inside = rw c.in-Some.is (ok_then c.put.result (counters_turn c.in-Some.counters _ _) (c.put.ensures.done clean live inside))

pub returns-in-None-clause-done : goal.returns-in-None-clause-done
returns-in-None-clause-done g c clean live inside = rw c.in-None.is (turns_none handset_stores _ live inside)
