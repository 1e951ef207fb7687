use Rattle.sqlite.proofs.Callers.{memory_is_clean}
use Rattle.sms_store.proofs.keeping.opening.in_memory.Goals as goal

pub returns-in-Ok-found-clause-founded : goal.returns-in-Ok-found-clause-founded
returns-in-Ok-found-clause-founded g c = c.in-Ok-found.ensures.ok (memory_is_clean c.found.new.conn) c.in-Ok.ensures.empty.2 c.args.setup
