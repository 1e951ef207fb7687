use Rattle.std.proofs.Common.{None, Some, Option, Result, Ok, Err, IfErr, MatchOption}
use Rattle.sms_store_sql.specs.listing.Causes.{IsOfNoStore}
use Rattle.sms_store_sql.proofs.listing.Steps.{if_ok}
use Rattle.sms_store.proofs.Answered.{if_err, some_refused}
use Rattle.sms_store.proofs.keeping.opening.StoreKeep+P+FileStore+File.open.Goals as goal

pub returns-clause-opened : goal.returns-clause-opened
returns-clause-opened g c = if_ok c.open_from.result (λ keep h. (h.0, λ clean. let it = h.1 clean in (it.0, it.2))) c.open_from.ensures.opened

pub returns-clause-refused : goal.returns-clause-refused
returns-clause-refused g c = if_err c.open_from.result (λ e h. some_refused (IsOfNoStore e.0) e.1 (λ conn it. (it.0, λ clean. let all = it.1 clean in (all.0, all.2))) h) c.open_from.ensures.refused
