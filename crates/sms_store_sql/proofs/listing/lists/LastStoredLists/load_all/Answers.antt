use Rattle.sms_store_sql.proofs.listing.lists.LastStoredLists.load_all.Goals as goal

pub returns-clause-back : goal.returns-clause-back
returns-clause-back g c clean ours holds = c.load.ensures.back clean ours holds.0 holds.1
