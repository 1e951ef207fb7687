use Rattle.std.proofs.Common.{inl, inr, refl, Ok}
use Rattle.sms_store_sql.specs.declared.listing.meta.StoreKind.TheVariants.{Centre}
use Rattle.sms_store_sql.specs.tabled.MetaTable.{meta_list_in}
use Rattle.sms_store.proofs.keeping.Leaving.{shown_as_it_was}
use Rattle.sms_store.proofs.keeping.Openings.{refuses_found, says_judged}
use Rattle.sms_store.proofs.centre.readying.refuse_earlier.Goals as goal

pub returns-in-Ok-clause-err : goal.returns-in-Ok-clause-err
returns-in-Ok-clause-err g c clean ours =
    let tables = g.K.KindOfStore.schema in
    let h = c.in-Ok.ensures.ok clean ours in
    (inr (refl, says_judged tables (meta_list_in tables) Centre 3 _ (Ok tt) ours h.1), shown_as_it_was _ _ h.0)

pub returns-in-Ok-clause-stop : goal.returns-in-Ok-clause-stop
returns-in-Ok-clause-stop g c ours = c.judge_said.ensures.stop ours

pub returns-in-Err-clause-err : goal.returns-in-Err-clause-err
returns-in-Err-clause-err g c clean ours =
    let tables = g.K.KindOfStore.schema in
    let h = c.in-Err.ensures.err clean ours in
    (inl (refuses_found tables (meta_list_in tables) Centre 3 _ c.in-Err.error ours h.0), h.1)

pub returns-in-Err-clause-stop : goal.returns-in-Err-clause-stop
returns-in-Err-clause-stop g c ours = c.judge_said.ensures.stop ours
