use Rattle.std.proofs.Common.{Ok, Err}
use Rattle.sqlite.specs.Held.{state}
use Rattle.sms_rows.specs.declared.keep.error.KeepError.TheVariants.{OldVersion, NotThisStore}
use Rattle.sms_store_sql.proofs.listing.Steps.{ok_then}
use Rattle.sms_store_sql.specs.declared.listing.meta.StoreKind.TheVariants.{Centre}
use Rattle.sms_store_tables.specs.centre.CentreSchema.{second_schema}
use Rattle.sms_store_tables.specs.centre.MetaList.{second_list}
use Rattle.sms_store.specs.centre.Refusing.{SaysSecond}
use Rattle.sms_store.proofs.centre.Raised.{left_by_raise_second, unraised}
use Rattle.sms_store.proofs.centre.Renaming.{raised_second_then}
use Rattle.sms_store.proofs.keeping.Openings.{refuses_found, refuses_otherwise, says_judged}
use Rattle.sms_store.proofs.centre.migrating.raise_second_said.Goals as goal

pub returns-in-Ok-clause-ok : goal.returns-in-Ok-clause-ok
returns-in-Ok-clause-ok g c clean ours =
    let judged = c.in-Ok.ensures.ok (c.raise_second.ensures.clean clean) ours in
    ok_then c.raise_second.result (λ made. (raised_second_then _ _ _ judged.0 made, says_judged second_schema second_list Centre 2 _ (Ok tt) ours judged.1)) (c.raise_second.ensures.ok clean)

pub returns-in-Ok-clause-err : goal.returns-in-Ok-clause-err
returns-in-Ok-clause-err g c clean ours =
    let judged = c.in-Ok.ensures.ok (c.raise_second.ensures.clean clean) ours in
    unraised (state g.S.Store c.args.conn.now) (state g.S.Store c.judge_said.new.conn) (state g.S.Store c.raise_second.new.conn) c.raise_second.result judged.0
    (λ error h. refuses_otherwise (SaysSecond 2 (Err OldVersion)) (SaysSecond 2 (Err NotThisStore)) _ error h) c.raise_second.ensures.named (c.raise_second.ensures.err clean)

pub returns-in-Ok-clause-stop : goal.returns-in-Ok-clause-stop
returns-in-Ok-clause-stop g c ours clean left may =
    let judged = c.in-Ok.ensures.ok (c.raise_second.ensures.clean clean) ours in
    left_by_raise_second _ (state g.S.Store c.judge_said.new.conn) left judged.0 ours (λ rows kept. c.raise_second.ensures.stop clean rows kept left may)

pub returns-in-Err-clause-err : goal.returns-in-Err-clause-err
returns-in-Err-clause-err g c clean ours =
    let h = c.in-Err.ensures.err clean ours in
    (refuses_found second_schema second_list Centre 2 _ c.in-Err.error ours h.0, h.1)

pub returns-in-Err-clause-stop : goal.returns-in-Err-clause-stop
returns-in-Err-clause-stop g c ours = c.judge_said.ensures.stop ours
