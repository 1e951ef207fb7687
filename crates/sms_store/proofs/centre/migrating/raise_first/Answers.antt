use Rattle.std.proofs.Common.{Ok, Err}
use Rattle.sqlite.specs.Held.{state}
use Rattle.sms_rows.specs.declared.keep.error.KeepError.TheVariants.{OldVersion, NotThisStore}
use Rattle.sms_store_sql.proofs.listing.Steps.{ok_then}
use Rattle.sms_store_sql.specs.declared.listing.meta.StoreKind.TheVariants.{Centre}
use Rattle.sms_store_tables.specs.centre.CentreSchema.{first_schema}
use Rattle.sms_store_tables.specs.centre.MetaList.{first_list}
use Rattle.sms_store.specs.centre.Refusing.{SaysFirst}
use Rattle.sms_store.proofs.centre.Raised.{left_by_raise, unraised}
use Rattle.sms_store.proofs.centre.Renaming.{raised_then}
use Rattle.sms_store.proofs.keeping.Openings.{refuses_found, refuses_otherwise, says_judged}
use Rattle.sms_store.proofs.centre.migrating.raise_first.Goals as goal

pub returns-in-Ok-clause-ok : goal.returns-in-Ok-clause-ok
returns-in-Ok-clause-ok g c clean ours =
    let judged = c.in-Ok.ensures.ok (c.raise.ensures.clean clean) ours in
    ok_then c.raise.result (λ made. (raised_then _ _ _ judged.0 made, says_judged first_schema first_list Centre 1 _ (Ok tt) ours judged.1)) (c.raise.ensures.ok clean)

pub returns-in-Ok-clause-err : goal.returns-in-Ok-clause-err
returns-in-Ok-clause-err g c clean ours =
    let judged = c.in-Ok.ensures.ok (c.raise.ensures.clean clean) ours in
    unraised (state g.S.Store c.args.conn.now) (state g.S.Store c.judge_said.new.conn) (state g.S.Store c.raise.new.conn) c.raise.result judged.0
    (λ error h. refuses_otherwise (SaysFirst 1 (Err OldVersion)) (SaysFirst 1 (Err NotThisStore)) _ error h) c.raise.ensures.named (c.raise.ensures.err clean)

pub returns-in-Ok-clause-stop : goal.returns-in-Ok-clause-stop
returns-in-Ok-clause-stop g c ours clean left may =
    let judged = c.in-Ok.ensures.ok (c.raise.ensures.clean clean) ours in
    left_by_raise _ (state g.S.Store c.judge_said.new.conn) left judged.0 ours (λ rows kept. c.raise.ensures.stop clean rows kept left may)

pub returns-in-Err-clause-err : goal.returns-in-Err-clause-err
returns-in-Err-clause-err g c clean ours =
    let h = c.in-Err.ensures.err clean ours in
    (refuses_found first_schema first_list Centre 1 _ c.in-Err.error ours h.0, h.1)

pub returns-in-Err-clause-stop : goal.returns-in-Err-clause-stop
returns-in-Err-clause-stop g c ours = c.judge_said.ensures.stop ours
