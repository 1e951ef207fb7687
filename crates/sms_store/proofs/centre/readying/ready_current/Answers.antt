use Rattle.std.proofs.Common.{◌≡◌, ◌≢◌, inl, refl, rules, Ok}
use Rattle.sqlite.specs.Held.{state}
use Rattle.sms_store_sql.proofs.listing.Steps.{ok_then}
use Rattle.sms_store_sql.specs.schema.Blank.{no_tables}
use Rattle.sms_store_tables.specs.centre.CentreSchema.{centre_schema}
use Rattle.sms_store_tables.specs.centre.MetaList.{meta_list}
use Rattle.sms_store_sql.specs.declared.listing.meta.StoreKind.TheVariants.{Centre}
use Rattle.sms_store.specs.centre.CentreRows.{centre_stores}
use Rattle.sms_store.specs.centre.Refusing.{IsOldNow, IsOtherNow}
use Rattle.sms_store.proofs.Answered.{err_both, if_err}
use Rattle.sms_store.specs.centre.Lawful.{centre_lawful}
use Rattle.sms_store.proofs.centre.Refusals.{refuses_now_said}
use Rattle.sms_store.proofs.keeping.Leaving.{left_alone}
use Rattle.sms_store.proofs.keeping.Openings.{opened_blank, opened_ours, refuses_found, refuses_otherwise, says_judged}
use Rattle.sms_store.proofs.centre.readying.ready_current.Goals as goal

pub returns-then-is_blank-clause-ok : goal.returns-then-is_blank-clause-ok
returns-then-is_blank-clause-ok g c clean =
    let none : (state g.S.Store c.args.conn.now).now.schema ≡ no_tables = search rules in
    ok_then c.found.result (λ founded setup. opened_blank centre_stores centre_lawful setup (state g.S.Store c.args.conn.now) (state g.S.Store c.found.new.conn) none (founded setup)) (c.found.ensures.ok clean none)

pub returns-then-is_blank-clause-err : goal.returns-then-is_blank-clause-err
returns-then-is_blank-clause-err g c clean =
    err_both c.found.result (λ error other same. (refuses_otherwise IsOldNow IsOtherNow _ error other, same)) c.found.ensures.named (c.found.ensures.err clean)

pub returns-then-is_blank-clause-stop : goal.returns-then-is_blank-clause-stop
returns-then-is_blank-clause-stop g c =
    let none : (state g.S.Store c.args.conn.now).now.schema ≡ no_tables = search rules in
    c.found.ensures.stop none

pub returns-then-not-is_centre_schema-clause-stop : goal.returns-then-not-is_centre_schema-clause-stop
returns-then-not-is_centre_schema-clause-stop g c clean left may =
    let conn = c.args.conn.now in
    left_alone centre_stores (state g.S.Store conn) left (λ db open_yet earlier. g.met.S.Store.settled conn.store db open_yet earlier) may

pub returns-clause-ok : goal.returns-clause-ok
returns-clause-ok g c clean =
    let ours : (state g.S.Store c.args.conn.now).now.schema ≡ centre_schema = search rules in
    ok_then c.judge_said.result (λ h setup. opened_ours centre_stores centre_lawful setup _ _ ours h.0 (says_judged centre_schema meta_list Centre 3 _ (Ok tt) ours h.1))
    (c.judge_said.ensures.ok clean ours)

pub returns-clause-err : goal.returns-clause-err
returns-clause-err g c clean =
    let ours : (state g.S.Store c.args.conn.now).now.schema ≡ centre_schema = search rules in
    if_err c.judge_said.result (λ error h. (refuses_now_said _ error (refuses_found centre_schema meta_list Centre 3 _ error ours h.0), h.1))
    (c.judge_said.ensures.err clean ours)

pub returns-then-not-is_centre_schema-clause-err : goal.returns-then-not-is_centre_schema-clause-err
returns-then-not-is_centre_schema-clause-err g c clean =
    let db = (state g.S.Store c.args.conn.now).now in
    let some : db.schema ≢ no_tables = search rules in
    let other : db.schema ≢ centre_schema = search rules in
    (inl (some, other), λ settled live. (refl, refl))

pub returns-clause-stop : goal.returns-clause-stop
returns-clause-stop g c =
    let ours : (state g.S.Store c.args.conn.now).now.schema ≡ centre_schema = search rules in
    c.judge_said.ensures.stop ours
