use Rattle.std.proofs.Common.{◌≡◌, ◌≢◌, rules}
use Rattle.sqlite.specs.Held.{state}
use Rattle.sms_store_sql.proofs.listing.Steps.{ok_then}
use Rattle.sms_store_tables.specs.centre.CentreSchema.{first_schema, second_schema}
use Rattle.sms_store.proofs.Answered.{if_err}
use Rattle.sms_store.proofs.centre.Refusals.{refuses_first, refuses_now, refuses_second}
use Rattle.sms_store.proofs.centre.Renaming.{migrated_first, migrated_opened, migrated_second}
use Rattle.sms_store.proofs.centre.migrating.ready_raised.Goals as goal

pub returns-then-is_first_schema-clause-ok : goal.returns-then-is_first_schema-clause-ok
returns-then-is_first_schema-clause-ok g c clean =
    let ours : (state g.S.Store c.args.conn.now).now.schema ≡ first_schema = search rules in
    ok_then c.raise_first.result (λ h setup. migrated_first setup _ _ ours h.0 h.1) (c.raise_first.ensures.ok clean ours)

pub returns-then-is_first_schema-clause-err : goal.returns-then-is_first_schema-clause-err
returns-then-is_first_schema-clause-err g c clean =
    let ours : (state g.S.Store c.args.conn.now).now.schema ≡ first_schema = search rules in
    if_err c.raise_first.result (λ error h. (refuses_first _ error h.0, h.1)) (c.raise_first.ensures.err clean ours)

pub returns-then-is_first_schema-clause-stop : goal.returns-then-is_first_schema-clause-stop
returns-then-is_first_schema-clause-stop g c =
    let ours : (state g.S.Store c.args.conn.now).now.schema ≡ first_schema = search rules in
    c.raise_first.ensures.stop ours

pub returns-then-is_second_schema-clause-ok : goal.returns-then-is_second_schema-clause-ok
returns-then-is_second_schema-clause-ok g c clean =
    let ours : (state g.S.Store c.args.conn.now).now.schema ≡ second_schema = search rules in
    ok_then c.raise_second_said.result (λ h setup. migrated_second setup _ _ ours h.0 h.1) (c.raise_second_said.ensures.ok clean ours)

pub returns-then-is_second_schema-clause-err : goal.returns-then-is_second_schema-clause-err
returns-then-is_second_schema-clause-err g c clean =
    let ours : (state g.S.Store c.args.conn.now).now.schema ≡ second_schema = search rules in
    if_err c.raise_second_said.result (λ error h. (refuses_second _ error h.0, h.1)) (c.raise_second_said.ensures.err clean ours)

pub returns-then-is_second_schema-clause-stop : goal.returns-then-is_second_schema-clause-stop
returns-then-is_second_schema-clause-stop g c =
    let ours : (state g.S.Store c.args.conn.now).now.schema ≡ second_schema = search rules in
    c.raise_second_said.ensures.stop ours

pub returns-clause-ok : goal.returns-clause-ok
returns-clause-ok g c clean = ok_then c.ready_current.result (λ h setup. migrated_opened setup _ _ (h setup)) (c.ready_current.ensures.ok clean)

pub returns-clause-err : goal.returns-clause-err
returns-clause-err g c clean =
    let other_first : (state g.S.Store c.args.conn.now).now.schema ≢ first_schema = search rules in
    let other_second : (state g.S.Store c.args.conn.now).now.schema ≢ second_schema = search rules in
    if_err c.ready_current.result (λ error h. (refuses_now 1 _ error other_first other_second h.0, h.1)) (c.ready_current.ensures.err clean)
