use Rattle.std.proofs.Common.{◌≡◌, ◌≢◌, rules}
use Rattle.sqlite.specs.Held.{state}
use Rattle.sms_store_tables.specs.centre.CentreSchema.{first_schema, second_schema}
use Rattle.sms_store.proofs.Answered.{if_err}
use Rattle.sms_store.proofs.centre.Refusals.{refuses_first_now, refuses_now, refuses_second_now}
use Rattle.sms_store.proofs.centre.readying.SetupOpenable.ready.Goals as goal

pub returns-then-is_first_schema-clause-err : goal.returns-then-is_first_schema-clause-err
returns-then-is_first_schema-clause-err g c clean =
    let ours : (state g.S.Store c.args.conn.now).now.schema ≡ first_schema = search rules in
    if_err c.refuse_earlier.result (λ error h. (refuses_first_now _ error h.0, h.1)) (c.refuse_earlier.ensures.err clean ours)

pub returns-then-is_first_schema-clause-stop : goal.returns-then-is_first_schema-clause-stop
returns-then-is_first_schema-clause-stop g c =
    let ours : (state g.S.Store c.args.conn.now).now.schema ≡ first_schema = search rules in
    c.refuse_earlier.ensures.stop ours

pub returns-then-is_second_schema-clause-err : goal.returns-then-is_second_schema-clause-err
returns-then-is_second_schema-clause-err g c clean =
    let ours : (state g.S.Store c.args.conn.now).now.schema ≡ second_schema = search rules in
    if_err c.refuse_earlier-then-is_second_schema.result (λ error h. (refuses_second_now _ error h.0, h.1)) (c.refuse_earlier-then-is_second_schema.ensures.err clean ours)

pub returns-then-is_second_schema-clause-stop : goal.returns-then-is_second_schema-clause-stop
returns-then-is_second_schema-clause-stop g c =
    let ours : (state g.S.Store c.args.conn.now).now.schema ≡ second_schema = search rules in
    c.refuse_earlier-then-is_second_schema.ensures.stop ours

pub returns-clause-err : goal.returns-clause-err
returns-clause-err g c clean =
    let other_first : (state g.S.Store c.args.conn.now).now.schema ≢ first_schema = search rules in
    let other_second : (state g.S.Store c.args.conn.now).now.schema ≢ second_schema = search rules in
    if_err c.ready_current.result (λ error h. (refuses_now 3 _ error other_first other_second h.0, h.1)) (c.ready_current.ensures.err clean)
