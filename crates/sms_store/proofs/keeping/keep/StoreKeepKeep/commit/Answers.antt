use Rattle.std.proofs.Common.{◌≡◌, inl, inr, sym, ap, subst, ◌∙◌}
use Rattle.sqlite.specs.Held.{state}
use Rattle.sms_rows.specs.declared.keep.error.KeepError.TheVariants.{Closed}
use Rattle.sms_store_sql.specs.declared.listing.closing.Health.{Health}
use Rattle.sms_store_sql.specs.listing.Closing.{IsShut, health_after}
use Rattle.sms_store_sql.proofs.listing.ConnectedCalls.{refusal_keeps, stop_on_disk, stop_rows}
use Rattle.sms_store_sql.proofs.listing.Keeping.{committed_keeps}
use Rattle.sms_store.specs.keeping.Stores.{IsStoreWith, Turns}
use Rattle.sms_store.proofs.keeping.StoresKept.{turns_with}
use Rattle.sms_store.proofs.keeping.keep.StoreKeepKeep.commit.Goals as goal

pub returns-in-Ok-clause-outcome : goal.returns-in-Ok-clause-outcome
returns-in-Ok-clause-outcome g c rows clean kept =
    let keep = c.args.self.now in
    let of = g.P.Kept.stores in
    let lawful = g.met.P.Kept.lawful in
    let change = g.P.Kept.after c.args.changes.now in
    let turns = turns_with of change (g.met.P.Kept.same_setup c.args.changes.now) keep.setup in
    (tt, committed_keeps (IsStoreWith of keep.setup) (lawful.once keep.setup) (Turns of change) change turns (state g.S.Store keep.conn) _ rows kept (c.in-Ok.ensures.ok clean))

pub returns-in-Err-clause-outcome : goal.returns-in-Err-clause-outcome
returns-in-Err-clause-outcome g c rows clean kept =
    let keep = c.args.self.now in
    let of = g.P.Kept.stores in
    let lawful = g.met.P.Kept.lawful in
    refusal_keeps (IsStoreWith of keep.setup) c.in-Err.error c.transact_or_close.new.health (state g.S.Store keep.conn) (state g.S.Store c.transact_or_close.new.conn) rows c.in-Err.ensures.refused kept
    c.transact_or_close.ensures.mode (c.in-Err.ensures.err clean)

pub returns-in-Err-clause-shut : goal.returns-in-Err-clause-shut
returns-in-Err-clause-shut g c closed =
    let same : c.in-Err.error ≡ Closed = cc in
    subst (λ (h : Health). IsShut h (state g.S.Store c.transact_or_close.new.conn)) (sym (c.in-Err.ensures.refused ∙ ap health_after same)) tt

pub returns-in-Ok-clause-disk : goal.returns-in-Ok-clause-disk
returns-in-Ok-clause-disk g c rows clean kept left may =
    let keep = c.args.self.now in
    let of = g.P.Kept.stores in
    let lawful = g.met.P.Kept.lawful in
    let change = g.P.Kept.after c.args.changes.now in
    let turns = turns_with of change (g.met.P.Kept.same_setup c.args.changes.now) keep.setup in
    elim (stop_on_disk (IsStoreWith of keep.setup) (Turns of change) change turns (state g.S.Store keep.conn) (state g.S.Store c.transact_or_close.new.conn) rows kept
    (λ db open_yet earlier. g.met.S.Store.settled keep.conn.store db open_yet earlier) (c.transact_or_close.ensures.stop.crash clean) left may) [
      | inl it ↦ inl (it.db, it.same, it.store.0)
      | inr it ↦ inr (it.db, it.same, it.store.0)
    ]

pub returns-in-Ok-clause-stop : goal.returns-in-Ok-clause-stop
returns-in-Ok-clause-stop g c rows clean kept left may =
    let keep = c.args.self.now in
    let of = g.P.Kept.stores in
    let lawful = g.met.P.Kept.lawful in
    let change = g.P.Kept.after c.args.changes.now in
    let turns = turns_with of change (g.met.P.Kept.same_setup c.args.changes.now) keep.setup in
    stop_rows (IsStoreWith of keep.setup) (lawful.once keep.setup) (state g.S.Store c.transact_or_close.new.conn) rows (change rows) left
    (stop_on_disk (IsStoreWith of keep.setup) (Turns of change) change turns (state g.S.Store keep.conn) (state g.S.Store c.transact_or_close.new.conn) rows kept
    (λ db open_yet earlier. g.met.S.Store.settled keep.conn.store db open_yet earlier) (c.transact_or_close.ensures.stop.crash clean)) may

pub returns-in-Err-clause-disk : goal.returns-in-Err-clause-disk
returns-in-Err-clause-disk g c rows clean kept left may =
    let keep = c.args.self.now in
    let of = g.P.Kept.stores in
    let lawful = g.met.P.Kept.lawful in
    let change = g.P.Kept.after c.args.changes.now in
    let turns = turns_with of change (g.met.P.Kept.same_setup c.args.changes.now) keep.setup in
    elim (stop_on_disk (IsStoreWith of keep.setup) (Turns of change) change turns (state g.S.Store keep.conn) (state g.S.Store c.transact_or_close.new.conn) rows kept
    (λ db open_yet earlier. g.met.S.Store.settled keep.conn.store db open_yet earlier) (c.transact_or_close.ensures.stop.crash clean) left may) [
      | inl it ↦ inl (it.db, it.same, it.store.0)
      | inr it ↦ inr (it.db, it.same, it.store.0)
    ]

pub returns-in-Err-clause-stop : goal.returns-in-Err-clause-stop
returns-in-Err-clause-stop g c rows clean kept left may =
    let keep = c.args.self.now in
    let of = g.P.Kept.stores in
    let lawful = g.met.P.Kept.lawful in
    let change = g.P.Kept.after c.args.changes.now in
    let turns = turns_with of change (g.met.P.Kept.same_setup c.args.changes.now) keep.setup in
    stop_rows (IsStoreWith of keep.setup) (lawful.once keep.setup) (state g.S.Store c.transact_or_close.new.conn) rows (change rows) left
    (stop_on_disk (IsStoreWith of keep.setup) (Turns of change) change turns (state g.S.Store keep.conn) (state g.S.Store c.transact_or_close.new.conn) rows kept
    (λ db open_yet earlier. g.met.S.Store.settled keep.conn.store db open_yet earlier) (c.transact_or_close.ensures.stop.crash clean)) may
