use Rattle.std.proofs.Common.{◌≡◌, inl, inr, sym, ap, subst, ◌∙◌}
use Rattle.sqlite.specs.Effect.{Database}
use Rattle.sqlite.specs.Held.{state}
use Rattle.sms_rows.specs.declared.keep.error.KeepError.TheVariants.{Closed}
use Rattle.sms_store_sql.specs.declared.listing.closing.Health.{Health}
use Rattle.sms_store_sql.specs.listing.Closing.{IsShut, health_after}
use Rattle.sms_store_sql.proofs.listing.ConnectedCalls.{refusal_keeps, look_on_disk, look_rows}
use Rattle.sms_store.specs.keeping.Stores.{IsStoreWith}
use Rattle.sms_store.proofs.keeping.keep.StoreKeepKeep.load.Goals as goal

pub returns-in-Ok-clause-outcome : goal.returns-in-Ok-clause-outcome
returns-in-Ok-clause-outcome g c rows clean kept =
    let lawful = g.met.P.Kept.lawful in
    let h = c.in-Ok.ensures.ok clean (lawful.tables _ rows kept.store.0) in (
      h.1 rows kept.store,
      record {
        is_open = h.0.is_open;
        autocommit = h.0.mode;
        settled = h.0.now_is ∙ sym h.0.committed_is;
        store = subst (λ (db : Database). IsStoreWith g.P.Kept.stores c.args.self.now.setup db rows) (sym h.0.now_is) kept.store;
      },
    )

pub returns-in-Err-clause-outcome : goal.returns-in-Err-clause-outcome
returns-in-Err-clause-outcome g c rows clean kept =
    let keep = c.args.self.now in
    let of = g.P.Kept.stores in
    let lawful = g.met.P.Kept.lawful in
    refusal_keeps (IsStoreWith of keep.setup) c.in-Err.error c.look_or_close.new.health (state g.S.Store keep.conn) (state g.S.Store c.look_or_close.new.conn) rows c.in-Err.ensures.refused kept
    c.look_or_close.ensures.mode (c.in-Err.ensures.err clean (lawful.tables _ rows kept.store.0))

pub returns-in-Err-clause-shut : goal.returns-in-Err-clause-shut
returns-in-Err-clause-shut g c closed =
    let same : c.in-Err.error ≡ Closed = cc in
    subst (λ (h : Health). IsShut h (state g.S.Store c.look_or_close.new.conn)) (sym (c.in-Err.ensures.refused ∙ ap health_after same)) tt

pub returns-in-Ok-clause-disk : goal.returns-in-Ok-clause-disk
returns-in-Ok-clause-disk g c rows clean kept left may =
    let keep = c.args.self.now in
    let of = g.P.Kept.stores in
    let lawful = g.met.P.Kept.lawful in
    let it = (look_on_disk (IsStoreWith of keep.setup) (state g.S.Store keep.conn) (state g.S.Store c.look_or_close.new.conn) rows kept (λ db open_yet earlier. g.met.S.Store.settled keep.conn.store db open_yet earlier)
    (λ db left_it. elim (c.look_or_close.ensures.stop.crash clean db left_it) [ inl earlier ↦ inl earlier | inr same ↦ inr (same kept.is_open (lawful.tables _ rows kept.store.0)) ]) left may) in
    (it.db, it.same, it.store.0)

pub returns-in-Ok-clause-stop : goal.returns-in-Ok-clause-stop
returns-in-Ok-clause-stop g c rows clean kept left may =
    let keep = c.args.self.now in
    let of = g.P.Kept.stores in
    let lawful = g.met.P.Kept.lawful in
    look_rows (IsStoreWith of keep.setup) (lawful.once keep.setup) (state g.S.Store c.look_or_close.new.conn) rows left
    (look_on_disk (IsStoreWith of keep.setup) (state g.S.Store keep.conn) (state g.S.Store c.look_or_close.new.conn) rows kept (λ db open_yet earlier. g.met.S.Store.settled keep.conn.store db open_yet earlier)
    (λ db left_it. elim (c.look_or_close.ensures.stop.crash clean db left_it) [ inl earlier ↦ inl earlier | inr same ↦ inr (same kept.is_open (lawful.tables _ rows kept.store.0)) ])) may

pub returns-in-Err-clause-disk : goal.returns-in-Err-clause-disk
returns-in-Err-clause-disk g c rows clean kept left may =
    let keep = c.args.self.now in
    let of = g.P.Kept.stores in
    let lawful = g.met.P.Kept.lawful in
    let it = (look_on_disk (IsStoreWith of keep.setup) (state g.S.Store keep.conn) (state g.S.Store c.look_or_close.new.conn) rows kept (λ db open_yet earlier. g.met.S.Store.settled keep.conn.store db open_yet earlier)
    (λ db left_it. elim (c.look_or_close.ensures.stop.crash clean db left_it) [ inl earlier ↦ inl earlier | inr same ↦ inr (same kept.is_open (lawful.tables _ rows kept.store.0)) ]) left may) in
    (it.db, it.same, it.store.0)

pub returns-in-Err-clause-stop : goal.returns-in-Err-clause-stop
returns-in-Err-clause-stop g c rows clean kept left may =
    let keep = c.args.self.now in
    let of = g.P.Kept.stores in
    let lawful = g.met.P.Kept.lawful in
    look_rows (IsStoreWith of keep.setup) (lawful.once keep.setup) (state g.S.Store c.look_or_close.new.conn) rows left
    (look_on_disk (IsStoreWith of keep.setup) (state g.S.Store keep.conn) (state g.S.Store c.look_or_close.new.conn) rows kept (λ db open_yet earlier. g.met.S.Store.settled keep.conn.store db open_yet earlier)
    (λ db left_it. elim (c.look_or_close.ensures.stop.crash clean db left_it) [ inl earlier ↦ inl earlier | inr same ↦ inr (same kept.is_open (lawful.tables _ rows kept.store.0)) ])) may

pub returns-in-Ok-clause-back : goal.returns-in-Ok-clause-back
returns-in-Ok-clause-back g c rows clean kept same = cc

pub returns-in-Err-clause-back : goal.returns-in-Err-clause-back
returns-in-Err-clause-back g c rows clean kept same = c.look_or_close.ensures.back clean (g.met.P.Kept.lawful.tables _ rows kept.store.0) (rows, kept.store) (c.in-Err.is ∙ same)
