use Rattle.std.proofs.Common.{◌≡◌, sym, ap, subst, ◌∙◌}
use Rattle.sqlite.specs.Held.{state}
use Rattle.sms_rows.specs.declared.keep.error.KeepError.TheVariants.{Closed}
use Rattle.sms_store_sql.specs.declared.listing.closing.Health.{Health}
use Rattle.sms_store_sql.specs.listing.Closing.{IsShut, health_after}
use Rattle.sms_store_sql.proofs.listing.ConnectedCalls.{refusal_keeps}
use Rattle.sms_store.specs.keeping.Stores.{IsStoreWith}
use Rattle.sms_store.specs.centre.CentreRows.{centre_stores}
use Rattle.sms_store.proofs.centre.BodiesRead.{report_read}
use Rattle.sms_store.proofs.keeping.StoresKept.{kept_still}
use Rattle.sms_store.proofs.centre.bodies.CentreKeep+S.report_octets.Goals as goal

pub returns-in-Ok-clause-outcome : goal.returns-in-Ok-clause-outcome
returns-in-Ok-clause-outcome g c rows clean kept =
    let h = c.in-Ok.ensures.ok clean kept.store.0.schema in
    let setup = c.args.self.now.setup in
    ((λ is. report_read _ setup rows kept.store c.args.key _ c.in-Ok.reports.items is (rw c.number.ensures at h.1) c.octets_of_first.ensures), kept_still centre_stores setup _ _ rows h.0 kept.store)

pub returns-in-Err-clause-outcome : goal.returns-in-Err-clause-outcome
returns-in-Err-clause-outcome g c rows clean kept =
    let keep = c.args.self.now in
    refusal_keeps (IsStoreWith centre_stores keep.setup) c.in-Err.error c.look_or_close.new.health (state g.S.Store keep.conn) (state g.S.Store c.look_or_close.new.conn) rows c.in-Err.ensures.refused kept
    c.look_or_close.ensures.mode (c.in-Err.ensures.err clean kept.store.0.schema)

pub returns-in-Err-clause-shut : goal.returns-in-Err-clause-shut
returns-in-Err-clause-shut g c closed =
    let same : c.in-Err.error ≡ Closed = cc in
    subst (λ (h : Health). IsShut h (state g.S.Store c.look_or_close.new.conn)) (sym (c.in-Err.ensures.refused ∙ ap health_after same)) tt
