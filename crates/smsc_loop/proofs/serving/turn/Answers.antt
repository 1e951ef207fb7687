use Rattle.std.proofs.Common.{Ok, Err}
use Rattle.std.specs.declared.alloc.AllocError.{AllocError}
use Rattle.smsc_loop.specs.Phases.{Serves}
use Rattle.smsc_loop.proofs.Duties.{obeys_ends, obeys_led}
use Rattle.smsc_loop.proofs.Went.{if_refused}
use Rattle.smsc_loop.proofs.Joins.{did_join, did_refused}
use Rattle.smsc_loop.proofs.serving.turn.Goals as goal

pub returns-in_err-heard-clause-did : goal.returns-in_err-heard-clause-did
returns-in_err-heard-clause-did g c = did_refused g.G.Endpoint.does _ c.from_residual.result c.from_residual.ensures.1 _ _ Serves _ _ _ (c.in_err-heard.ensures _ _)

pub returns-in_err-heard-clause-meant : goal.returns-in_err-heard-clause-meant
returns-in_err-heard-clause-meant g c = if_refused _ _ c.from_residual.result c.from_residual.ensures.1

pub returns-in_err-end-clause-did : goal.returns-in_err-end-clause-did
returns-in_err-end-clause-did g c =
    let led = obeys_led {E = AllocError} g.G.Endpoint.waits g.G.Endpoint.over g.G.Endpoint.owing g.G.Endpoint.does c.order.result c.now-now.result c.args.patience.now c.obey.new.patience
    c.exchange.new.endpoint c.obey.new.endpoint (Err c.in_err-end.field-0.0) c.in_err-end.ensures in
    did_refused g.G.Endpoint.does _ c.from_residual-in_err-end.result c.from_residual-in_err-end.ensures.1 _ _ Serves _ _ _
    (did_join g.G.Endpoint.does _ _ _ (c.in_ok-heard.ensures _ _) (led _ _ _))

pub returns-in_err-end-clause-meant : goal.returns-in_err-end-clause-meant
returns-in_err-end-clause-meant g c = if_refused _ _ c.from_residual-in_err-end.result c.from_residual-in_err-end.ensures.1

pub returns-in-Stays-clause-did : goal.returns-in-Stays-clause-did
returns-in-Stays-clause-did g c =
    let led = obeys_led {E = AllocError} g.G.Endpoint.waits g.G.Endpoint.over g.G.Endpoint.owing g.G.Endpoint.does c.order.result c.now-now.result c.args.patience.now c.obey.new.patience
    c.exchange.new.endpoint c.obey.new.endpoint (Ok c.in_ok-end.end) c.in_ok-end.ensures in
    did_join g.G.Endpoint.does _ _ _ (c.in_ok-heard.ensures _ _) (did_join g.G.Endpoint.does _ _ _ (led _ _ _) c.go_on.ensures.did)

pub returns-in-Stays-clause-meant : goal.returns-in-Stays-clause-meant
returns-in-Stays-clause-meant g c = c.go_on.ensures.meant

pub returns-in_default : goal.returns-in_default
returns-in_default g c =
    let led = obeys_led {E = AllocError} g.G.Endpoint.waits g.G.Endpoint.over g.G.Endpoint.owing g.G.Endpoint.does c.order.result c.now-now.result c.args.patience.now c.obey.new.patience
    c.exchange.new.endpoint c.obey.new.endpoint (Ok c.in_ok-end.end) c.in_ok-end.ensures in
    let ends = obeys_ends {E = AllocError} g.G.Endpoint.waits g.G.Endpoint.over g.G.Endpoint.owing g.G.Endpoint.does c.order.result c.now-now.result c.args.patience.now c.obey.new.patience
    c.exchange.new.endpoint c.obey.new.endpoint (Ok c.in_ok-end.end) c.in_ok-end.ensures in
    record { did = did_join g.G.Endpoint.does _ _ _ (c.in_ok-heard.ensures _ _) (led _ _ _); meant = ends _ _ }
