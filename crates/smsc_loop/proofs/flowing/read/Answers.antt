use Rattle.std.proofs.Common.{ℕ, List, true, false, refl, sym, subst, inl, inr}
use Rattle.smsc_loop.specs.Phases.{Serves, Fails}
use Rattle.std.specs.Io.KnownBytes.{Consumes}
use Rattle.smsc_loop.proofs.Went.{if_refused}
use Rattle.smsc_loop.proofs.Joins.{did_none, did_wire, did_take, did_refused, kept_bytes}
use Rattle.smsc_loop.proofs.flowing.read.Goals as goal

pub returns-then-is_full-clause-did : goal.returns-then-is_full-clause-did
returns-then-is_full-clause-did g c = λ s. did_none g.G.Endpoint.does _ _ _ _ s

pub returns-in_err-take-in-Some-clause-did : goal.returns-in_err-take-in-Some-clause-did
returns-in_err-take-in-Some-clause-did g c = λ s.
    did_refused g.G.Endpoint.does _ c.from_residual.result c.from_residual.ensures.1 _ _ Serves _ _ s
    (did_take g.G.Endpoint.does _ false _ _ Serves Fails _ _ _ _ s c.in_err-take-in-Some.ensures.took (refl, refl)
    (subst (λ (l : List ℕ). Consumes (g.W.Wire.remaining c.args.wire.now) (g.W.Wire.remaining c.read_now.new.self) l) (sym c.piece.ensures.last) c.in-Some.ensures.read)
    c.in-Some.ensures.written)

pub returns-in_err-take-in-Some-clause-stays : goal.returns-in_err-take-in-Some-clause-stays
returns-in_err-take-in-Some-clause-stays g c = if_refused _ _ c.from_residual.result c.from_residual.ensures.1

pub returns-in_ok-take-in-Some-clause-did : goal.returns-in_ok-take-in-Some-clause-did
returns-in_ok-take-in-Some-clause-did g c = λ s.
    did_take g.G.Endpoint.does _ true _ _ Serves Serves _ _ _ _ s c.in_ok-take-in-Some.ensures.took (refl, refl)
    (subst (λ (l : List ℕ). Consumes (g.W.Wire.remaining c.args.wire.now) (g.W.Wire.remaining c.read_now.new.self) l) (sym c.piece.ensures.last) c.in-Some.ensures.read)
    c.in-Some.ensures.written

pub returns-in-Nothing-clause-did : goal.returns-in-Nothing-clause-did
returns-in-Nothing-clause-did g c = λ s. did_wire g.G.Endpoint.does _ Serves _ _ _ _ s c.in-Nothing.ensures.read (kept_bytes _ _ c.in-Nothing.ensures.written)

pub returns-in-Ended-clause-did : goal.returns-in-Ended-clause-did
returns-in-Ended-clause-did g c = λ s. did_wire g.G.Endpoint.does _ Serves _ _ _ _ s c.in-Ended.ensures.read (kept_bytes _ _ c.in-Ended.ensures.written)

pub returns-then-is_full-clause-stays : goal.returns-then-is_full-clause-stays
returns-then-is_full-clause-stays g c = inr refl

pub returns-in_ok-take-in-Some-clause-stays : goal.returns-in_ok-take-in-Some-clause-stays
returns-in_ok-take-in-Some-clause-stays g c = inl refl

pub returns-in-Nothing-clause-stays : goal.returns-in-Nothing-clause-stays
returns-in-Nothing-clause-stays g c = inr refl

pub returns-in-Ended-clause-stays : goal.returns-in-Ended-clause-stays
returns-in-Ended-clause-stays g c = inl refl

pub returns-in-Lost-clause-did : goal.returns-in-Lost-clause-did
returns-in-Lost-clause-did g c = λ s. did_wire g.G.Endpoint.does _ Serves _ _ _ _ s c.in-Lost.ensures.read (kept_bytes _ _ c.in-Lost.ensures.written)

pub returns-in-Lost-clause-stays : goal.returns-in-Lost-clause-stays
returns-in-Lost-clause-stays g c = inl refl
