use Rattle.std.proofs.Common.{ℕ, List, Option, Some, None, take, refl, subst, ◌∙◌, ◌≤◌, length}
use Rattle.std.specs.Prelude.{IfNone}
use Rattle.smsc_loop.specs.Phases.{Serves}
use Rattle.std.specs.Io.KnownBytes.{Appends}
use Rattle.sms_base.proofs.Bools.{or_true}
use Rattle.smsc_loop.proofs.Joins.{did_none, did_wire, did_send, none_given, nothing_more}
use Rattle.smsc_loop.proofs.flowing.send.Goals as goal

pub returns-then-is_empty-clause-did : goal.returns-then-is_empty-clause-did
returns-then-is_empty-clause-did g c = λ s. did_none g.G.Endpoint.does _ _ _ _ s

pub returns-in_err-count-clause-did : goal.returns-in_err-count-clause-did
returns-in_err-count-clause-did g c = λ s. did_wire g.G.Endpoint.does _ _ _ _ _ _ s (none_given _ _ c.write_soon.ensures.remaining) (nothing_more _ _ c.in_err-count.ensures.wrote)

pub returns-clause-did : goal.returns-clause-did
returns-clause-did g c = λ s.
    did_send g.G.Endpoint.does _ _ _ Serves Serves _ _ _ _ s c.sent.ensures.sent (refl, refl) c.write_soon.ensures.remaining
    (subst (λ (l : List ℕ). Appends (g.W.Wire.written c.args.wire.now) (g.W.Wire.written c.write_soon.new.self) (take c.in_ok-count.count l)) c.octets-2.ensures.waits c.in_ok-count.ensures.wrote.1)

if_none : {A : Type 0} (r : Option A) (P : Type 0) → P → IfNone r P
if_none None P p = p
if_none (Some x) P p = tt

pub returns-in_err-count-clause-none : goal.returns-in_err-count-clause-none
returns-in_err-count-clause-none g c = if_none c.from_residual.result _ (c.in_err-count.ensures.closed ∙ or_true _)

pub sent-requires : goal.sent-requires
sent-requires g c = record { count = subst (λ (l : List ℕ). c.in_ok-count.count ≤ length l) c.octets-2.ensures.waits c.in_ok-count.ensures.wrote.0 }
