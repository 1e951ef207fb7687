use Rattle.std.proofs.Common.{◌≡◌, ◌<◌, ◌≤◌, List, ℕ, length, true, false, refl, sym, ap, ◌∙◌, arith}
use Rattle.smsc_loop.specs.Flowing.{most_waiting}
use Rattle.smsc_loop.proofs.Flows.{flows_stalled, flows_by}
use Rattle.smsc_loop.proofs.flowing.end_flowing.Goals as goal

pub returns-then-octets-gt-MOST_OCTETS-clause-ends : goal.returns-then-octets-gt-MOST_OCTETS-clause-ends
returns-then-octets-gt-MOST_OCTETS-clause-ends g c =
    let waits = g.G.Endpoint.waits c.args.endpoint.now in
    let same : length c.octets.result.now ≡ length waits = ap (λ (l : List ℕ). length l) c.octets.ensures.waits in
    let many : most_waiting < length waits = omega (arith, same, c.if-octets-gt-MOST_OCTETS.true) in
    flows_stalled (length waits) _ _ _ many

pub returns-then-octets-gt-MOST_OCTETS-clause-meant : goal.returns-then-octets-gt-MOST_OCTETS-clause-meant
returns-then-octets-gt-MOST_OCTETS-clause-meant g c = refl

pub end_answered-requires : goal.end_answered-requires
end_answered-requires g c = c.is_answered.ensures.answered c.if-is_answered.true

pub returns-then-is_answered-clause-ends : goal.returns-then-is_answered-clause-ends
returns-then-is_answered-clause-ends g c =
    let waits = g.G.Endpoint.waits c.args.endpoint.now in
    let same : length c.octets.result.now ≡ length waits = ap (λ (l : List ℕ). length l) c.octets.ensures.waits in
    let few : length waits ≤ most_waiting = omega (arith, same, c.if-octets-gt-MOST_OCTETS.false) in
    flows_by (length waits) _ _ _ true c.end_answered.result few (sym c.if-is_answered.true ∙ c.is_answered.ensures.value) c.end_answered.ensures.ends

pub returns-then-is_answered-clause-meant : goal.returns-then-is_answered-clause-meant
returns-then-is_answered-clause-meant g c = c.end_answered.ensures.meant

pub returns-clause-ends : goal.returns-clause-ends
returns-clause-ends g c =
    let waits = g.G.Endpoint.waits c.args.endpoint.now in
    let same : length c.octets.result.now ≡ length waits = ap (λ (l : List ℕ). length l) c.octets.ensures.waits in
    let few : length waits ≤ most_waiting = omega (arith, same, c.if-octets-gt-MOST_OCTETS.false) in
    flows_by (length waits) _ _ _ false _ few (sym c.if-is_answered.false ∙ c.is_answered.ensures.value) refl
