use Rattle.std.proofs.Common.{sym, ◌∙◌}
use Rattle.smsc_endpoint.proofs.Requests.{behind, no_more, one_more}
use Rattle.smsc_endpoint.proofs.outbox.Outbox.put.Goals as goal

pub invariant_of-self-then-is_request : goal.invariant_of-self-then-is_request
invariant_of-self-then-is_request c =
    let jobs = c.self.inside.jobs in
    one_more jobs.items c.push_back.new.self.items c.args.job c.self.inside.requests c.saturating_add-self-inside.result jobs.len jobs.cap c.self.invariant jobs.ok.0 jobs.small.1 jobs.small.0
    (behind jobs.items c.push_back.new.self.items c.args.job c.in_ok-push_back.ensures.items)
    (sym c.is_request-is_request.ensures ∙ c.if-is_request.true) c.saturating_add-self-inside.ensures

pub invariant_of-self-else-is_request : goal.invariant_of-self-else-is_request
invariant_of-self-else-is_request c =
    let jobs = c.self.inside.jobs in
    no_more jobs.items c.push_back.new.self.items c.args.job c.self.inside.requests c.self.invariant
    (behind jobs.items c.push_back.new.self.items c.args.job c.in_ok-push_back.ensures.items)
    (sym c.is_request-is_request.ensures ∙ c.if-is_request.false)
