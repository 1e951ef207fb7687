use Rattle.smsc_service.specs.Serving.{refusal_for}
use Rattle.smsc_service.proofs.ByOctets.{refused_then, kept_then}
use Rattle.smsc_service.proofs.short.short.Goals as goal

pub returns-in-Some-clause-outs : goal.returns-in-Some-clause-outs
returns-in-Some-clause-outs c = λ core represents.
    refused_then (refusal_for c.args.asked.now core) c.in-Some.status c.args.stimulus.now c.args.made.outs c.refused.result.outs (c.in-Some.ensures core represents) c.refused.ensures.outs

pub returns-in-None-clause-outs : goal.returns-in-None-clause-outs
returns-in-None-clause-outs c = λ core represents.
    kept_then (refusal_for c.args.asked.now core) c.args.stimulus.now c.args.made.outs (c.in-None.ensures core represents)
