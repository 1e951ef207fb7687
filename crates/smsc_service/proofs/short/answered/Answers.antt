use Rattle.std.proofs.Common.{refl, sym, ◌∙◌}
use Rattle.sms_keeper.specs.declared.machine.Fate.TheVariants.{Done, Refused}
use Rattle.smsc_service.specs.Serving.{refusal_for}
use Rattle.smsc_service.proofs.ByOctets.{other_then, short_then}
use Rattle.smsc_service.proofs.short.answered.Goals as goal

pub returns-in-NoMemory-clause-fate : goal.returns-in-NoMemory-clause-fate
returns-in-NoMemory-clause-fate c = c.short.ensures.fate ∙ sym c.in-NoMemory.is

pub returns-in-NoMemory-clause-outs : goal.returns-in-NoMemory-clause-outs
returns-in-NoMemory-clause-outs c = λ core represents.
    short_then c.args.made.fate (refusal_for c.args.asked.now core) c.args.stimulus.now c.args.made.outs c.short.result.outs c.in-NoMemory.is
    (c.short.ensures.outs core (represents c.in-NoMemory.is))

pub returns-in-Done-clause-outs : goal.returns-in-Done-clause-outs
returns-in-Done-clause-outs c = λ core represents.
    other_then c.args.made.fate Done (refusal_for c.args.asked.now core) c.args.stimulus.now c.args.made.outs c.in-Done.is refl

pub returns-in-Refused-clause-outs : goal.returns-in-Refused-clause-outs
returns-in-Refused-clause-outs c = λ core represents.
    other_then c.args.made.fate Refused (refusal_for c.args.asked.now core) c.args.stimulus.now c.args.made.outs c.in-Refused.is refl
