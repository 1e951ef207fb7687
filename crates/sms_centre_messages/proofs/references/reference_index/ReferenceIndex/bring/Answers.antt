use Rattle.std.proofs.Common.{Option, sym, subst}
use Rattle.sms_alphabet.specs.declared.concat_key.ConcatKey.{ConcatKey}
use Rattle.sms_centre_messages.specs.references.ReferenceIndex.{Brought}
use Rattle.sms_centre_messages.proofs.references.Ending.{holds_brought}
use Rattle.sms_centre_messages.proofs.references.reference_index.ReferenceIndex.bring.Goals as goal

pub returns-clause-holds : goal.returns-clause-holds
returns-clause-holds c = λ bs ms ps p h rises there key absent few.
    holds_brought c.args.message.now p c.args.self.now c.count_part.new.self bs ms ps
    (subst (λ (k : Option ConcatKey). Brought c.args.message.now k c.args.self.now c.count_part.new.self) (sym key) c.in_ok-count_part.ensures.brought) h rises there absent few
