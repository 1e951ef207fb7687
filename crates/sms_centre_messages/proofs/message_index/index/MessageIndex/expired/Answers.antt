use Rattle.std.proofs.Common.{List, ℕ, ◌++◌, ◌∙◌, ap}
use Rattle.std.specs.Prelude.{None}
use Rattle.sms_centre_messages.specs.message_index.Expiring.{confirmed}
use Rattle.sms_centre_messages.proofs.message_index.PastOnes.{all_confirmed}
use Rattle.sms_centre_messages.proofs.message_index.index.MessageIndex.expired.Goals as goal

pub returns-in-Ok : goal.returns-in-Ok
returns-in-Ok c = λ ms ps h.
    c.in-Ok.ensures ms ps h
    ∙ ap (λ (ids : List ℕ). ids ++ confirmed c.args.now ms None c.as_slice.result.now) c.new-ids.ensures.items
    ∙ ap (λ (ns : List ℕ). confirmed c.args.now ms None ns) c.as_slice.ensures.value
    ∙ all_confirmed c.args.now ms c.in_ok-numbers.numbers.items h.message_keys c.in_ok-numbers.ensures.order (c.in_ok-numbers.ensures.all ms ps h)
