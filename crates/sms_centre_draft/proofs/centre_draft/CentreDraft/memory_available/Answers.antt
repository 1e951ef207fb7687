use Rattle.std.proofs.Common.{None}
use Rattle.sms_base.specs.declared.carried.Kind.TheVariants.{Ack}
use Rattle.sms_relay.specs.RelayGrammar.{ack_down}
use Rattle.sms_centre_spec.specs.Receiving.{reply}
use Rattle.sms_centre_draft.proofs.centre_draft.CentreDraft.memory_available.Goals as goal

pub returns : goal.returns
returns c = λ d represents.
    c.has_memory.ensures (reply c.args.transfer.now.handset Ack c.args.transfer.now.reference c.args.transfer.now.tag (ack_down c.args.transfer.now.reference None) d) (c.in_ok-acknowledge.ensures d represents)
