use Rattle.std.proofs.Common.{[]}
use Rattle.sms_centre.proofs.state.queues.link_anew.Goals as goal

pub returns : goal.returns
returns c = λ g links waiting begun.
    c.in_ok-connect_all.ensures g waiting (c.in_ok-forget_links.ensures g (record { all = links; frames = []; read = [] }) waiting begun)
