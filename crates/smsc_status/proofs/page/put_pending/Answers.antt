use Rattle.std.proofs.lemmas.Result.{on_ok_weaker}
use Rattle.std.specs.Prelude.{codes}
use Rattle.sms_base.specs.MessageId.{id_text}
use Rattle.smsc_status.specs.Page.{pending_text, whose_text}
use Rattle.smsc_status.proofs.Chains.{chain3}
use Rattle.smsc_status.proofs.page.put_pending.Goals as goal

pub returns : goal.returns
unfolding pending_text
returns c =
    let m = c.args.message.now in
    on_ok_weaker c.put_whose.result
    (λ e. chain3 c.args.out.now
    (codes "the oldest message that is pending: ") (id_text m.id) (whose_text m)
    c.in_ok-append.ensures.ok c.in_ok-put_id.ensures e)
    c.put_whose.ensures
