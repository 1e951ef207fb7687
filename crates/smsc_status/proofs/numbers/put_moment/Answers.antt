use Rattle.std.proofs.Common.{◌++◌, ◌∙◌, ap}
use Rattle.std.proofs.lemmas.Result.{on_ok_weaker}
use Rattle.sms_base.proofs.UtcClocks.{written_is_stamp}
use Rattle.smsc_status.specs.Numbers.{stamp_text}
use Rattle.smsc_status.proofs.numbers.put_moment.Goals as goal

pub returns : goal.returns
returns c =
    on_ok_weaker c.put_stamp.result (λ e. e ∙ ap (λ stamp. c.args.out.now ++ stamp_text stamp) (written_is_stamp c.to_scts.result c.args.moment c.to_scts.ensures))
    c.put_stamp.ensures
