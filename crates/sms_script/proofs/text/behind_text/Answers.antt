use Rattle.sms_script.proofs.Texts.{passed, stuck}
use Rattle.sms_script.proofs.text.behind_text.Goals as goal

pub returns-then-front-eq0 : goal.returns-then-front-eq0
returns-then-front-eq0 c =
    stuck c.args.digits.now c.window-count.result.0 c.window-count.result.1 c.text_front-front.result c.requires.even c.requires.some
    c.window-count.ensures.octets c.if-front-eq0.true c.text_front-front.ensures.longest

pub returns : goal.returns
returns c =
    passed c.args.digits.now c.window-count.result.0 c.split_at.result.1.now c.window-count.result.1 c.text_front-front.result c.requires.even
    c.window-count.ensures.octets c.window-count.ensures.digits c.text_front-front.ensures.within c.if-front-eq0.false c.text_front-front.ensures.front c.split_at.ensures.back
