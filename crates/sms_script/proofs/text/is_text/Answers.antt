use Rattle.std.proofs.Common.{sym, ◌∙◌, eqb-true, length}
use Rattle.sms_script.proofs.Texts.{nothing_is_text}
use Rattle.sms_script.proofs.text.is_text.Goals as goal

pub returns : goal.returns
returns c = sym (c.loop-rest.invariant.1 ∙ nothing_is_text c.loop-rest.rest.now (eqb-true (length c.loop-rest.rest.now) 0 (sym c.is_empty.ensures ∙ c.loop-rest-test.false)))
