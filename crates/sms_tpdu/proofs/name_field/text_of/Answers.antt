use Rattle.std.proofs.Common.{◌%◌, ◌∙◌, refl}
use Rattle.sms_tpdu.proofs.NameTexts.{turn_escaped, turn_escape, turn_plain, end_plain, end_escape}
use Rattle.sms_tpdu.proofs.name_field.text_of.Goals.{then-is_escaped, else-is_escaped+then-septet-eq-ESCAPE, else-is_escaped+else-septet-eq-ESCAPE, then-is_escaped-2, else-is_escaped-2}
use Rattle.sms_tpdu.proofs.name_field.text_of.Goals as goal

pub loop-preserved : goal.loop-preserved
loop-preserved c = elim c.if-is_escaped.branch [
  | then-is_escaped w ↦ turn_escaped c.loop.text c.if-is_escaped.text c.loop.rest (c.loop.rest % 128) w.character_after_escape.result c.loop.is_escaped c.if-is_escaped.is_escaped c.loop.counter c.args.count c.args.value c.loop-test.true w.if-is_escaped.true refl w.character_after_escape.ensures (w.text-is ∙ w.push.ensures) w.is_escaped-is c.loop.invariant
  | else-is_escaped+then-septet-eq-ESCAPE w ↦ turn_escape c.loop.text c.if-is_escaped.text c.loop.rest (c.loop.rest % 128) c.loop.is_escaped c.if-is_escaped.is_escaped c.loop.counter c.args.count c.args.value c.loop-test.true w.if-is_escaped.false refl w.if-septet-eq-ESCAPE.true w.text-is w.is_escaped-is c.loop.invariant
  | else-is_escaped+else-septet-eq-ESCAPE w ↦ turn_plain c.loop.text c.if-is_escaped.text c.loop.rest (c.loop.rest % 128) w.character_of.result c.loop.is_escaped c.if-is_escaped.is_escaped c.loop.counter c.args.count c.args.value c.loop-test.true w.if-is_escaped.false refl w.if-septet-eq-ESCAPE.false w.character_of.ensures (w.text-is ∙ w.push-else-septet-eq-ESCAPE.ensures) w.is_escaped-is c.loop.invariant
]

pub returns-clause-text : goal.returns-clause-text
returns-clause-text c = elim c.if-is_escaped-2.branch [
  | then-is_escaped-2 w ↦ end_escape c.loop.text c.if-is_escaped-2.text c.loop.rest c.loop.is_escaped c.loop.counter c.args.count c.args.value c.loop-test.false w.if-is_escaped-2.true (w.text-is ∙ w.push-then-is_escaped-2.ensures) c.loop.invariant
  | else-is_escaped-2 w ↦ end_plain c.loop.text c.if-is_escaped-2.text c.loop.rest c.loop.is_escaped c.loop.counter c.args.count c.args.value c.loop-test.false w.if-is_escaped-2.false w.text-is c.loop.invariant
]
