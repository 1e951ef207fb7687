use Rattle.std.proofs.Common.{◌∙◌, ap}
use Rattle.std.specs.Option.{option_or}
use Rattle.sms_alphabet.proofs.Elements.{key_init, key_more, key_end, one_more}
use Rattle.sms_alphabet.proofs.header.concat_info.Goals as goal

pub loop-element-init : goal.loop-element-init
loop-element-init c = key_init c.args.header.now c.header.inside.octets.now c.of-cursor.result c.header.invariant c.header.view_is c.of-cursor.ensures

pub loop-element-smaller : goal.loop-element-smaller
loop-element-smaller c = let h = one_more c.loop-element.cursor (c.in-Ok.element, c.element_in.new.cursor) c.in-Ok.ensures in h.1

pub loop-element-preserved : goal.loop-element-preserved
loop-element-preserved c =
    key_more c.args.header.now c.loop-element.cursor c.loop-element.key c.in-Ok.element c.element_in.new.cursor c.or-key.result c.loop-element.invariant c.in-Ok.ensures (c.or-key.ensures ∙ ap (λ x. option_or x c.loop-element.key) c.element_key.ensures)

pub returns : goal.returns
returns c = key_end c.args.header.now c.loop-element.cursor c.loop-element.key c.in_default.field-0 c.loop-element.invariant c.in_default.ensures
