use Rattle.std.proofs.Common.{◌≡◌, ◌∙◌, sym, []}
use Rattle.std.proofs.lemmas.Result.{err_from_is_err_and}
use Rattle.smpp_pdu.proofs.TlvLaws.{tlv_shorter, one_step, last_step, no_step, walk_is}
use Rattle.smpp_pdu.proofs.tlv.optional_parameters.Goals as goal

pub loop-cursor-init : goal.loop-cursor-init
loop-cursor-init c = rw c.none-tlvs.ensures (walk_is c.args.cursor.now)

pub returns-in_err-tag : goal.returns-in_err-tag
returns-in_err-tag c =
    let p = err_from_is_err_and c.from_residual.result c.from_residual.ensures.1 in
    let some : c.loop-cursor.cursor ≡ [] → ⊥ = λ z. let t = c.is_empty.ensures.1 z in let f = c.loop-cursor-test.true in cc in
    rw (p.1, p.2) (sym (no_step c.loop-cursor.tlvs c.loop-cursor.cursor c.in_err-tag.field-0.0 some c.in_err-tag.ensures) ∙ c.loop-cursor.invariant)

pub loop-cursor-smaller : goal.loop-cursor-smaller
loop-cursor-smaller c = tlv_shorter c.loop-cursor.cursor ((c.in_ok-tag.tag, c.in_ok-tag.value.now), c.optional_parameter.new.cursor) c.in_ok-tag.ensures

pub loop-cursor-preserved : goal.loop-cursor-preserved
loop-cursor-preserved c =
    rw c.keep.ensures
    (sym (one_step c.loop-cursor.tlvs c.loop-cursor.cursor c.optional_parameter.new.cursor c.in_ok-tag.tag c.in_ok-tag.value.now c.in_ok-tag.ensures) ∙ c.loop-cursor.invariant)

pub returns : goal.returns
returns c = sym (last_step c.loop-cursor.tlvs c.loop-cursor.cursor (c.is_empty.ensures.0 c.loop-cursor-test.false)) ∙ c.loop-cursor.invariant
