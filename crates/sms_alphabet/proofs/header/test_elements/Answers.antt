use Rattle.std.proofs.lemmas.Result.{err_from_is_err_and}
use Rattle.sms_alphabet.proofs.Elements.{continues_at, continues_more, continues_fault, continues_end, one_more}
use Rattle.sms_alphabet.proofs.header.test_elements.Goals as goal

pub loop-cursor-init : goal.loop-cursor-init
loop-cursor-init c = continues_at c.args.octets.now c.of-cursor.result c.of-cursor.ensures

pub returns-in_err-_element : goal.returns-in_err-_element
returns-in_err-_element c =
    let p = err_from_is_err_and c.from_residual.result c.from_residual.ensures.1 in
    rw (p.1, p.2) (continues_fault c.args.octets.now c.loop-cursor.cursor c.in_err-_element.field-0.0 c.loop-cursor.invariant (λ empty. let t = c.is_empty.ensures.1 empty in absurd cc) c.in_err-_element.ensures)

pub loop-cursor-smaller : goal.loop-cursor-smaller
loop-cursor-smaller c = let h = one_more c.loop-cursor.cursor (c.in_ok-_element._element, c.element_in.new.cursor) c.in_ok-_element.ensures in h.1

pub loop-cursor-preserved : goal.loop-cursor-preserved
loop-cursor-preserved c = continues_more c.args.octets.now c.loop-cursor.cursor c.in_ok-_element._element c.element_in.new.cursor c.loop-cursor.invariant c.in_ok-_element.ensures

pub returns : goal.returns
returns c = continues_end c.args.octets.now c.loop-cursor.cursor c.loop-cursor.invariant (c.is_empty.ensures.0 c.loop-cursor-test.false)
