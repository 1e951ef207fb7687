use Rattle.std.proofs.Common.{◌++◌, ◌∷◌, []}
use Rattle.std.proofs.lemmas.Result.{err_from_is_err_and}
use Rattle.sms_alphabet.proofs.Ucs2Steps.{decodes_start, decodes_turn, decodes_end, character_shorter, tested_fault, some_left, none_left}
use Rattle.sms_alphabet.proofs.ucs2.test.Goals as goal

pub loop-rest-init : goal.loop-rest-init
loop-rest-init c = ([], rw c.of-rest.ensures (decodes_start c.args.octets.now))

pub loop-rest-preserved : goal.loop-rest-preserved
loop-rest-preserved c =
    let l = c.loop-rest in
    let some = some_left l.rest c.is_empty.result c.is_empty.ensures c.loop-rest-test.true in
    (l.invariant.0 ++ c.in_ok-character.field-0 ∷ [], decodes_turn c.args.octets.now l.rest l.invariant.0 c.in_ok-character.field-0 c.character.new.octets some c.in_ok-character.ensures l.invariant.1)

pub loop-rest-smaller : goal.loop-rest-smaller
loop-rest-smaller c = character_shorter c.loop-rest.rest c.in_ok-character.field-0 c.character.new.octets c.in_ok-character.ensures

pub returns-in_err-character : goal.returns-in_err-character
returns-in_err-character c =
    let l = c.loop-rest in
    let some = some_left l.rest c.is_empty.result c.is_empty.ensures c.loop-rest-test.true in
    let p = err_from_is_err_and c.from_residual.result c.from_residual.ensures.1 in
    rw (p.1, p.2) (tested_fault c.args.octets.now l.rest l.invariant.0 c.in_err-character.field-0.0 some c.in_err-character.ensures l.invariant.1)

pub returns : goal.returns
returns c =
    let l = c.loop-rest in
    let none = none_left l.rest c.is_empty.result c.is_empty.ensures c.loop-rest-test.false in
    (l.invariant.0, decodes_end c.args.octets.now l.rest l.invariant.0 none l.invariant.1)
