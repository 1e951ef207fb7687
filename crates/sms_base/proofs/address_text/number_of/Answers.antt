use Rattle.std.proofs.Common.{length, sym, ◌∙◌, arith}
use Rattle.std.proofs.lemmas.List.{length_push}
use Rattle.std.proofs.lemmas.Iterator.{YieldsList-from_chars}
use Rattle.std.proofs.lemmas.Iterator.Consumers.{YieldsList-turn, YieldsList-end}
use Rattle.std.specs.Str.{chars}
use Rattle.sms_base.proofs.NumberWalk.{walked_none, walked_more, walked_all, too_long, bad_digit}
use Rattle.sms_base.proofs.address_text.number_of.Goals as goal

pub loop-character-init : goal.loop-character-init
loop-character-init c = rw c.new-digits.ensures (walked_none (chars c.args.text.now))

pub loop-character-preserved : goal.loop-character-preserved
loop-character-preserved c =
    let t = YieldsList-turn (YieldsList-from_chars c.args.text.now c.utf8.text cc) c.loop-character.yielded _ c.loop-character.yielded_by _ _ c.in-Some.character c.in-Some.is c.next.ensures.steps in
    let w = walked_more (chars c.args.text.now) c.loop-character.digits (length c.loop-character.yielded) c.in-Some.character c.loop-character.invariant t (omega arith) (sym c.is_digit.ensures ∙ c.if-not-is_digit.false) in
    rw (c.push.ensures, length_push) w

pub returns-then-len-eq-MOST_DIGITS : goal.returns-then-len-eq-MOST_DIGITS
returns-then-len-eq-MOST_DIGITS c =
    let t = YieldsList-turn (YieldsList-from_chars c.args.text.now c.utf8.text cc) c.loop-character.yielded _ c.loop-character.yielded_by _ _ c.in-Some.character c.in-Some.is c.next.ensures.steps in
    sym (too_long (chars c.args.text.now) c.loop-character.digits (length c.loop-character.yielded) c.in-Some.character c.loop-character.invariant t (omega arith))

pub returns-then-not-is_digit : goal.returns-then-not-is_digit
returns-then-not-is_digit c =
    let t = YieldsList-turn (YieldsList-from_chars c.args.text.now c.utf8.text cc) c.loop-character.yielded _ c.loop-character.yielded_by _ _ c.in-Some.character c.in-Some.is c.next.ensures.steps in
    sym (bad_digit (chars c.args.text.now) c.loop-character.digits (length c.loop-character.yielded) c.in-Some.character c.loop-character.invariant t (omega arith) (sym c.is_digit.ensures ∙ c.if-not-is_digit.true))

pub returns : goal.returns
returns c =
    let t = YieldsList-end (YieldsList-from_chars c.args.text.now c.utf8.text cc) c.loop-character.yielded _ c.loop-character.yielded_by _ _ c.in-None.is c.next.ensures.steps in
    sym (walked_all (chars c.args.text.now) c.loop-character.digits (length c.loop-character.yielded) c.loop-character.invariant (omega (arith, t)))
