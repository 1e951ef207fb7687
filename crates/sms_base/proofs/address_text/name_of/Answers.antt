use Rattle.std.proofs.Common.{length, sym, ◌∙◌, arith}
use Rattle.std.proofs.lemmas.List.{length_push}
use Rattle.std.proofs.lemmas.Iterator.{YieldsList-from_chars}
use Rattle.std.proofs.lemmas.Iterator.Consumers.{YieldsList-turn, YieldsList-end}
use Rattle.std.specs.Str.{chars}
use Rattle.sms_base.specs.Alphabet.{code_for}
use Rattle.sms_base.proofs.NameWalk.{named_none, named_more, named_all, too_long, bad_name, width_bounds}
use Rattle.sms_base.proofs.address_text.name_of.Goals as goal

pub overflow_add-septets : goal.overflow_add-septets
overflow_add-septets c = omega (arith, (width_bounds (code_for c.in-Some.character)).1, c.loop-character.invariant.room, c.width_of-septets.ensures)

pub loop-character-init : goal.loop-character-init
loop-character-init c = rw c.new-digits.ensures (named_none (chars c.args.text.now))

pub loop-character-preserved : goal.loop-character-preserved
loop-character-preserved c =
    let t = YieldsList-turn (YieldsList-from_chars c.args.text.now c.utf8.text cc) c.loop-character.yielded _ c.loop-character.yielded_by _ _ c.in-Some.character c.in-Some.is c.next.ensures.steps in
    let w = named_more (chars c.args.text.now) c.loop-character.digits (length c.loop-character.yielded) c.loop-character.septets c.in-Some.character c.loop-character.invariant t (omega arith) (sym c.has_code.ensures ∙ c.if-not-has_code.false) in
    rw (c.push.ensures, length_push, c.width_of-septets.ensures) w

pub returns-then-septets-gt-MOST_SEPTETS : goal.returns-then-septets-gt-MOST_SEPTETS
returns-then-septets-gt-MOST_SEPTETS c =
    let t = YieldsList-turn (YieldsList-from_chars c.args.text.now c.utf8.text cc) c.loop-character.yielded _ c.loop-character.yielded_by _ _ c.in-Some.character c.in-Some.is c.next.ensures.steps in
    sym (too_long (chars c.args.text.now) c.loop-character.digits (length c.loop-character.yielded) c.loop-character.septets c.in-Some.character c.loop-character.invariant t (omega arith))

pub returns-then-not-has_code : goal.returns-then-not-has_code
returns-then-not-has_code c =
    let t = YieldsList-turn (YieldsList-from_chars c.args.text.now c.utf8.text cc) c.loop-character.yielded _ c.loop-character.yielded_by _ _ c.in-Some.character c.in-Some.is c.next.ensures.steps in
    sym (bad_name (chars c.args.text.now) c.loop-character.digits (length c.loop-character.yielded) c.loop-character.septets c.in-Some.character c.loop-character.invariant t (omega arith) (sym c.has_code.ensures ∙ c.if-not-has_code.true))

pub returns : goal.returns
returns c =
    let t = YieldsList-end (YieldsList-from_chars c.args.text.now c.utf8.text cc) c.loop-character.yielded _ c.loop-character.yielded_by _ _ c.in-None.is c.next.ensures.steps in
    sym (named_all (chars c.args.text.now) c.loop-character.digits (length c.loop-character.yielded) c.loop-character.septets c.loop-character.invariant (omega (arith, t)))
