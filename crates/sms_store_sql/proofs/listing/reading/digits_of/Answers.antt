use Rattle.std.proofs.Common.{length, chars, arith}
use Rattle.std.proofs.lemmas.List.{length_push}
use Rattle.std.proofs.lemmas.Iterator.{YieldsList-from_chars}
use Rattle.std.proofs.lemmas.Iterator.Consumers.{YieldsList-turn, YieldsList-end}
use Rattle.sms_store_sql.proofs.listing.Characters.{gathered_none, gathered_more, gathered_all}
use Rattle.sms_store_sql.proofs.listing.reading.digits_of.Goals as goal

pub loop-character-init : goal.loop-character-init
loop-character-init c = rw c.new-digits.ensures (gathered_none (chars c.args.text.now))

pub loop-character-preserved : goal.loop-character-preserved
loop-character-preserved c =
    let t = YieldsList-turn (YieldsList-from_chars c.args.text.now c.utf8.text cc) c.loop-character.yielded _ c.loop-character.yielded_by _ _ c.in-Some.character c.in-Some.is c.next.ensures.steps in
    let w = gathered_more (chars c.args.text.now) c.loop-character.digits (length c.loop-character.yielded) c.in-Some.character c.loop-character.invariant t (omega arith) in
    rw (c.push.ensures, length_push) w

pub returns-clause-value : goal.returns-clause-value
returns-clause-value c =
    let t = YieldsList-end (YieldsList-from_chars c.args.text.now c.utf8.text cc) c.loop-character.yielded _ c.loop-character.yielded_by _ _ c.in-None.is c.next.ensures.steps in
    gathered_all (chars c.args.text.now) c.loop-character.digits (length c.loop-character.yielded) c.loop-character.invariant (omega (arith, t))

pub returns-then-len-eq20-clause-none : goal.returns-then-len-eq20-clause-none
returns-then-len-eq20-clause-none c =
    let t = YieldsList-turn (YieldsList-from_chars c.args.text.now c.utf8.text cc) c.loop-character.yielded _ c.loop-character.yielded_by _ _ c.in-Some.character c.in-Some.is c.next.ensures.steps in
    omega (arith, t, c.loop-character.invariant.count, c.len.ensures, c.if-len-eq20.true)
