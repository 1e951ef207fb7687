use Rattle.std.proofs.Common.{length, sym}
use Rattle.std.proofs.lemmas.Bool.{ltb-false}
use Rattle.std.proofs.lemmas.List.{get_or_past}
use Rattle.sms_play.proofs.judging.premises.looked_at.Goals as goal

pub returns-in-Some : goal.returns-in-Some
returns-in-Some c = c.in-Some.ensures.lookup.3.1 0

pub returns-in-None : goal.returns-in-None
returns-in-None c = sym (get_or_past c.args.counts.now c.args.place 0 (ltb-false c.args.place (length c.args.counts.now) (sym c.in-None.ensures.lookup.0)))
