use Rattle.sms_concat.proofs.Numbering.{found_clause, uncut_clause, overlong_clause}
use Rattle.sms_concat.proofs.Room.{room_clause}
use Rattle.sms_concat.proofs.splitting.split.Goals as goal

pub returns-clause-found : goal.returns-clause-found
returns-clause-found c = found_clause c.args.content.now c.args.reference c.parts_of.result c.parts_of.ensures

pub returns-clause-does_not_fit : goal.returns-clause-does_not_fit
returns-clause-does_not_fit c = uncut_clause c.args.content.now c.args.reference c.parts_of.result c.parts_of.ensures

pub returns-clause-too_many : goal.returns-clause-too_many
returns-clause-too_many c = overlong_clause c.args.content.now c.args.reference c.parts_of.result c.parts_of.ensures

pub returns-clause-fit : goal.returns-clause-fit
returns-clause-fit c = λ units. room_clause c.args.content.now c.args.reference c.parts_of.result c.parts_of.ensures units
