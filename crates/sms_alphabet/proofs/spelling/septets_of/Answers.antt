use Rattle.std.specs.Str.{chars}
use Rattle.sms_alphabet.proofs.Spellings.{found, only, below}
use Rattle.sms_alphabet.proofs.spelling.septets_of.Goals as goal

pub returns-clause-found : goal.returns-clause-found
returns-clause-found c = found (chars c.args.text.now) c.spell.result c.spell.ensures

pub returns-clause-only : goal.returns-clause-only
returns-clause-only c = λ septets s. only (chars c.args.text.now) septets c.spell.result c.spell.ensures s

pub returns-clause-septets : goal.returns-clause-septets
returns-clause-septets c = below (chars c.args.text.now) c.spell.result c.spell.ensures
