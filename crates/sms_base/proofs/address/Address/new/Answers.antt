use Rattle.std.proofs.Common.{◌∙◌}
use Rattle.std.specs.Str.{chars}
use Rattle.sms_base.proofs.Addresses.{address_found_of, address_only}
use Rattle.sms_base.proofs.address.Address.new.Goals as goal

pub returns-clause-found : goal.returns-clause-found
returns-clause-found c = address_found_of c.args.ton c.args.npi (chars c.args.text.now) _ c.of.ensures

pub returns-clause-only : goal.returns-clause-only
returns-clause-only c = λ address h. c.of.ensures ∙ address_only c.args.ton c.args.npi (chars c.args.text.now) address h
