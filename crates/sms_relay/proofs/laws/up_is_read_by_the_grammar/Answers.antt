use Rattle.sms_relay.proofs.FieldLaws.{IsBytes-octets}
use Rattle.sms_relay.proofs.UnitLaws.{up_takes, up_again}
use Rattle.sms_relay.proofs.laws.up_is_read_by_the_grammar.Goals as goal

pub returns-clause-found : goal.returns-clause-found
returns-clause-found c = λ octets rp h e. up_takes octets rp (IsBytes-octets octets h) e

pub returns-clause-only : goal.returns-clause-only
returns-clause-only c = up_again
