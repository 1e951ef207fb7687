use Rattle.std.proofs.Common.{List, ℕ, ap, sym, ◌∙◌, subst, refl}
use Rattle.sms_relay.specs.RelayGrammar.{down_octets, IsDown}
use Rattle.sms_relay.specs.RelayReading.{down_at}
use Rattle.sms_relay.specs.declared.message_type.Direction.TheVariants.{Down}
use Rattle.sms_relay.proofs.UnitLaws.{down_again, written_down_is, is_value}
use Rattle.sms_relay.proofs.laws.written_down_is_read.Goals as goal

pub returns-clause-in_grammar : goal.returns-clause-in_grammar
returns-clause-in_grammar c = λ octets rp h. subst (λ (l : List ℕ). IsDown l rp) (sym h.1) (written_down_is rp h.0)

pub returns-clause-again : goal.returns-clause-again
returns-clause-again c = λ octets rp h. ap down_at h.1 ∙ down_again (down_octets rp) rp (written_down_is rp h.0)

pub returns-clause-some : goal.returns-clause-some
returns-clause-some c = λ octets rp h. (is_value Down octets rp h, refl)
