use Rattle.std.proofs.Common.{List, ℕ, ap, sym, ◌∙◌, subst, refl}
use Rattle.sms_relay.specs.RelayGrammar.{up_octets, IsUp}
use Rattle.sms_relay.specs.RelayReading.{up_at}
use Rattle.sms_relay.specs.declared.message_type.Direction.TheVariants.{Up}
use Rattle.sms_relay.proofs.UnitLaws.{up_again, written_up_is, is_value}
use Rattle.sms_relay.proofs.laws.written_up_is_read.Goals as goal

pub returns-clause-in_grammar : goal.returns-clause-in_grammar
returns-clause-in_grammar c = λ octets rp h. subst (λ (l : List ℕ). IsUp l rp) (sym h.1) (written_up_is rp h.0)

pub returns-clause-again : goal.returns-clause-again
returns-clause-again c = λ octets rp h. ap up_at h.1 ∙ up_again (up_octets rp) rp (written_up_is rp h.0)

pub returns-clause-some : goal.returns-clause-some
returns-clause-some c = λ octets rp h. (is_value Up octets rp h, refl)
