use Rattle.sms_tpdu.proofs.NameTexts.{Spells}
use Rattle.sms_tpdu.proofs.name_field.text_of.Given as goal

abbrev pub invariant-loop : goal.invariant-loop
invariant-loop l = Spells l.text l.rest l.is_escaped l.counter l.count l.value
