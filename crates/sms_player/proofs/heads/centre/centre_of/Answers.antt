use Rattle.std.proofs.Common.{◌≤◌, ◌∙◌, ap, length, List, sym, subst, ℕ}
use Rattle.sms_base.specs.Address.{IsAddress}
use Rattle.sms_base.specs.HandsetNumber.{own_address}
use Rattle.sms_base.specs.declared.address.Address.{Address}
use Rattle.sms_player.proofs.heads.Beginnings.{few_digits, number_is}
use Rattle.sms_player.proofs.heads.centre.centre_of.Goals as goal

pub digits_of-requires : goal.digits_of-requires
digits_of-requires c = subst (λ (digits : List ℕ). length digits ≤ 20) (sym c.as_slice.ensures) (few_digits c.args.setup.now.centre c.requires)

pub returns-clause-address : goal.returns-clause-address
returns-clause-address c = subst (λ (a : Address). IsAddress a) (sym (c.of_handset.ensures ∙ ap (λ (digits : List ℕ). own_address digits) (c.digits_of.ensures ∙ c.as_slice.ensures))) (number_is c.args.setup.now.centre c.requires)
