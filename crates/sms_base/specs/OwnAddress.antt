-- The addresses that the centre itself writes.
use Rattle.std.specs.Prelude.{◌≡◌, true}
use Rattle.std.specs.List.{list_all}
use Rattle.sms_base.specs.Address.{IsAddress}
use Rattle.sms_base.specs.HandsetNumber.{is_decimal}
use Rattle.sms_base.specs.declared.address.Address.{Address}
use Rattle.sms_base.specs.declared.type_of_number.TypeOfNumber.TheVariants.{International}

-- the address of a handset, or of the centre, as the centre itself writes it
pub record IsOwnAddress (address : Address) : Type 0 where
  pub ton : address.ton ≡ International
  pub npi : address.npi ≡ 1
  pub valid : IsAddress address
  pub decimal : list_all is_decimal address.digits ≡ true
