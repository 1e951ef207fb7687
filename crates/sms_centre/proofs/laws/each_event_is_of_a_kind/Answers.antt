use Rattle.std.proofs.Common.{refl}
use Rattle.sms_centre.proofs.laws.each_event_is_of_a_kind.Goals as goal

pub returns : goal.returns
returns c = record {
  submit = λ account message core. refl;
  query = λ account query core. refl;
  cancel = λ account cancel core. refl;
  bound = λ session account receives core. refl;
  unbound = λ session core. refl;
  answered = λ session id is_accepted core. refl;
  frame = λ handset octets tag core. refl;
  link_up = λ handset core. refl;
  link_down = λ handset core. refl;
  order = λ order id core. refl;
  tick = λ now core. refl;
}
