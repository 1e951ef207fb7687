-- Between whom messages are sent, as keys.
use Rattle.std.specs.Prelude.{ℕ, nat_eq, ◌&&◌, List, Bool}
use Rattle.std.specs.Str.{bytes_eq}
use Rattle.sms_base.specs.AddressKind.{type_number}
use Rattle.sms_base.specs.declared.address.Address.{Address}
use Rattle.sms_centre_messages.specs.declared.references.message_ends.MessageEnds.{MessageEnds}
use Rattle.sms_centre_messages.specs.declared.references.message_ends.Sender.{Sender}

-- a number of a source and a handset
abbrev pub key_of : Address → List ℕ → ℕ → MessageEnds
key_of source handset number = record {
  source = record { type_of_number = type_number source.ton; plan = source.npi; digits = record { digits = source.digits } };
  handset = handset;
  number = number;
}

-- a number of the digits of a source and a handset
abbrev pub pair_of : List ℕ → List ℕ → ℕ → MessageEnds
pair_of source handset number = record {
  source = record { type_of_number = 0; plan = 0; digits = record { digits = source } };
  handset = handset;
  number = number;
}

abbrev pub is_same_sender : Sender → Sender → Bool
is_same_sender a b = nat_eq a.type_of_number b.type_of_number && (nat_eq a.plan b.plan && bytes_eq a.digits.digits b.digits.digits)

abbrev pub is_same : MessageEnds → MessageEnds → Bool
is_same a b = is_same_sender a.source b.source && (bytes_eq a.handset b.handset && nat_eq a.number b.number)
