-- The key of a round as it is kept: what the parts of one key have in common, with the handset that they are for.
use Rattle.std.specs.Prelude.{ℕ, nat_eq, ◌&&◌, List, Bool, true, false, Option, Some, None}
use Rattle.std.specs.Bool.{beq}
use Rattle.std.specs.Str.{bytes_eq}
use Rattle.sms_base.specs.AddressKind.{type_number}
use Rattle.sms_base.specs.declared.address.Address.{Address}
use Rattle.sms_alphabet.specs.declared.concat_key.ConcatKey.{ConcatKey}
use Rattle.sms_alphabet.specs.declared.concat_key.ConcatReference.{ConcatReference}
use Rattle.sms_alphabet.specs.declared.concat_key.ConcatReference.TheVariants.{EightBit, SixteenBit}
use Rattle.sms_world_model.specs.declared.round_key.Place.{Place}
use Rattle.sms_world_model.specs.declared.round_key.RoundKey.{RoundKey}
use Rattle.sms_world_model.specs.Place.{Key, Place as PlaceOf}

-- a reference of 16 bits
abbrev pub is_wide : ConcatReference → Bool
is_wide (EightBit r) = false
is_wide (SixteenBit r) = true

abbrev pub number_of : ConcatReference → ℕ
number_of (EightBit r) = r
number_of (SixteenBit r) = r

abbrev pub key_with : List ℕ → Address → ConcatReference → ℕ → RoundKey
key_with handset source reference total = record {
  handset = record { digits = handset };
  type_of_number = type_number source.ton;
  plan = source.npi;
  source = record { digits = source.digits };
  is_wide = is_wide reference;
  reference = number_of reference;
  total = total;
}

-- the key, at that handset
abbrev pub round_key : List ℕ → Key → RoundKey
round_key handset k = key_with handset k.source k.reference k.total

abbrev pub placed : List ℕ → Address → ConcatKey → Place
placed handset source k = record { key = key_with handset source k.reference k.total; number = k.number }

-- the place, at that handset
abbrev pub placed_at : List ℕ → Option PlaceOf → Option Place
placed_at handset None = None
placed_at handset (Some p) = Some (record { key = round_key handset p.key; number = p.number })

-- keys are compared in all that they have
abbrev pub is_same_round : RoundKey → RoundKey → Bool
is_same_round a b =
    bytes_eq a.handset.digits b.handset.digits
    && (nat_eq a.type_of_number b.type_of_number && (nat_eq a.plan b.plan && (bytes_eq a.source.digits b.source.digits
    && (beq a.is_wide b.is_wide && (nat_eq a.reference b.reference && nat_eq a.total b.total)))))
