-- Whether messages that aren't wholly delivered were split under references that differ, for each source and handset.
use Rattle.std.specs.Prelude.{ℕ, ◌==◌, ◌&&◌, List, [], Bool, if◌then◌else◌, Option, None}
use Rattle.std.specs.Option.{option_map}
use Rattle.std.specs.Str.{bytes_eq}
use Rattle.sms_base.specs.AddressKind.{type_number}
use Rattle.sms_centre_rows.specs.declared.messages.message.MessageRow.{MessageRow}
use Rattle.sms_centre_rows.specs.messages.SplitReferences.{is_delivered}
use Rattle.sms_centre_rows.specs.declared.conditions.splits.Split.{Split}
use Rattle.sms_centre_rows.specs.conditions.Differing.{differ_by}

abbrev pub split_under : MessageRow → ℕ → Split
split_under m reference = record {
  ton = type_number m.source.ton;
  npi = m.source.npi;
  source = record { digits = m.source.digits };
  handset = record { digits = m.handset };
  reference = reference;
}

-- the reference that it was split under, with its source and handset
abbrev pub split_of : MessageRow → Option Split
split_of m = if is_delivered m.state then None else option_map (split_under m) m.split_reference

abbrev pub is_same_split : Split → Split → Bool
is_same_split a b =
    (a.ton == b.ton) && ((a.npi == b.npi)
    && (bytes_eq a.source.digits b.source.digits && (bytes_eq a.handset.digits b.handset.digits && (a.reference == b.reference))))

-- none is there twice
abbrev pub splits_differ : List Split → Bool
splits_differ ss = differ_by is_same_split [] ss
