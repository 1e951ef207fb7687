-- A message's row in memory: what it shares with others is under places.
use Rattle.std.specs.Prelude.{◌≡◌, ℕ, ◌+◌, ◌≤◌, List, [], ◌∷◌, Option, Some, None}
use Rattle.sms_base.specs.Msisdn.{IsMsisdn}
use Rattle.sms_rows.specs.interning.Interning.{InternedOf, IsAt, Keeps}
use Rattle.sms_centre_rows.specs.declared.messages.message.MessageRow.{MessageRow}
use Rattle.sms_base.specs.declared.originator.Originator.{Originator}
use Rattle.sms_base.specs.declared.originator.Originator.TheVariants.{Application as ByApplication, Handset as ByHandset}
use Rattle.sms_centre_messages.specs.declared.message_index.message_entry.MessageEntry.{MessageEntry}
use Rattle.sms_centre_messages.specs.declared.message_index.message_entry.OriginatorEntry.{OriginatorEntry}
use Rattle.sms_centre_messages.specs.declared.message_index.message_entry.OriginatorEntry.TheVariants.{Application, Handset}

abbrev pub message_entry_key : MessageEntry → ℕ
message_entry_key e = e.id

-- the numbers and the names of accounts that are stored once
pub record NamesOf : Type 0 where
  pub numbers : InternedOf (List ℕ)
  pub accounts : InternedOf (List ℕ)

abbrev pub IsOriginator : List (List ℕ) → OriginatorEntry → Originator → Type 0
IsOriginator accounts (Application account) (ByApplication name) = IsAt name account accounts
IsOriginator accounts (Application account) (ByHandset n) = ⊥
IsOriginator accounts (Handset m) (ByApplication name) = ⊥
IsOriginator accounts (Handset m) (ByHandset n) = m ≡ n

-- the row, with that originator and these digits
abbrev pub row_with : MessageEntry → Originator → List ℕ → List ℕ → MessageRow
row_with e originator source handset = record {
  id = e.id;
  originator = originator;
  source = record { ton = e.source_type; npi = e.source_plan; digits = source };
  handset = handset;
  data_coding_scheme = e.data_coding_scheme;
  protocol_identifier = e.protocol_identifier;
  wish = e.wish;
  submitted = e.submitted;
  limit = e.limit;
  split_reference = e.split_reference;
  state = e.state;
  done = e.done;
}

-- the entry is that of the row
pub record IsEntry (names : NamesOf) (e : MessageEntry) (m : MessageRow) : Type 0 where
  pub originator : IsOriginator names.accounts.values e.originator m.originator
  pub source : IsAt m.source.digits e.source_digits names.numbers.values
  pub handset : IsAt m.handset e.handset names.numbers.values
  pub number : IsMsisdn m.handset
  pub row : m ≡ row_with e m.originator m.source.digits m.handset

-- entry by entry
abbrev pub AreEntries : NamesOf → List MessageEntry → List MessageRow → Type 0
AreEntries names [] [] = Unit {0}
AreEntries names [] (m ∷ ms) = ⊥
AreEntries names (e ∷ es) [] = ⊥
AreEntries names (e ∷ es) (m ∷ ms) = IsEntry names e m × AreEntries names es ms

-- places keep what they name
pub record NamesStay (old new : NamesOf) : Type 0 where
  pub numbers : Keeps old.numbers.values new.numbers.values
  pub accounts : Keeps old.accounts.values new.accounts.values

-- a row brings two numbers and one account at most
pub record UsesNames (old new : NamesOf) : Type 0 where
  pub numbers : old.numbers.room ≤ new.numbers.room + 2
  pub accounts : old.accounts.room ≤ new.accounts.room + 1

-- what is found of an entry is found of its row
abbrev pub FoundAs : NamesOf → Option MessageEntry → Option MessageRow → Type 0
FoundAs names None None = Unit {0}
FoundAs names None (Some m) = ⊥
FoundAs names (Some e) None = ⊥
FoundAs names (Some e) (Some m) = IsEntry names e m
