-- Which messages of a store are shown.
use Rattle.std.specs.Prelude.{ℕ, ◌-◌, ◌==◌, ◌&&◌, List, length, drop, filter, Bool, true, false, Option, Some, None, option_map}
use Rattle.std.specs.Str.{bytes_eq}
use Rattle.sms_base.specs.declared.originator.Originator.{Originator}
use Rattle.sms_base.specs.declared.originator.Originator.TheVariants.{Application, Handset}
use Rattle.sms_centre_rows.specs.declared.messages.message.MessageRow.{MessageRow}
use Rattle.smsc_cli.specs.declared.centre_table.selecting.Filter.{Filter}
use Rattle.smsc_cli.specs.centre_table.CentreTable.{state_word}

-- it is as wanted, where something is wanted
abbrev pub is_wanted : {A : Type 0} → (A → Bool) → Option A → Bool
is_wanted test None = true
is_wanted test (Some wanted) = test wanted

-- an application submitted it, by the account of that name
abbrev pub is_of_account : Originator → List ℕ → Bool
is_of_account (Application account) name = bytes_eq account name
is_of_account (Handset reference) name = false

-- it is from and to those who are wanted
abbrev pub is_between : Filter → MessageRow → Bool
is_between f m = is_wanted (λ from. bytes_eq m.source.digits from) f.from && is_wanted (λ to. bytes_eq m.handset to) f.to

-- it has the wanted number, account and state, the state by its word
abbrev pub is_named : Filter → MessageRow → Bool
is_named f m =
    is_wanted (λ id. m.id == id) f.id
    && (is_wanted (λ name. is_of_account m.originator name) (option_map (λ s. s.now) f.account)
    && is_wanted (λ word. bytes_eq (state_word m.state) word) (option_map (λ s. s.now) f.state))

abbrev pub is_selected : Filter → MessageRow → Bool
is_selected f m = is_between f m && is_named f m

-- the last so many; all, where no number is given
abbrev pub last_of : Option ℕ → List MessageRow → List MessageRow
last_of None messages = messages
last_of (Some count) messages = drop (length messages - count) messages

-- of the messages that are as wanted the last so many
abbrev pub selected_messages : Filter → List MessageRow → List MessageRow
selected_messages f messages = last_of f.last (filter (λ m. is_selected f m) messages)
