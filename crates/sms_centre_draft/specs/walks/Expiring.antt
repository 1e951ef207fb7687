-- Messages whose time ends, by their numbers.
use Rattle.std.specs.Prelude.{◌≡◌, ℕ, ◌&&◌, nat_le, List, [], ◌∷◌, Bool, true, false, if◌then◌else◌, Option, Some, None}
use Rattle.sms_base.specs.Among.{Among}
use Rattle.sms_base.specs.declared.final_state.FinalState.TheVariants.{Expired}
use Rattle.sms_centre_rows.specs.declared.messages.message.MessageRow.{MessageRow}
use Rattle.sms_centre_rows.specs.messages.Messages.{is_pending, message_at}
use Rattle.sms_centre_spec.specs.Draft.{Store, messages_in}
use Rattle.sms_centre_spec.specs.Ends.{end}

-- it is pending, and the moment of the end of its time is reached
abbrev pub is_over : Option MessageRow → ℕ → Bool
is_over None moment = false
is_over (Some m) moment = is_pending m && nat_le m.limit moment

abbrev pub expire_found : Option MessageRow → Store → Store
expire_found None s = s
expire_found (Some m) s = if is_over (Some m) s.moment then end Expired m s else s

-- the message of that number ends, if its time is over
abbrev pub expire_at : ℕ → Store → Store
expire_at id s = expire_found (message_at id (messages_in s)) s

-- so do those of these numbers, one after the other
abbrev pub expire_numbers : List ℕ → Store → Store
expire_numbers [] s = s
expire_numbers (id ∷ ids) s = expire_numbers ids (expire_at id s)

-- the number of each message whose time is over is one of these
abbrev pub CoversOver : List ℕ → Store → Type 0
CoversOver ids s = (m : MessageRow) → Among m (messages_in s) → is_over (Some m) s.moment ≡ true → Among m.id ids
