-- A TPDU that arrives again.
use Rattle.std.specs.Prelude.{ℕ, List, Bool, false, Option, Some, None}
use Rattle.sms_tpdu.specs.MoreMessages.{same_message}
use Rattle.sms_handset_rows.specs.declared.inbox.last_accepted.LastAccepted.{LastAccepted}

-- the TPDU is the one that was accepted last under its reference, which may say otherwise now whether more messages wait
abbrev pub is_double : List ℕ → Option LastAccepted → Bool
is_double tpdu None = false
is_double tpdu (Some l) = same_message tpdu l.tpdu
