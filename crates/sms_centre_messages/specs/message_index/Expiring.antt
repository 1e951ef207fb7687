-- Which messages expire, by what memory has: the numbers of deadlines that are reached are looked up in order, each once.
use Rattle.std.specs.Prelude.{ℕ, ◌==◌, List, [], ◌∷◌, ◌++◌, Bool, false, if◌then◌else◌, Option, Some, None}
use Rattle.std.specs.Option.{option_to_list}
use Rattle.sms_centre_rows.specs.declared.messages.message.MessageRow.{MessageRow}
use Rattle.sms_centre_rows.specs.messages.Messages.{message_at}
use Rattle.sms_centre_messages.specs.message_index.MessageIndex.{is_past, past_id}

-- ---- numbers that are looked up

-- it is the number before
abbrev pub is_repeated : ℕ → Option ℕ → Bool
is_repeated n None = false
is_repeated n (Some last) = last == n

-- the number, if it isn't the one before, and its message is past
abbrev pub confirmed_one : ℕ → List MessageRow → Option ℕ → ℕ → List ℕ
confirmed_one now ms last n = if is_repeated n last then [] else option_to_list (past_id now (message_at n ms))

abbrev pub confirmed : ℕ → List MessageRow → Option ℕ → List ℕ → List ℕ
confirmed now ms last [] = []
confirmed now ms last (n ∷ ns) = confirmed_one now ms last n ++ confirmed now ms (Some n) ns

-- ---- a step for each message that is past

-- of all messages in their order
abbrev pub all_past : {S : Type 0} → (MessageRow → S → S) → ℕ → List MessageRow → S → S
all_past step now [] s = s
all_past step now (m ∷ ms) s = all_past step now ms (if is_past now m then step m s else s)

abbrev pub step_at : {S : Type 0} → (MessageRow → S → S) → Option MessageRow → S → S
step_at step None s = s
step_at step (Some m) s = step m s

-- of the messages of these numbers
abbrev pub each_numbered : {S : Type 0} → (MessageRow → S → S) → List MessageRow → List ℕ → S → S
each_numbered step ms [] s = s
each_numbered step ms (n ∷ ns) s = each_numbered step ms ns (step_at step (message_at n ms) s)
