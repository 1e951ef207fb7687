-- How a call ends for a store that had certain rows. They are kept, as the call leads to them. Or it is refused, and the store has them
-- still, or is closed.
use Rattle.std.specs.Prelude.{◌⊎◌, ℕ, Result, Ok, Err}
use Rattle.sms_rows.specs.keep.KeepState.{KeepState}
use Rattle.sms_rows.specs.keep.Refusing.{Counts, CountsRead}

-- a store that is honest after a call was honest before it
abbrev pub WasHonest : {Rows : Type 0} → KeepState Rows → KeepState Rows → Type 0
WasHonest before after = after.is_honest → before.is_honest

-- if the store is honest, and had these rows before the call
abbrev pub IfHeld : {Rows : Type 0} → Rows → KeepState Rows → KeepState Rows → Type 0 → Type 0
IfHeld rows before after claim = after.is_honest → before.holds rows → claim

-- The store has the rows that the call leads to, and the answer is right. Or it refused the call, and has the rows from before, or is
-- closed.
abbrev pub EndsWith : {Rows A E : Type 0} → (A → Type 0) → Rows → Rows → KeepState Rows → Result A E → Type 0
EndsWith is_right rows led_to after (Ok answer) = is_right answer × after.holds led_to
EndsWith is_right rows led_to after (Err error) = after.holds rows ⊎ after.is_closed

-- the same of an honest store that had these rows
abbrev pub StoreOutcome : {Rows A E : Type 0} → (A → Type 0) → Rows → Rows → KeepState Rows → KeepState Rows → Result A E → Type 0
StoreOutcome is_right rows led_to before after result = IfHeld rows before after (EndsWith is_right rows led_to after result)

-- it counts a call that it refused
abbrev pub IsCounted : {Rows A E : Type 0} → KeepState Rows → KeepState Rows → Result A E → Type 0
IsCounted before after result = Counts result before.refusals after.refusals

-- it counts a read of the body of that key that it refused
abbrev pub IsReadCounted : {Rows A E : Type 0} → ℕ → KeepState Rows → KeepState Rows → Result A E → Type 0
IsReadCounted key before after result = CountsRead key result before.refusals after.refusals
