-- One account holds at most half of a handset's references, the next half of what is left.
use Rattle.std.proofs.Common.{◌≡◌, ℕ, zero, suc, List, [], ◌∷◌, ◌++◌, Bool, true, false, refl}
use Rattle.std.specs.Prelude.{codes}
use Rattle.sms_base.specs.declared.originator.Originator.TheVariants.{Application, Handset}
use Rattle.sms_centre_rows.specs.declared.messages.message.MessageRow.{MessageRow}
use Rattle.sms_centre_rows.specs.declared.waiting.queued_part.QueuedPart.{QueuedPart}
use Rattle.sms_centre_spec.specs.Shares.{holds_too_much}
use Rattle.sms_centre_spec.proofs.Worked.{no_message}

-- message 1 is of one account, message 2 of another, message 3 of a handset
abbrev messages : List MessageRow
messages =
    record no_message { id = 1; originator = Application (codes "app1") } ∷ record no_message { id = 2; originator = Application (codes "app2") }
    ∷ record no_message { id = 3; originator = Handset 0 } ∷ []

-- so many parts of one message wait
abbrev waits : ℕ → ℕ → List QueuedPart
waits id zero = []
waits id (suc n) = record { id = id; number = n; reference = n; priority = 0; due = 0 } ∷ waits id n

alone : holds_too_much (codes "app1") messages (waits 1 128) ≡ false
alone = refl

one_more : holds_too_much (codes "app1") messages (waits 1 129) ≡ true
one_more = refl

-- 64 of the 128 that are left
second : holds_too_much (codes "app2") messages (waits 1 128 ++ waits 2 64) ≡ false
second = refl

second_more : holds_too_much (codes "app2") messages (waits 1 128 ++ waits 2 65) ≡ true
second_more = refl

-- half of an odd number is rounded down: 127 are left
odd : holds_too_much (codes "app2") messages (waits 3 129 ++ waits 2 63) ≡ false
odd = refl

odd_more : holds_too_much (codes "app2") messages (waits 3 129 ++ waits 2 64) ≡ true
odd_more = refl

-- none is left
none_left : holds_too_much (codes "app2") messages (waits 1 128 ++ waits 3 128 ++ waits 2 1) ≡ true
none_left = refl
