-- The receipts that were sent in a session and have no answer yet.
use Rattle.std.specs.Prelude.{ℕ, ◌+◌, ◌==◌, List, [], ◌∷◌, Option, Some, None, if◌then◌else◌}
use Rattle.smsc_endpoint.specs.declared.pending.SentReceipt.{SentReceipt}

abbrev pub one_behind : Option (ℕ × ℕ) → Option (ℕ × ℕ)
one_behind None = None
one_behind (Some found) = Some (found.0 + 1, found.1)

-- the place of the first that was sent under the sequence number, and its message
abbrev pub found_under : ℕ → List SentReceipt → Option (ℕ × ℕ)
found_under number [] = None
found_under number (receipt ∷ receipts) =
    if receipt.sequence_number == number then Some (0, receipt.id) else one_behind (found_under number receipts)

-- when the oldest was sent
abbrev pub oldest : List SentReceipt → Option ℕ
oldest [] = None
oldest (receipt ∷ receipts) = Some receipt.since
