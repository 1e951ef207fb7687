-- The text of a receipt (SMPP v3.4 appendix B; which fields it has is this project's profile).
use Rattle.std.specs.Prelude.{ℕ, List, ◌++◌, codes}
use Rattle.sms_base.specs.FinalWords.{final_word}
use Rattle.sms_base.specs.MessageId.{id_text}
use Rattle.sms_base.specs.UtcClock.{date_of}
use Rattle.sms_base.specs.declared.final_state.FinalState.{FinalState}
use Rattle.sms_base.specs.declared.final_state.FinalState.TheVariants.{Delivered, Expired, Deleted, Undeliverable}
use Rattle.sms_receipt.specs.declared.final_message.Final.{Final}

-- how many of the one message were delivered
abbrev pub delivered_word : FinalState → List ℕ
delivered_word Delivered = codes "001"
delivered_word Expired = codes "000"
delivered_word Deleted = codes "000"
delivered_word Undeliverable = codes "000"

abbrev pub receipt_text : Final → List ℕ
receipt_text f =
    codes "id:" ++ (id_text f.id ++ (codes " sub:001 dlvrd:" ++ (delivered_word f.state ++ (codes " submit date:" ++ (date_of f.submitted
    ++ (codes " done date:" ++ (date_of f.done ++ (codes " stat:" ++ (final_word f.state ++ codes " err:000 text:")))))))))
