-- A message that is found is stored under its number.
use Rattle.std.proofs.Common.{◌≡◌, ℕ, Option, Some, None, sym}
use Rattle.smpp_pdu.specs.declared.cancel.CancelSm.{CancelSm}
use Rattle.sms_intake.specs.declared.submission.CentreAccount.{CentreAccount}
use Rattle.sms_centre_rows.specs.declared.messages.message.MessageRow.{MessageRow}
use Rattle.sms_centre_spec.specs.Draft.{Store, messages_in}
use Rattle.sms_centre_spec.specs.Requests.{to_cancel}
use Rattle.sms_centre_rows.specs.messages.Messages.{message_at}
use Rattle.sms_centre_spec.proofs.Steady.{message_own, to_cancel_there}
use Rattle.sms_centre_events.specs.Found.{IsStored}

found_stored : (o : Option MessageRow) (a : CentreAccount) (q : CancelSm) (s : Store) → to_cancel a q (messages_in s) ≡ o → IsStored o s
found_stored None a q s e = tt
found_stored (Some m) a q s e = to_cancel_there a q s m e

pub numbered_stored : (id : ℕ) (s : Store) (found : Option MessageRow) → found ≡ message_at id (messages_in s) → IsStored found s
numbered_stored id s None is = tt
numbered_stored id s (Some m) is = message_own id m s (sym is)

pub asked_stored : (a : CentreAccount) (q : CancelSm) (s : Store) (found : Option MessageRow) → found ≡ to_cancel a q (messages_in s) → IsStored found s
asked_stored a q s found is = found_stored found a q s (sym is)
