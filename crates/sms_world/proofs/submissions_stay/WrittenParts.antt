-- Each part's row is a DELIVER as the centre writes it, of a submission that says what the message's row says, and stays so through every event.
use Rattle.std.proofs.Common.{◌≡◌, ℕ, List, Option, Some, None, refl, sym, ◌∙◌}
use Rattle.sms_base.specs.Address.{IsAddress}
use Rattle.sms_base.specs.Among.{Among}
use Rattle.sms_base.specs.TimeStamp.{IsMoment}
use Rattle.sms_intake.specs.PartBodies.{bodies_under, deliver_octets}
use Rattle.sms_intake.specs.declared.submission.SinglePart.{SinglePart}
use Rattle.sms_intake.specs.declared.submission.Submission.{Submission}
use Rattle.sms_centre_rows.specs.declared.messages.message.MessageRow.{MessageRow}
use Rattle.sms_centre_rows.specs.declared.messages.part.PartRow.{PartRow}
use Rattle.sms_centre_rows.specs.messages.Messages.{ended}
use Rattle.sms_centre_spec.specs.declared.event.CentreEvent.{CentreEvent}
use Rattle.sms_centre_spec.specs.CentreEvent.{happened}
use Rattle.sms_centre_spec.specs.Consistent.{IsBody, IsSubmission}
use Rattle.sms_centre_spec.specs.Draft.{Core, Store, messages_in, parts_in, rows_of}
use Rattle.sms_centre_spec.specs.MessageNumbers.{next_number}
use Rattle.sms_centre_spec.specs.SoundCore.{IsEvent, IsSoundCore}
use Rattle.sms_centre_spec.specs.Submitting.{message_of}
use Rattle.sms_world.proofs.split_messages_stay.MadeParts.{IsAccepted}
use Rattle.sms_world.proofs.split_messages_stay.SplitParts.{among_body}
use Rattle.sms_world.proofs.split_messages_stay.KeptMessages.{IsLasting, IsSaidOfNew, all_said_on}

pub record IsWritten (m : MessageRow) (p : PartRow) : Type 0 where
  pub moment : ℕ
  pub submission : Submission
  pub body : SinglePart
  pub now : IsMoment moment
  pub address : IsAddress submission.source
  pub fits : IsBody submission body
  pub source : submission.source ≡ m.source
  pub protocol_identifier : submission.protocol_identifier ≡ m.protocol_identifier
  pub wish : submission.wish ≡ m.wish
  pub written : p.tpdu ≡ deliver_octets moment submission body

abbrev pub AllWritten : List MessageRow → List PartRow → Type 0
AllWritten messages parts = (m : MessageRow) (p : PartRow) → Among m messages → Among p parts → p.id ≡ m.id → IsWritten m p

stays : (m w : MessageRow) (p q : PartRow) → w.source ≡ m.source → w.protocol_identifier ≡ m.protocol_identifier → w.wish ≡ m.wish → p.tpdu ≡ q.tpdu → IsWritten m p → IsWritten w q
stays m w p q source identifier wish tpdu k = record {
  moment = k.moment;
  submission = k.submission;
  body = k.body;
  now = k.now;
  address = k.address;
  fits = k.fits;
  source = k.source ∙ sym source;
  protocol_identifier = k.protocol_identifier ∙ sym identifier;
  wish = k.wish ∙ sym wish;
  written = sym tpdu ∙ k.written;
}

-- ---- through every event

abbrev HasWritten : MessageRow → List PartRow → Type 0
HasWritten m parts = (p : PartRow) → Among p parts → p.id ≡ m.id → IsWritten m p

written_lasts : IsLasting HasWritten
written_lasts = record {
  ends = λ f n m ps k p i e. stays m (ended f n m) p p refl refl refl refl (k p i e);
  parts = λ m ps qs same k q i e. let x = same.only q i e in stays m m x.0 q refl refl refl x.1.3 (k x.0 x.1.0 (x.1.1 ∙ e));
}

new_written : (u : Submission) (s e : Store) (split : Option ℕ) (reference : ℕ) → IsSubmission u → IsAccepted u s split reference e → HasWritten (message_of (next_number (rows_of s)) s.moment split u) (parts_in e)
new_written u s e split reference fit a p i q =
    let y = a.made.made p i q in
    record {
      moment = y.1;
      submission = u;
      body = y.0;
      now = y.2.2;
      address = fit.source;
      fits = fit.bodies reference y.0 (among_body p.number (bodies_under reference u.text) y.0 y.2.1);
      source = refl;
      protocol_identifier = refl;
      wish = refl;
      written = y.2.3;
    }

said_of_new : IsSaidOfNew HasWritten
said_of_new = record {
  long = λ u s e reference fit after long a. new_written u s e (Some reference) reference fit a;
  short = λ u s e fit after a. new_written u s e None 0 fit a;
}

pub writings_hold : (event : CentreEvent) (c : Core) → IsSoundCore c → IsEvent event → AllWritten c.rows.messages c.rows.parts → AllWritten (messages_in (happened event c).store) (parts_in (happened event c).store)
writings_hold event c sound is k m p i j e = all_said_on HasWritten written_lasts said_of_new event c sound is (λ x a y b q. k x y a b q) m i p j e
