-- What the right reports have in common: what was submitted, and that nothing was there before.
use Rattle.std.proofs.Common.{◌≡◌, ℕ, List, [], false, refl, subst, inl, Ok}
use Rattle.sms_base.specs.Among.{Among}
use Rattle.sms_base.specs.HandsetNumber.{own_address}
use Rattle.sms_base.specs.declared.originator.Originator.{Originator}
use Rattle.sms_base.specs.declared.originator.Originator.TheVariants.{Application}
use Rattle.sms_base.specs.declared.wish.Wish.{Wish}
use Rattle.sms_base.specs.declared.wish.Wish.TheVariants.{Always}
use Rattle.sms_centre_rows.specs.declared.report_lines.ReceiptRow.{ReceiptRow}
use Rattle.sms_centre_rows.specs.declared.report_lines.ReportedMessage.{ReportedMessage}
use Rattle.sms_concat.specs.declared.content.Content.{Content}
use Rattle.sms_intake.specs.SmppText.{text_in}
use Rattle.sms_intake.specs.declared.submission.Submission.{Submission}
use Rattle.sms_intake.specs.declared.submission.Text.TheVariants.{Whole as WholeText}
use Rattle.sms_script.specs.Requests.{submit_of}
use Rattle.sms_script.specs.declared.report.Report.{Report}
use Rattle.sms_world.specs.headline.PlainReport.{Stays}
use Rattle.sms_world.specs.headline.PlainScript.{IsAskedBy}
use Rattle.sms_world.specs.wrong_reports.Literals.{account, asked, handset, name, setup, source}

-- a text to the handset, with all else as it is where nothing is asked for
abbrev pub submitted : Originator → List ℕ → Wish → Content → Submission
submitted originator number wish content = record {
  originator = originator;
  source = own_address number;
  handset = handset;
  protocol_identifier = 0;
  reply_path = false;
  wish = wish;
  rejects_duplicates = false;
  limit = 0;
  due = 0;
  priority = 0;
  text = WholeText content;
}

-- the application submits a text by its octets
pub asked_of : (coding : ℕ) (message : List ℕ) (content : Content) → text_in (submit_of (record asked { coding = coding; message = message })) ≡ Ok (WholeText content)
    → IsAskedBy setup (record asked { coding = coding; message = message }) (submitted (Application name) source Always content)
asked_of coding message content reads = record {
  account = account;
  among = inl refl;
  named = refl;
  source = refl;
  handset = refl;
  protocol_identifier = refl;
  reply_path = refl;
  wish = refl;
  text = reads;
}

-- a report without a line has nothing to keep
pub none_before : (x y : Report) → x.table ≡ [] → x.receipts ≡ [] → Stays x y
none_before x y no_lines no_receipts = record {
  lines = λ m i. absurd (subst (λ (ms : List ReportedMessage). Among m ms) no_lines i);
  final = λ m s i e. absurd (subst (λ (ms : List ReportedMessage). Among m ms) no_lines i);
  receipts = λ r i. absurd (subst (λ (rs : List ReceiptRow). Among r rs) no_receipts i);
}
