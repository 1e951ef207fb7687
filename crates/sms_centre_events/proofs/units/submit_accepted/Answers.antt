-- submit_accepted
use Rattle.std.proofs.Common.{ℕ, Option, OnOk, subst}
use Rattle.sms_centre_spec.specs.Draft.{Draft, Store, in_store, rows_of}
use Rattle.sms_centre_spec.specs.MessageNumbers.{next_number}
use Rattle.sms_centre_spec.specs.Submitting.{accept}
use Rattle.sms_centre_draft.specs.CentreDraft.{Represents}
use Rattle.sms_centre_events.specs.Answering.{AcceptsAs}
use Rattle.sms_centre_events.proofs.Entered.{of_handset}
use Rattle.sms_centre_events.proofs.Submits.{confirmed, none_free}
use Rattle.sms_centre_events.proofs.units.submit_accepted.Goals as goal

pub returns-in-Some : goal.returns-in-Some
returns-in-Some c = λ d represents knows.
    let u = c.args.submission.now in
    let n = next_number (rows_of d.store) in
    let o = accept u d.store in
    let w = c.accept.new.draft in
    confirmed c.args.transfer.now.handset c.args.transfer.now.reference c.args.transfer.now.tag d w n (λ (x : Draft). OnOk c.confirm.result (Represents x c.confirm.new.self)) c.in_ok-becomes.becomes o c.in-Some.is
    (subst (λ (x : Option Store). AcceptsAs n x d w c.in_ok-becomes.becomes) (of_handset u o c.requires.originator) (c.in_ok-becomes.ensures d represents knows))
    (λ s k. c.confirm.ensures (in_store s d) k)

pub returns-in-None : goal.returns-in-None
returns-in-None c = λ d represents knows.
    let u = c.args.submission.now in
    let n = next_number (rows_of d.store) in
    let o = accept u d.store in
    let w = c.accept.new.draft in
    none_free c.args.transfer.now.handset c.args.transfer.now.reference c.args.transfer.now.tag d w n (λ (x : Draft). OnOk c.refuse.result (Represents x c.refuse.new.self)) o
    (subst (λ (x : Option ℕ). AcceptsAs n o d w x) c.in-None.is
    (subst (λ (x : Option Store). AcceptsAs n x d w c.in_ok-becomes.becomes) (of_handset u o c.requires.originator) (c.in_ok-becomes.ensures d represents knows)))
    (λ k. c.refuse.ensures d k)
