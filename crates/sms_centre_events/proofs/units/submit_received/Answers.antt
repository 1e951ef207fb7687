use Rattle.std.proofs.Common.{◌≡◌, Bool, true, false, OnOk, sym, ◌∙◌, subst}
use Rattle.std.specs.Prelude.{if◌then◌else◌}
use Rattle.sms_intake.specs.declared.refusal.SubmitRefusal.TheVariants.{Duplicate, ReferenceTaken}
use Rattle.sms_centre_spec.specs.Draft.{bars_in, messages_in, parts_in}
use Rattle.sms_centre_spec.specs.Receiving.{is_duplicate, refuse, submit_accepted}
use Rattle.sms_centre_spec.specs.Submitting.{accept, is_reference_taken}
use Rattle.sms_centre_draft.specs.CentreDraft.{Represents}
use Rattle.sms_centre_events.proofs.units.submit_received.Goals as goal

pub returns-then-is_duplicate : goal.returns-then-is_duplicate
returns-then-is_duplicate c = λ d represents knows.
    let t = c.args.transfer.now in
    let u = c.args.submission.now in
    let double : is_duplicate u d.store ≡ true = sym (c.is_duplicate.ensures (bars_in d.store) (messages_in d.store) (parts_in d.store) knows.reference_index) ∙ c.if-is_duplicate.true in
    subst (λ (b : Bool). OnOk c.refuse.result (Represents (if b then refuse t.handset t.reference t.tag Duplicate d
    else (if is_reference_taken u d.store then refuse t.handset t.reference t.tag ReferenceTaken d else submit_accepted t.handset t.reference t.tag (accept u d.store) d)) c.refuse.new.self))
    (sym double) (c.refuse.ensures d represents)

pub returns-then-is_reference_taken : goal.returns-then-is_reference_taken
returns-then-is_reference_taken c = λ d represents knows.
    let t = c.args.transfer.now in
    let u = c.args.submission.now in
    let new = c.refuse-then-is_reference_taken.new.self in
    let single : is_duplicate u d.store ≡ false = sym (c.is_duplicate.ensures (bars_in d.store) (messages_in d.store) (parts_in d.store) knows.reference_index) ∙ c.if-is_duplicate.false in
    let taken : is_reference_taken u d.store ≡ true = sym (c.is_reference_taken.ensures (bars_in d.store) (messages_in d.store) (parts_in d.store) knows.reference_index) ∙ c.if-is_reference_taken.true in
    subst (λ (b : Bool). OnOk c.refuse-then-is_reference_taken.result (Represents (if b then refuse t.handset t.reference t.tag Duplicate d
    else (if is_reference_taken u d.store then refuse t.handset t.reference t.tag ReferenceTaken d else submit_accepted t.handset t.reference t.tag (accept u d.store) d)) new))
    (sym single)
    (subst (λ (b : Bool). OnOk c.refuse-then-is_reference_taken.result (Represents (if b then refuse t.handset t.reference t.tag ReferenceTaken d else submit_accepted t.handset t.reference t.tag (accept u d.store) d) new))
    (sym taken) (c.refuse-then-is_reference_taken.ensures d represents))

pub returns : goal.returns
returns c = λ d represents knows.
    let t = c.args.transfer.now in
    let u = c.args.submission.now in
    let new = c.submit_accepted.new.draft in
    let single : is_duplicate u d.store ≡ false = sym (c.is_duplicate.ensures (bars_in d.store) (messages_in d.store) (parts_in d.store) knows.reference_index) ∙ c.if-is_duplicate.false in
    let free : is_reference_taken u d.store ≡ false = sym (c.is_reference_taken.ensures (bars_in d.store) (messages_in d.store) (parts_in d.store) knows.reference_index) ∙ c.if-is_reference_taken.false in
    subst (λ (b : Bool). OnOk c.submit_accepted.result (Represents (if b then refuse t.handset t.reference t.tag Duplicate d
    else (if is_reference_taken u d.store then refuse t.handset t.reference t.tag ReferenceTaken d else submit_accepted t.handset t.reference t.tag (accept u d.store) d)) new))
    (sym single)
    (subst (λ (b : Bool). OnOk c.submit_accepted.result (Represents (if b then refuse t.handset t.reference t.tag ReferenceTaken d else submit_accepted t.handset t.reference t.tag (accept u d.store) d) new))
    (sym free) (c.submit_accepted.ensures d represents knows))
