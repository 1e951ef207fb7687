use Rattle.std.proofs.Common.{◌≡◌, ℕ, true, false, Option, OnOk, sym, ◌∙◌, ap, subst}
use Rattle.sms_centre_rows.specs.declared.messages.message.MessageRow.{MessageRow}
use Rattle.sms_centre_rows.specs.declared.messages.part.PartRow.{PartRow}
use Rattle.sms_centre_rows.specs.declared.messages.parts.PartEntry.{PartEntry}
use Rattle.sms_centre_rows.specs.declared.waiting.progress.Progress.{Progress}
use Rattle.sms_centre_rows.specs.waiting.Trying.{due_at}
use Rattle.sms_centre_spec.specs.Draft.{in_store, with_part_at}
use Rattle.sms_centre_spec.specs.Receiving.{part_due}
use Rattle.sms_centre_draft.specs.Transfers.{IsOpenPart}
use Rattle.sms_centre_draft.specs.CentreDraft.{Represents}
use Rattle.sms_centre_draft.proofs.centre_draft.CentreDraft.part_due.Goals as goal

pub returns-in-Some : goal.returns-in-Some
returns-in-Some c = λ d represents is_open.
    let found = subst (λ (o : Option (PartEntry × MessageRow)). IsOpenPart c.args.id c.args.number d.store o) c.in-Some.is (c.in_ok-found.ensures d represents) in
    let p = found.0 in
    let w = found.1 in
    let same : c.due_at-progress.result ≡ due_at d.store.moment p.progress =
    c.due_at-progress.ensures ∙ ap (λ (n : ℕ). due_at n c.in-Some.entry.progress) (c.now.ensures d represents) ∙ ap (λ (e : PartEntry). due_at d.store.moment e.progress) (sym w.entry_is) in
    let done = c.part_off.ensures d p represents w.own w.entry_is w.message w.pending w.undone (ap (λ (q : Progress). q.is_done) same ∙ w.undone) in
    subst (λ (o : Option PartRow). OnOk c.part_off.result (Represents (in_store (part_due o d.store) d) c.part_off.new.self)) (sym w.part)
    (subst (λ (q : Progress). OnOk c.part_off.result (Represents (in_store (with_part_at p q d.store) d) c.part_off.new.self)) same done)

pub returns-in-None : goal.returns-in-None
returns-in-None c = λ d represents is_open.
    let none = subst (λ (o : Option (PartEntry × MessageRow)). IsOpenPart c.args.id c.args.number d.store o) c.in-None.is (c.in_ok-found.ensures d represents) in
    let bad : true ≡ false = sym is_open ∙ none in absurd cc
