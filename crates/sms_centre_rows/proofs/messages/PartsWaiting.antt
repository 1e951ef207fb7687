-- What waits of the parts, looked up: that of the part which stands under the key.
use Rattle.std.proofs.Common.{◌≡◌, ℕ, List, [], ◌∷◌, Option, Some, None, true, false, refl, sym, ◌∙◌, ap, subst, ⊎_elim}
use Rattle.std.proofs.lemmas.Bool.{cases_Bool, cases_eq, cond-true, cond-false}
use Rattle.sms_rows.specs.table.Table.{AllAbove, Rises, row_at}
use Rattle.sms_rows.proofs.table.Tables.{row_behind, row_here}
use Rattle.sms_centre_rows.specs.declared.messages.message.MessageRow.{MessageRow}
use Rattle.sms_centre_rows.specs.declared.messages.part.PartRow.{PartRow}
use Rattle.sms_centre_rows.specs.declared.messages.priority.PriorityRow.{PriorityRow}
use Rattle.sms_centre_rows.specs.messages.Messages.{message_at, part_key}
use Rattle.sms_centre_rows.specs.messages.OpenParts.{part_queued, part_wait, parts_waiting, waits_for}
use Rattle.sms_centre_rows.specs.declared.waiting.queued_part.QueuedPart.{QueuedPart}
use Rattle.sms_centre_rows.specs.waiting.Keys.{queued_key}
use Rattle.sms_centre_rows.proofs.waiting.Alike.{above_none}

module _ (h : List ℕ) (ms : List MessageRow) (qs : List PriorityRow) where
  -- the list where the first part waits, and where it doesn't
  waiting_first : (p : PartRow) (ps : List PartRow) → waits_for h p (message_at p.id ms) ≡ true → parts_waiting h ms qs (p ∷ ps) ≡ part_queued p qs ∷ parts_waiting h ms qs ps
  waiting_first p ps t = cond-true (waits_for h p (message_at p.id ms)) (part_queued p qs ∷ parts_waiting h ms qs ps) (parts_waiting h ms qs ps) t

  waiting_rest : (p : PartRow) (ps : List PartRow) → waits_for h p (message_at p.id ms) ≡ false → parts_waiting h ms qs (p ∷ ps) ≡ parts_waiting h ms qs ps
  waiting_rest p ps t = cond-false (waits_for h p (message_at p.id ms)) (part_queued p qs ∷ parts_waiting h ms qs ps) (parts_waiting h ms qs ps) t

  above_waiting : (n : ℕ) (ps : List PartRow) → AllAbove part_key n ps → AllAbove queued_key n (parts_waiting h ms qs ps)
  above_waiting n [] a = tt
  above_waiting n (p ∷ ps) a = ⊎_elim
      (λ (t : waits_for h p (message_at p.id ms) ≡ true). subst (λ (l : List QueuedPart). AllAbove queued_key n l) (sym (waiting_first p ps t)) (a.0, above_waiting n ps a.1))
      (λ (t : waits_for h p (message_at p.id ms) ≡ false). subst (λ (l : List QueuedPart). AllAbove queued_key n l) (sym (waiting_rest p ps t)) (above_waiting n ps a.1))
      (cases_Bool (waits_for h p (message_at p.id ms)))

  pub rises_waiting : (ps : List PartRow) → Rises part_key ps → Rises queued_key (parts_waiting h ms qs ps)
  rises_waiting [] r = tt
  rises_waiting (p ∷ ps) r = ⊎_elim
      (λ (t : waits_for h p (message_at p.id ms) ≡ true). subst (λ (l : List QueuedPart). Rises queued_key l) (sym (waiting_first p ps t)) (above_waiting (part_key p) ps r.0, rises_waiting ps r.1))
      (λ (t : waits_for h p (message_at p.id ms) ≡ false). subst (λ (l : List QueuedPart). Rises queued_key l) (sym (waiting_rest p ps t)) (rises_waiting ps r.1))
      (cases_Bool (waits_for h p (message_at p.id ms)))

  pub waiting_at : (k : ℕ) (ps : List PartRow) → Rises part_key ps → row_at queued_key k (parts_waiting h ms qs ps) ≡ part_wait h ms qs (row_at part_key k ps)
  waiting_at k [] r = refl
  waiting_at k (p ∷ ps) r = ⊎_elim
      (λ (e : part_key p ≡ k). ⊎_elim
      (λ (t : waits_for h p (message_at p.id ms) ≡ true).
      ap (λ (l : List QueuedPart). row_at queued_key k l) (waiting_first p ps t) ∙ row_here queued_key k (part_queued p qs) (parts_waiting h ms qs ps) e
      ∙ sym (ap (λ (o : Option PartRow). part_wait h ms qs o) (row_here part_key k p ps e) ∙ cond-true (waits_for h p (message_at p.id ms)) (Some (part_queued p qs)) None t))
      (λ (t : waits_for h p (message_at p.id ms) ≡ false).
      ap (λ (l : List QueuedPart). row_at queued_key k l) (waiting_rest p ps t) ∙ waiting_at k ps r.1
      ∙ ap (λ (o : Option PartRow). part_wait h ms qs o) (ap (λ (n : ℕ). row_at part_key n ps) (sym e) ∙ above_none part_key (part_key p) ps r.0)
      ∙ sym (ap (λ (o : Option PartRow). part_wait h ms qs o) (row_here part_key k p ps e) ∙ cond-false (waits_for h p (message_at p.id ms)) (Some (part_queued p qs)) None t))
      (cases_Bool (waits_for h p (message_at p.id ms))))
      (λ (e : part_key p ≡ k → ⊥). ⊎_elim
      (λ (t : waits_for h p (message_at p.id ms) ≡ true).
      ap (λ (l : List QueuedPart). row_at queued_key k l) (waiting_first p ps t) ∙ row_behind queued_key k (part_queued p qs) (parts_waiting h ms qs ps) e
      ∙ waiting_at k ps r.1 ∙ ap (λ (o : Option PartRow). part_wait h ms qs o) (sym (row_behind part_key k p ps e)))
      (λ (t : waits_for h p (message_at p.id ms) ≡ false).
      ap (λ (l : List QueuedPart). row_at queued_key k l) (waiting_rest p ps t)
      ∙ waiting_at k ps r.1 ∙ ap (λ (o : Option PartRow). part_wait h ms qs o) (sym (row_behind part_key k p ps e)))
      (cases_Bool (waits_for h p (message_at p.id ms))))
      (cases_eq (part_key p) k)
