-- Entries that are Sending, as the outbox changes.
use Rattle.std.proofs.Common.{◌≡◌, ℕ, List, Some, ◌∙◌, subst, ⊎_elim, sym, ap, true, false}
use Rattle.std.proofs.lemmas.Bool.{cases_eq}
use Rattle.sms_base.specs.Among.{Among}
use Rattle.sms_rows.specs.table.Table.{put, row_at, Rises, without}
use Rattle.sms_rows.proofs.table.Tables.{row_at_put, row_at_put_other, among_found, row_at_without_other}
use Rattle.sms_handset_rows.specs.declared.outbox.out_entry.EntryState.TheVariants.{Sending}
use Rattle.sms_handset_rows.specs.declared.outbox.out_entry.OutEntry.{OutEntry}
use Rattle.sms_handset_rows.specs.outbox.Keys.{out_key}
use Rattle.sms_handset_rows.specs.declared.outbox.out_entry.EntryState.{EntryState}
use Rattle.sms_handset_rows.specs.outbox.References.{is_unfinished}
use Rattle.sms_handset.specs.SoundCore.{IsSendingEntry}

-- ---- what is under way

pub sending_put : (r n : ℕ) (w : OutEntry) (os : List OutEntry) → (w.number ≡ n → (w.state ≡ Sending) × (w.reference ≡ r)) → IsSendingEntry r n os → IsSendingEntry r n (put out_key w os)
sending_put r n w os s h = ⊎_elim
    (λ (e : w.number ≡ n). (w, (subst (λ (m : ℕ). row_at out_key m (put out_key w os) ≡ Some w) e (row_at_put out_key w os), s e)))
    (λ (e : w.number ≡ n → ⊥). (h.0, (row_at_put_other out_key n w os e ∙ h.1.0, h.1.1)))
    (cases_eq w.number n)

-- an entry takes the place of one that is as far
pub sending_same : (r n : ℕ) (o w : OutEntry) (os : List OutEntry) → Rises out_key os → Among o os → w.number ≡ o.number → w.state ≡ o.state → w.reference ≡ o.reference
    → IsSendingEntry r n os → IsSendingEntry r n (put out_key w os)
sending_same r n o w os rises a e s f h = sending_put r n w os
    (λ q.
    let both : Some o ≡ Some h.0 = sym (among_found out_key o os rises a) ∙ ap (λ (m : ℕ). row_at out_key m os) (sym e ∙ q) ∙ h.1.0 in
    let same : o ≡ h.0 = cc in
    (s ∙ ap (λ (z : OutEntry). z.state) same ∙ h.1.1.0, f ∙ ap (λ (z : OutEntry). z.reference) same ∙ h.1.1.1)) h

-- a finished entry leaves
pub sending_stays : (r n m : ℕ) (o : OutEntry) (os : List OutEntry) → row_at out_key m os ≡ Some o → is_unfinished o.state ≡ false → IsSendingEntry r n os → IsSendingEntry r n (without out_key m os)
sending_stays r n m o os q f h = (
  h.0,
  (
    row_at_without_other out_key m n os
        (λ e.
        let both : Some o ≡ Some h.0 = sym q ∙ ap (λ (k : ℕ). row_at out_key k os) e ∙ h.1.0 in
        let same : o ≡ h.0 = cc in
        let t : is_unfinished o.state ≡ true = ap (λ (z : OutEntry). is_unfinished z.state) same ∙ ap (λ (s : EntryState). is_unfinished s) h.1.1.0 in
        absurd cc)
        ∙ h.1.0,
    h.1.1,
  ),
)
