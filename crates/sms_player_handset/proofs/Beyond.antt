-- No entry has a number from the next one on.
use Rattle.std.proofs.Common.{◌≡◌, ℕ, ◌≤◌, List, [], ◌∷◌, Option, Some, None, Err, ◌∙◌, ap, refl, arith}
use Rattle.std.proofs.lemmas.Bool.{cond-false, ne_eqb}
use Rattle.std.specs.Prelude.{◌==◌}
use Rattle.sms_handset_rows.specs.inbox.SoundInbox.{AreEntries}
use Rattle.sms_handset_rows.specs.inbox.Keys.{entry_key}
use Rattle.sms_handset_rows.specs.declared.inbox.entry.Entry.{Entry}
use Rattle.sms_handset_rows.specs.outbox.SoundOutbox.{AreOutEntries}
use Rattle.sms_handset_rows.specs.outbox.Keys.{out_key}
use Rattle.sms_handset_rows.specs.declared.outbox.out_entry.OutEntry.{OutEntry}
use Rattle.sms_rows.specs.table.Table.{row_at}
use Rattle.sms_handset_draft.specs.Draft.{Core, draft_of}
use Rattle.sms_handset.specs.HandsetEvent.{acted, deleted, discarded}
use Rattle.sms_handset.specs.OwnersActs.{delete_in, delete_out, discard_at}
use Rattle.sms_handset.specs.SoundRows.{IsSound}
use Rattle.sms_handset.specs.declared.refusal.Refusal.TheVariants.{NoEntry}

no_entry : (next n : ℕ) (entries : List Entry) → AreEntries next entries → next ≤ n → row_at entry_key n entries ≡ None
no_entry next n [] are far = refl
no_entry next n (e ∷ es) are far =
    cond-false (e.number == n) (Some e) (row_at entry_key n es) (ne_eqb e.number n (λ (q : e.number ≡ n). omega (arith, q, far, are.0.0.1)))
    ∙ no_entry next n es are.1 far

no_out_entry : (next n : ℕ) (entries : List Entry) (outbox : List OutEntry) → AreOutEntries next entries outbox → next ≤ n → row_at out_key n outbox ≡ None
no_out_entry next n entries [] are far = refl
no_out_entry next n entries (o ∷ os) are far =
    cond-false (o.number == n) (Some o) (row_at out_key n os) (ne_eqb o.number n (λ (q : o.number ≡ n). omega (arith, q, far, are.0.0.1)))
    ∙ no_out_entry next n entries os are.1 far

pub none_to_delete : (n : ℕ) (c : Core) → IsSound c.rows → c.rows.counters.entry ≤ n → deleted n c ≡ Err NoEntry
none_to_delete n c sound far =
    ap (λ (e : Option Entry). acted (delete_in n e (draft_of c))) (no_entry c.rows.counters.entry n c.rows.entries sound.entries far)
    ∙ ap (λ (o : Option OutEntry). acted (delete_out n o (draft_of c))) (no_out_entry c.rows.counters.entry n c.rows.entries c.rows.outbox sound.outbox far)

pub none_to_discard : (n : ℕ) (c : Core) → IsSound c.rows → c.rows.counters.entry ≤ n → discarded n c ≡ Err NoEntry
none_to_discard n c sound far =
    ap (λ (e : Option Entry). acted (discard_at n e (draft_of c))) (no_entry c.rows.counters.entry n c.rows.entries sound.entries far)
