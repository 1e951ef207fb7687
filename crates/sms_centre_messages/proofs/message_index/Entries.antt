-- Entries of messages follow their rows.
use Rattle.std.proofs.Common.{◌≡◌, ℕ, List, [], ◌∷◌, Option, Some, true, false, nat_lt, sym, ◌∙◌, ap, subst, ⊎_elim}
use Rattle.std.specs.Prelude.{◌==◌, if◌then◌else◌}
use Rattle.std.proofs.lemmas.Bool.{cases_Bool, cases_eq, cond-true, cond-false}
use Rattle.sms_rows.specs.table.Table.{insert, put, row_at, without}
use Rattle.sms_rows.proofs.table.Tables.{row_behind, row_here}
use Rattle.sms_rows.specs.interning.Interning.{Keeps}
use Rattle.sms_centre_rows.specs.declared.messages.message.MessageRow.{MessageRow}
use Rattle.sms_base.specs.declared.originator.Originator.{Originator}
use Rattle.sms_base.specs.declared.originator.Originator.TheVariants.{Application as ByApplication, Handset as ByHandset}
use Rattle.sms_centre_rows.specs.messages.Messages.{message_key}
use Rattle.sms_centre_messages.specs.declared.message_index.message_entry.MessageEntry.{MessageEntry}
use Rattle.sms_centre_messages.specs.declared.message_index.message_entry.OriginatorEntry.{OriginatorEntry}
use Rattle.sms_centre_messages.specs.declared.message_index.message_entry.OriginatorEntry.TheVariants.{Application, Handset}
use Rattle.sms_centre_messages.specs.message_index.Entries.{AreEntries, FoundAs, IsEntry, IsOriginator, NamesStay, NamesOf, message_entry_key}

pub same_key : (names : NamesOf) (e : MessageEntry) (m : MessageRow) → IsEntry names e m → e.id ≡ m.id
same_key names e m is = sym (ap (λ (r : MessageRow). r.id) is.row)

-- ---- places that keep what they name

preserved_originator : (old new : List (List ℕ)) → Keeps old new → (e : OriginatorEntry) (o : Originator) → IsOriginator old e o → IsOriginator new e o
preserved_originator old new keeps (Application account) (ByApplication name) at = keeps name account at
preserved_originator old new keeps (Application account) (ByHandset n) at = elim at [ ]
preserved_originator old new keeps (Handset n) (ByApplication name) at = elim at [ ]
preserved_originator old new keeps (Handset n) (ByHandset m) at = at

pub preserved_entry : (old new : NamesOf) → NamesStay old new → (e : MessageEntry) (m : MessageRow) → IsEntry old e m → IsEntry new e m
preserved_entry old new keeps e m is = record {
  originator = preserved_originator old.accounts.values new.accounts.values keeps.accounts e.originator m.originator is.originator;
  source = keeps.numbers m.source.digits e.source_digits is.source;
  handset = keeps.numbers m.handset e.handset is.handset;
  number = is.number;
  row = is.row;
}

pub preserved_entries : (old new : NamesOf) → NamesStay old new → (es : List MessageEntry) (ms : List MessageRow) → AreEntries old es ms → AreEntries new es ms
preserved_entries old new keeps [] [] are = tt
preserved_entries old new keeps [] (m ∷ ms) are = elim are [ ]
preserved_entries old new keeps (e ∷ es) [] are = elim are [ ]
preserved_entries old new keeps (e ∷ es) (m ∷ ms) are = (preserved_entry old new keeps e m are.0, preserved_entries old new keeps es ms are.1)

module _ (names : NamesOf) where
  -- ---- looked up

  pub found_as : (k : ℕ) (es : List MessageEntry) (ms : List MessageRow) → AreEntries names es ms → FoundAs names (row_at message_entry_key k es) (row_at message_key k ms)
  found_as k [] [] are = tt
  found_as k [] (m ∷ ms) are = elim are [ ]
  found_as k (e ∷ es) [] are = elim are [ ]
  found_as k (e ∷ es) (m ∷ ms) are = ⊎_elim
      (λ (q : e.id ≡ k).
      subst (λ (o : Option MessageEntry). FoundAs names o (row_at message_key k (m ∷ ms))) (sym (row_here message_entry_key k e es q))
      (subst (λ (o : Option MessageRow). FoundAs names (Some e) o) (sym (row_here message_key k m ms (sym (same_key names e m are.0) ∙ q))) are.0))
      (λ (q : e.id ≡ k → ⊥).
      subst (λ (o : Option MessageEntry). FoundAs names o (row_at message_key k (m ∷ ms))) (sym (row_behind message_entry_key k e es q))
      (subst (λ (o : Option MessageRow). FoundAs names (row_at message_entry_key k es) o) (sym (row_behind message_key k m ms (λ (r : m.id ≡ k). q (same_key names e m are.0 ∙ r)))) (found_as k es ms are.1)))
      (cases_eq e.id k)

  -- ---- a message comes or goes

  pub without_entries : (k : ℕ) (es : List MessageEntry) (ms : List MessageRow) → AreEntries names es ms → AreEntries names (without message_entry_key k es) (without message_key k ms)
  without_entries k [] [] are = tt
  without_entries k [] (m ∷ ms) are = elim are [ ]
  without_entries k (e ∷ es) [] are = elim are [ ]
  without_entries k (e ∷ es) (m ∷ ms) are =
      let rest = without_entries k es ms are.1 in
      subst (λ (i : ℕ). AreEntries names (without message_entry_key k (e ∷ es)) (if i == k then without message_key k ms else m ∷ without message_key k ms)) (same_key names e m are.0)
      (⊎_elim
      (λ (t : (e.id == k) ≡ true).
      subst (λ (l : List MessageEntry). AreEntries names l (if e.id == k then without message_key k ms else m ∷ without message_key k ms)) (sym (cond-true (e.id == k) (without message_entry_key k es) (e ∷ without message_entry_key k es) t))
      (subst (λ (l : List MessageRow). AreEntries names (without message_entry_key k es) l) (sym (cond-true (e.id == k) (without message_key k ms) (m ∷ without message_key k ms) t)) rest))
      (λ (t : (e.id == k) ≡ false).
      subst (λ (l : List MessageEntry). AreEntries names l (if e.id == k then without message_key k ms else m ∷ without message_key k ms)) (sym (cond-false (e.id == k) (without message_entry_key k es) (e ∷ without message_entry_key k es) t))
      (subst (λ (l : List MessageRow). AreEntries names (e ∷ without message_entry_key k es) l) (sym (cond-false (e.id == k) (without message_key k ms) (m ∷ without message_key k ms) t)) (are.0, rest)))
      (cases_Bool (e.id == k)))

  insert_entries : (x : MessageEntry) (r : MessageRow) (es : List MessageEntry) (ms : List MessageRow) → IsEntry names x r → AreEntries names es ms → AreEntries names (insert message_entry_key x es) (insert message_key r ms)
  insert_entries x r [] [] is are = (is, tt)
  insert_entries x r [] (m ∷ ms) is are = elim are [ ]
  insert_entries x r (e ∷ es) [] is are = elim are [ ]
  insert_entries x r (e ∷ es) (m ∷ ms) is are =
      let rest = insert_entries x r es ms is are.1 in
      subst (λ (i : ℕ). AreEntries names (insert message_entry_key x (e ∷ es)) (if nat_lt i m.id then r ∷ m ∷ ms else m ∷ insert message_key r ms)) (same_key names x r is)
      (subst (λ (j : ℕ). AreEntries names (insert message_entry_key x (e ∷ es)) (if nat_lt x.id j then r ∷ m ∷ ms else m ∷ insert message_key r ms)) (same_key names e m are.0)
      (⊎_elim
      (λ (t : nat_lt x.id e.id ≡ true).
      subst (λ (l : List MessageEntry). AreEntries names l (if nat_lt x.id e.id then r ∷ m ∷ ms else m ∷ insert message_key r ms)) (sym (cond-true (nat_lt x.id e.id) (x ∷ e ∷ es) (e ∷ insert message_entry_key x es) t))
      (subst (λ (l : List MessageRow). AreEntries names (x ∷ e ∷ es) l) (sym (cond-true (nat_lt x.id e.id) (r ∷ m ∷ ms) (m ∷ insert message_key r ms) t)) (is, are)))
      (λ (t : nat_lt x.id e.id ≡ false).
      subst (λ (l : List MessageEntry). AreEntries names l (if nat_lt x.id e.id then r ∷ m ∷ ms else m ∷ insert message_key r ms)) (sym (cond-false (nat_lt x.id e.id) (x ∷ e ∷ es) (e ∷ insert message_entry_key x es) t))
      (subst (λ (l : List MessageRow). AreEntries names (e ∷ insert message_entry_key x es) l) (sym (cond-false (nat_lt x.id e.id) (r ∷ m ∷ ms) (m ∷ insert message_key r ms) t)) (are.0, rest)))
      (cases_Bool (nat_lt x.id e.id))))

  pub put_entries : (x : MessageEntry) (r : MessageRow) (es : List MessageEntry) (ms : List MessageRow) → IsEntry names x r → AreEntries names es ms → AreEntries names (put message_entry_key x es) (put message_key r ms)
  put_entries x r es ms is are =
      subst (λ (i : ℕ). AreEntries names (insert message_entry_key x (without message_entry_key x.id es)) (insert message_key r (without message_key i ms))) (same_key names x r is)
      (insert_entries x r (without message_entry_key x.id es) (without message_key x.id ms) is (without_entries x.id es ms are))
