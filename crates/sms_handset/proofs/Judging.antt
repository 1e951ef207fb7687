-- Acts of the owner that are not refused.
use Rattle.std.proofs.Common.{◌≡◌, ℕ, false, Option, Some, Result, Ok, Err, ◌∙◌, ap, ⊎_elim, List, None, sym, eq-eqb, length, cond, refl, ◌<◌, ◌≤◌, true, true≢false, is_some, option_copied, Bor}
use Rattle.std.proofs.lemmas.Bool.{cond-false, cases_eq, cond-true, ne_eqb, lt-ltb, le-ltb}
use Rattle.std.specs.Prelude.{◌==◌, nat_lt}
use Rattle.sms_rows.specs.table.Table.{row_at}
use Rattle.sms_handset_rows.specs.declared.inbox.entry.Entry.{Entry}
use Rattle.sms_handset_rows.specs.inbox.Groups.{is_open_part, first_number, members}
use Rattle.sms_handset_rows.specs.declared.inbox.entry.Group.{Group}
use Rattle.sms_handset_rows.specs.declared.inbox.open_group.OpenGroup.{OpenGroup}
use Rattle.sms_handset_rows.specs.inbox.OpenGroups.{open_first, open_group, open_under, open_of, open_at}
use Rattle.sms_handset_rows.specs.declared.inbox.entry.Message.{Message}
use Rattle.sms_handset_rows.specs.declared.inbox.entry.Message.TheVariants.{Single, Part, Joined}
use Rattle.sms_handset_rows.specs.inbox.Keys.{entry_key}
use Rattle.sms_handset_rows.specs.declared.outbox.out_entry.OutEntry.{OutEntry}
use Rattle.sms_handset_rows.specs.outbox.References.{is_unfinished}
use Rattle.sms_handset.specs.declared.refusal.Refusal.{Refusal}
use Rattle.sms_handset.specs.declared.refusal.Refusal.TheVariants.{StillOpen, TooManyDiscarded, NoEntry}
use Rattle.sms_handset_draft.specs.Draft.{Draft, remove_out, remove_entry}
use Rattle.sms_handset.specs.OwnersActs.{delete_out, delete_in, discard_group, discard_in, discard_at, discard}
use Rattle.sms_handset_draft.specs.MemoryAvailable.{freed}

pub deletes_out : (n : ℕ) (found : Option OutEntry) (o : OutEntry) (d : Draft) → found ≡ Some o → is_unfinished o.state ≡ false → (e : Draft) × (delete_out n found d ≡ Ok e)
deletes_out n found o d e f =
    let x : Result Draft Refusal = Err StillOpen in
    let y : Result Draft Refusal = Ok (remove_out n d) in
    (remove_out n d, ap (λ (q : Option OutEntry). delete_out n q d) e ∙ cond-false (is_unfinished o.state) x y f)

pub deletes_in : (n : ℕ) (found : Option Entry) (entry : Entry) (d : Draft) → found ≡ Some entry → is_open_part entry.message ≡ false → (e : Draft) × (delete_in n found d ≡ Ok e)
deletes_in n found entry d e f =
    let x : Result Draft Refusal = Err StillOpen in
    let y : Result Draft Refusal = Ok (freed (remove_entry n d)) in
    (freed (remove_entry n d), ap (λ (q : Option Entry). delete_in n q d) e ∙ cond-false (is_open_part entry.message) x y f)

-- ---- discarding by the index

by_first : (n : ℕ) (g : Group) (o : OpenGroup) (es : List Entry) (d : Draft) → open_first n g es ≡ Some o → (o.group ≡ g) × (first_number es ≡ n)
by_first n g o es d s = ⊎_elim
    (λ (e : first_number es ≡ n).
    let both : Some (open_group g es) ≡ Some o = sym (cond-true (first_number es == n) (Some (open_group g es)) None (eq-eqb (first_number es) n e)) ∙ s in
    let is : open_group g es ≡ o = cc in
    (ap (λ (z : OpenGroup). z.group) (sym is), e))
    (λ (e : first_number es ≡ n → ⊥).
    let bad : None ≡ Some o = sym (cond-false (first_number es == n) (Some (open_group g es)) None (ne_eqb (first_number es) n e)) ∙ s in absurd cc)
    (cases_eq (first_number es) n)

-- what is done of the group that stands under the number
abbrev pub discards_group : ℕ → OpenGroup → Draft → Result Draft Refusal
discards_group n o d =
    cond (nat_lt (length d.rows.marks) 64) (Ok (discard_group n o.group (members o.group d.rows.entries) d)) (Err TooManyDiscarded)

in_open : (n : ℕ) (m : Message) (o : OpenGroup) (d : Draft) → open_under n m d.rows.entries ≡ Some o → discard_in n m d ≡ discards_group n o d
in_open n (Single tpdu) o d s = absurd cc
in_open n (Part g k tpdu) o d s =
    let es = members g d.rows.entries in
    let b = by_first n g o es d s in
    let x : Result Draft Refusal = Err NoEntry in
    let y : Result Draft Refusal = cond (nat_lt (length d.rows.marks) 64) (Ok (discard_group n g es d)) (Err TooManyDiscarded) in
    cond-true (first_number es == n) y x (eq-eqb (first_number es) n b.1)
    ∙ ap (λ (h : Group). let z : Result Draft Refusal = cond (nat_lt (length d.rows.marks) 64) (Ok (discard_group n h (members h d.rows.entries) d)) (Err TooManyDiscarded) in z) (sym b.0)
in_open n (Joined source content) o d s = absurd cc

at_open : (n : ℕ) (r : Option Entry) (o : OpenGroup) (d : Draft) → open_of n r d.rows.entries ≡ Some o → discard_at n r d ≡ discards_group n o d
at_open n None o d s = absurd cc
at_open n (Some e) o d s = in_open n e.message o d s

-- an open group that stands under the number
pub discards_open : (n : ℕ) (o : OpenGroup) (d : Draft) → open_at n d.rows.entries ≡ Some o → discard n d ≡ discards_group n o d
discards_open n o d s = at_open n (row_at entry_key n d.rows.entries) o d s

in_none : (n : ℕ) (m : Message) (d : Draft) → open_under n m d.rows.entries ≡ None → discard_in n m d ≡ Err NoEntry
in_none n (Single tpdu) d s = refl
in_none n (Part g k tpdu) d s =
    let es = members g d.rows.entries in
    let x : Result Draft Refusal = Err NoEntry in
    let y : Result Draft Refusal = cond (nat_lt (length d.rows.marks) 64) (Ok (discard_group n g es d)) (Err TooManyDiscarded) in
    ⊎_elim
    (λ (e : first_number es ≡ n).
    let bad : Some (open_group g es) ≡ None = sym (cond-true (first_number es == n) (Some (open_group g es)) None (eq-eqb (first_number es) n e)) ∙ s in absurd cc)
    (λ (e : first_number es ≡ n → ⊥). cond-false (first_number es == n) y x (ne_eqb (first_number es) n e))
    (cases_eq (first_number es) n)
in_none n (Joined source content) d s = refl

at_none : (n : ℕ) (r : Option Entry) (d : Draft) → open_of n r d.rows.entries ≡ None → discard_at n r d ≡ Err NoEntry
at_none n None d s = refl
at_none n (Some e) d s = in_none n e.message d s

-- and none
pub discards_none : (n : ℕ) (d : Draft) → open_at n d.rows.entries ≡ None → discard n d ≡ Err NoEntry
discards_none n d s = at_none n (row_at entry_key n d.rows.entries) d s

pub discards_one_more : (n : ℕ) (o : OpenGroup) (d : Draft) → open_at n d.rows.entries ≡ Some o → length d.rows.marks < 64
    → discard n d ≡ Ok (discard_group n o.group (members o.group d.rows.entries) d)
discards_one_more n o d s l =
    let x : Result Draft Refusal = Err TooManyDiscarded in
    let y : Result Draft Refusal = Ok (discard_group n o.group (members o.group d.rows.entries) d) in
    discards_open n o d s ∙ cond-true (nat_lt (length d.rows.marks) 64) y x (lt-ltb (length d.rows.marks) 64 l)

pub discards_too_many : (n : ℕ) (o : OpenGroup) (d : Draft) → open_at n d.rows.entries ≡ Some o → 64 ≤ length d.rows.marks → discard n d ≡ Err TooManyDiscarded
discards_too_many n o d s l =
    let x : Result Draft Refusal = Err TooManyDiscarded in
    let y : Result Draft Refusal = Ok (discard_group n o.group (members o.group d.rows.entries) d) in
    discards_open n o d s ∙ cond-false (nat_lt (length d.rows.marks) 64) y x (le-ltb (length d.rows.marks) 64 l)

-- the same, where it is only known that one stands there
pub discards_some : (n : ℕ) (r : Option OpenGroup) (d : Draft) → open_at n d.rows.entries ≡ r → is_some r ≡ true → length d.rows.marks < 64 → (e : Draft) × (discard n d ≡ Ok e)
discards_some n None d s i l = absurd (true≢false (sym i))
discards_some n (Some o) d s i l = (discard_group n o.group (members o.group d.rows.entries) d, discards_one_more n o d s l)

pub discards_none_more : (n : ℕ) (r : Option OpenGroup) (d : Draft) → open_at n d.rows.entries ≡ r → is_some r ≡ true → 64 ≤ length d.rows.marks → discard n d ≡ Err TooManyDiscarded
discards_none_more n None d s i l = absurd (true≢false (sym i))
discards_none_more n (Some o) d s i l = discards_too_many n o d s l

pub discards_nothing : (n : ℕ) (r : Option OpenGroup) (d : Draft) → open_at n d.rows.entries ≡ r → is_some r ≡ false → discard n d ≡ Err NoEntry
discards_nothing n None d s i = discards_none n d s
discards_nothing n (Some o) d s i = absurd (true≢false i)

pub copied_some : {A : Type 0} (r : Option (Bor A)) → is_some (option_copied r) ≡ is_some r
copied_some None = refl
copied_some (Some x) = refl
