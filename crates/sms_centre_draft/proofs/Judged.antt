-- Whether there is room for a submission, judged by the rows before it comes, is whether it can be accepted.
use Rattle.std.proofs.Common.{◌≡◌, ◌⊎◌, ℕ, ◌+◌, ◌-◌, ◌*◌, ◌<◌, ◌≤◌, nat_le, nat_lt, List, [], ◌∷◌, length, Bool, true, false, Option, Some, None, refl, sym, ◌∙◌, ap, subst, inl, inr, ⊎_elim, cond, arith}
use Rattle.std.specs.Prelude.{not}
use Rattle.std.specs.Option.{option_and_then}
use Rattle.std.specs.Str.{bytes_eq}
use Rattle.std.proofs.lemmas.Bool.{and_cases, and_parts, cases_lt, cond-false, cond-true, le-leb, leb-true, not-false, not-true}
use Rattle.std.proofs.lemmas.Slice.Eq.{bytes_eq-Decides}
use Rattle.sms_base.specs.Among.{Among}
use Rattle.sms_base.specs.declared.originator.Originator.{Originator}
use Rattle.sms_base.specs.declared.originator.Originator.TheVariants.{Application, Handset}
use Rattle.sms_rows.specs.table.Keys.{pair_key}
use Rattle.sms_rows.specs.table.Table.{insert, put, row_at}
use Rattle.sms_rows.proofs.table.Tables.{insert_behind, insert_here, row_at_put, row_at_put_other}
use Rattle.sms_centre_rows.specs.declared.messages.message.MessageRow.{MessageRow}
use Rattle.sms_centre_rows.specs.declared.messages.part.PartRow.{PartRow}
use Rattle.sms_centre_rows.specs.declared.messages.priority.PriorityRow.{PriorityRow}
use Rattle.sms_centre_rows.specs.messages.Messages.{message_at, message_key, part_at}
use Rattle.sms_centre_rows.specs.messages.OpenParts.{part_wait}
use Rattle.sms_centre_rows.specs.declared.reports.report.ReportRow.{ReportRow}
use Rattle.sms_centre_rows.specs.reports.Receipts.{is_account}
use Rattle.sms_centre_rows.specs.reports.Reports.{report_of}
use Rattle.sms_centre_rows.proofs.reports.AllWaiting.{part_waits_at}
use Rattle.sms_centre_rows.proofs.reports.WaitingChanges.{cases_number}
use Rattle.sms_centre_rows.specs.declared.waiting.handset.HandsetRow.{HandsetRow}
use Rattle.sms_centre_rows.specs.declared.waiting.queued_part.QueuedPart.{QueuedPart}
use Rattle.sms_centre_queue.specs.queue.FreeReferences.{free_references}
use Rattle.sms_centre_rows.specs.waiting.Keys.{handset_key, queued_key}
use Rattle.sms_centre_rows.specs.waiting.References.{handset_at, handset_of, mentioned, next_reference, or_new_handset, place_after}
use Rattle.sms_centre_queue.proofs.queue.FreeCounted.{absent_same, given_fewer, none_free}
use Rattle.sms_centre_rows.proofs.waiting.Mentions.{put_number, row_fits}
use Rattle.sms_intake.specs.declared.submission.SinglePart.{SinglePart}
use Rattle.sms_intake.specs.declared.submission.Submission.{Submission}
use Rattle.sms_centre_spec.specs.Consistent.{IsConsistent, IsSubmission}
use Rattle.sms_centre_spec.specs.Draft.{Store, handsets_in, messages_in, parts_in, priorities_in, references_in, reports_in, waiting_in, with_given}
use Rattle.sms_centre_spec.specs.Held.{SoundHeld}
use Rattle.sms_centre_draft.specs.Room.{free_for, has_room, would_take_too_much}
use Rattle.sms_centre_spec.specs.Shares.{held_by, held_by_others, holds_too_much, is_of_account, takes_too_much, unless_too_much}
use Rattle.sms_centre_spec.specs.Submitting.{accept_under, enter, give_parts, message_of, part_given, put_part_of, reference_for}
use Rattle.sms_centre_spec.specs.Transfers.{is_open_part_at, is_open_status_at}
use Rattle.sms_centre_spec.proofs.AcceptedConsistent.{enter_consistent}
use Rattle.sms_centre_draft.specs.Submitting.{CanGive, IsNewId}
use Rattle.sms_centre_draft.proofs.DueNow.{waiting_open}
use Rattle.sms_centre_draft.proofs.Entering.{entered_can, given_can, given_consistent, given_waits, none_part, none_report}
use Rattle.sms_centre_draft.proofs.MovesWaiting.{entered_waits}

each_option : {X R : Type 0} (o : Option X) → (o ≡ None → R) → ((x : X) → o ≡ Some x → R) → R
each_option None none some = none refl
each_option (Some x) none some = some x refl

-- ---- what the account holds where one more of its parts waits

one_more : (b : Bool) (m : ℕ) → cond b (1 + (m + 1)) (m + 1) ≡ cond b (1 + m) m + 1
one_more true m = omega arith
one_more false m = refl

own_inserted : (account : List ℕ) (ms : List MessageRow) (l : QueuedPart) (ls : List QueuedPart) → is_of_account account (message_at l.id ms) ≡ true
    → held_by account ms (insert queued_key l ls) ≡ held_by account ms ls + 1
own_inserted account ms l [] is = cond-true (is_of_account account (message_at l.id ms)) 1 0 is
own_inserted account ms l (k ∷ ks) is = ⊎_elim
    (λ (low : queued_key l < queued_key k).
    let rest : ℕ = held_by account ms (k ∷ ks) in
    let one : 1 + rest ≡ rest + 1 = omega arith in
    ap (λ (r : List QueuedPart). held_by account ms r) (insert_here queued_key l k ks low) ∙ cond-true (is_of_account account (message_at l.id ms)) (1 + rest) rest is ∙ one)
    (λ (high : queued_key k ≤ queued_key l).
    let b : Bool = is_of_account account (message_at k.id ms) in
    ap (λ (r : List QueuedPart). held_by account ms r) (insert_behind queued_key l k ks high)
    ∙ ap (λ (m : ℕ). cond b (1 + m) m) (own_inserted account ms l ks is) ∙ one_more b (held_by account ms ks))
    (cases_lt (queued_key l) (queued_key k))

others_inserted : (account : List ℕ) (ms : List MessageRow) (l : QueuedPart) (ls : List QueuedPart) → is_of_account account (message_at l.id ms) ≡ true
    → held_by_others account ms (insert queued_key l ls) ≡ held_by_others account ms ls
others_inserted account ms l [] is = cond-true (is_of_account account (message_at l.id ms)) 0 1 is
others_inserted account ms l (k ∷ ks) is = ⊎_elim
    (λ (low : queued_key l < queued_key k).
    let rest : ℕ = held_by_others account ms (k ∷ ks) in
    ap (λ (r : List QueuedPart). held_by_others account ms r) (insert_here queued_key l k ks low) ∙ cond-true (is_of_account account (message_at l.id ms)) rest (1 + rest) is)
    (λ (high : queued_key k ≤ queued_key l).
    let b : Bool = is_of_account account (message_at k.id ms) in
    ap (λ (r : List QueuedPart). held_by_others account ms r) (insert_behind queued_key l k ks high)
    ∙ ap (λ (m : ℕ). cond b m (1 + m)) (others_inserted account ms l ks is))
    (cases_lt (queued_key l) (queued_key k))

-- ---- a message comes: what waits is of others

own_steady : (account : List ℕ) (m : MessageRow) (ms : List MessageRow) (ls : List QueuedPart) → ((l : QueuedPart) → Among l ls → ¬ (m.id ≡ l.id)) → held_by account (put message_key m ms) ls ≡ held_by account ms ls
own_steady account m ms [] other = refl
own_steady account m ms (l ∷ ls) other =
    let after : List MessageRow = put message_key m ms in
    ap (λ (o : Option MessageRow). cond (is_of_account account o) (1 + held_by account after ls) (held_by account after ls)) (row_at_put_other message_key l.id m ms (other l (inl refl)))
    ∙ ap (λ (k : ℕ). cond (is_of_account account (message_at l.id ms)) (1 + k) k) (own_steady account m ms ls (λ x among. other x (inr among)))

others_steady : (account : List ℕ) (m : MessageRow) (ms : List MessageRow) (ls : List QueuedPart) → ((l : QueuedPart) → Among l ls → ¬ (m.id ≡ l.id))
    → held_by_others account (put message_key m ms) ls ≡ held_by_others account ms ls
others_steady account m ms [] other = refl
others_steady account m ms (l ∷ ls) other =
    let after : List MessageRow = put message_key m ms in
    ap (λ (o : Option MessageRow). cond (is_of_account account o) (held_by_others account after ls) (1 + held_by_others account after ls)) (row_at_put_other message_key l.id m ms (other l (inl refl)))
    ∙ ap (λ (k : ℕ). cond (is_of_account account (message_at l.id ms)) k (1 + k)) (others_steady account m ms ls (λ x among. other x (inr among)))

queued_other : (id : ℕ) (number : List ℕ) (s : Store) (l : QueuedPart) → IsConsistent s → IsNewId id s → Among l (waiting_in number s) → ¬ (id ≡ l.id)
queued_other id number s l k below among e =
    let is = waiting_open number s l k.held among in
    ⊎_elim
    (λ (zero : l.number ≡ 0).
    let none : report_of l.id (reports_in s) ≡ None = ap (λ (i : ℕ). report_of i (reports_in s)) (sym e) ∙ none_report id s k below in
    let bad : false ≡ true = ap (λ (o : Option ReportRow). is_open_status_at o) (sym none) ∙ is.status zero in absurd cc)
    (λ (some : 0 < l.number).
    let none : part_at l.id l.number (parts_in s) ≡ None = ap (λ (i : ℕ). part_at i l.number (parts_in s)) (sym e) ∙ none_part id s k below l.number in
    let bad : false ≡ true = ap (λ (o : Option PartRow). is_open_part_at o s) (sym none) ∙ is.part some in absurd cc)
    (cases_number l.number)

-- ---- one part is given

abbrev queued_as : ℕ → Submission → ℕ → ℕ → QueuedPart
queued_as id u n reference = record { id = id; number = n; reference = reference; priority = u.priority; due = u.due }

abbrev after_one : ℕ → Submission → ℕ → SinglePart → ℕ → Store → Store
after_one id u n b reference s = put_part_of id u n b reference (with_given (handset_of u.handset (handsets_in s)) reference s)

next_is : (u : Submission) (s : Store) (o : Option ℕ) → SoundHeld s → reference_for (handset_of u.handset (handsets_in s)) s ≡ o
    → next_reference (handset_of u.handset (handsets_in s)) (waiting_in u.handset s) (references_in s) s.moment ≡ o
next_is u s o held e =
    let fits = row_fits u.handset (handsets_in s) (handset_at u.handset (handsets_in s)) held.allocations.handset_keys held.allocations.apart refl in
    ap (λ (n : List ℕ). next_reference (handset_of u.handset (handsets_in s)) (waiting_in n s) (references_in s) s.moment) (sym fits.1) ∙ e

handset_after : (number : List ℕ) (s : Store) (reference : ℕ) → SoundHeld s
    → handset_of number (put handset_key (mentioned (handset_of number (handsets_in s)) reference) (handsets_in s)) ≡ mentioned (handset_of number (handsets_in s)) reference
handset_after number s reference held =
    let hs : List HandsetRow = handsets_in s in
    let h : HandsetRow = handset_of number hs in
    let after : List HandsetRow = put handset_key (mentioned h reference) hs in
    let fits = row_fits number hs (handset_at number hs) held.allocations.handset_keys held.allocations.apart refl in
    let there : handset_at number after ≡ Some (mentioned h reference) =
    subst (λ (n : List ℕ). handset_at n after ≡ Some (mentioned h reference)) fits.1 (put_number (mentioned h reference) hs (record { place = fits.0.place; number = fits.0.number })) in
    ap (λ (o : Option HandsetRow). or_new_handset number (place_after 1 after) o) there

none_yet : (s : Store) (id : ℕ) (u : Submission) (n : ℕ) → SoundHeld s → CanGive id u n s → n ≤ 20 → row_at queued_key (pair_key id n) (waiting_in u.handset s) ≡ None
none_yet s id u n held can few =
    part_waits_at u.handset (messages_in s) (priorities_in s) (parts_in s) (reports_in s) id n held.parts can.first (omega (arith, few))
    ∙ ap (λ (o : Option PartRow). part_wait u.handset (messages_in s) (priorities_in s) o) (can.not_given n (omega arith) (omega (arith, few)))

one_given : (s : Store) (id : ℕ) (u : Submission) (n : ℕ) (b : SinglePart) (reference : ℕ) → IsConsistent s → CanGive id u n s → n ≤ 20
    → reference_for (handset_of u.handset (handsets_in s)) s ≡ Some reference → free_for u.handset s ≡ 1 + free_for u.handset (after_one id u n b reference s)
one_given s id u n b reference k can few next =
    let h : HandsetRow = handset_of u.handset (handsets_in s) in
    let l : QueuedPart = queued_as id u n reference in
    let e : Store = after_one id u n b reference s in
    let waits : waiting_in u.handset e ≡ put queued_key l (waiting_in u.handset s) = (given_waits s id u n b reference k.held can few).0 in
    given_fewer h (waiting_in u.handset s) (references_in s) s.moment l (next_is u s (Some reference) k.held next) (none_yet s id u n k.held can few)
    ∙ ap (λ (ls : List QueuedPart). 1 + free_references (mentioned h reference) ls (references_in e) s.moment) (sym waits)
    ∙ ap (λ (g : HandsetRow). 1 + free_references g (waiting_in u.handset e) (references_in e) s.moment) (sym (handset_after u.handset s reference k.held))

-- ---- its parts are given

-- so many parts of the message came, and no message
record Grown (id : ℕ) (u : Submission) (parts : ℕ) (s e : Store) : Type 0 where
  messages : messages_in e ≡ messages_in s
  own : (account : List ℕ) (ms : List MessageRow) → is_of_account account (message_at id ms) ≡ true
      → held_by account ms (waiting_in u.handset e) ≡ held_by account ms (waiting_in u.handset s) + parts
  others : (account : List ℕ) (ms : List MessageRow) → is_of_account account (message_at id ms) ≡ true
      → held_by_others account ms (waiting_in u.handset e) ≡ held_by_others account ms (waiting_in u.handset s)

grown_by : (s : Store) (id : ℕ) (u : Submission) (n : ℕ) (b : SinglePart) (reference parts : ℕ) (e : Store) → SoundHeld s → CanGive id u n s → n ≤ 20
    → Grown id u parts (after_one id u n b reference s) e → Grown id u (1 + parts) s e
grown_by s id u n b reference parts e held can few rest =
    let l : QueuedPart = queued_as id u n reference in
    let ws : List QueuedPart = waiting_in u.handset s in
    let waits : waiting_in u.handset (after_one id u n b reference s) ≡ put queued_key l ws = (given_waits s id u n b reference held can few).0 in
    let new : put queued_key l ws ≡ insert queued_key l ws = ap (λ (r : List QueuedPart). insert queued_key l r) (absent_same (queued_key l) ws (none_yet s id u n held can few)) in
    record {
      messages = rest.messages;
      own = λ account ms is.
          let first = ap (λ (r : List QueuedPart). held_by account ms r) (waits ∙ new) ∙ own_inserted account ms l ws is in
          let then = rest.own account ms is in
          omega (arith, first, then);
      others = λ account ms is.
          rest.others account ms is ∙ ap (λ (r : List QueuedPart). held_by_others account ms r) (waits ∙ new) ∙ others_inserted account ms l ws is;
    }

all_given : (id : ℕ) (u : Submission) (n : ℕ) (bs : List SinglePart) (s : Store) → IsConsistent s → CanGive id u n s → n + length bs ≤ 21 → length bs ≤ free_for u.handset s
    → (e : Store) × ((give_parts id u n bs s ≡ Some e) × Grown id u (length bs) s e)
all_given id u n [] s k can few enough = (s, (refl, record { messages = refl; own = λ account ms is. omega arith; others = λ account ms is. refl }))
all_given id u n (b ∷ bs) s k can few enough =
    let h : HandsetRow = handset_of u.handset (handsets_in s) in
    let some : n ≤ 20 = omega (arith, few) in
    each_option (reference_for h s)
    (λ (o : reference_for h s ≡ None).
    let none : free_for u.handset s ≡ 0 = none_free h (waiting_in u.handset s) (references_in s) s.moment (next_is u s None k.held o) in
    absurd (omega (arith, none, enough)))
    (λ (r : ℕ) (o : reference_for h s ≡ Some r).
    let x : Store = after_one id u n b r s in
    let fewer : free_for u.handset s ≡ 1 + free_for u.handset x = one_given s id u n b r k can some o in
    let rest = all_given id u (n + 1) bs x (given_consistent s id u n b r k can some o) (given_can s id u n b r can some) (omega (arith, few)) (omega (arith, enough, fewer)) in
    let one : 1 + length bs ≡ length (b ∷ bs) = omega arith in
    let grown : Grown id u (length (b ∷ bs)) s rest.0 = subst (λ (m : ℕ). Grown id u m s rest.0) one (grown_by s id u n b r (length bs) rest.0 k.held can some rest.1.1) in (
      rest.0,
      (
        ap (λ (g : Option ℕ). option_and_then (λ (y : Store). give_parts id u (n + 1) bs y) (part_given id u n b h g s)) o ∙ rest.1.0,
        grown,
      ),
    ))

-- fewer are free
none_given : (id : ℕ) (u : Submission) (n : ℕ) (bs : List SinglePart) (s : Store) → IsConsistent s → CanGive id u n s → n + length bs ≤ 21 → free_for u.handset s < length bs → give_parts id u n bs s ≡ None
none_given id u n [] s k can few less = absurd (omega (arith, less))
none_given id u n (b ∷ bs) s k can few less =
    let h : HandsetRow = handset_of u.handset (handsets_in s) in
    let some : n ≤ 20 = omega (arith, few) in
    each_option (reference_for h s)
    (λ (o : reference_for h s ≡ None). ap (λ (g : Option ℕ). option_and_then (λ (y : Store). give_parts id u (n + 1) bs y) (part_given id u n b h g s)) o)
    (λ (r : ℕ) (o : reference_for h s ≡ Some r).
    let x : Store = after_one id u n b r s in
    let fewer : free_for u.handset s ≡ 1 + free_for u.handset x = one_given s id u n b r k can some o in
    ap (λ (g : Option ℕ). option_and_then (λ (y : Store). give_parts id u (n + 1) bs y) (part_given id u n b h g s)) o
    ∙ none_given id u (n + 1) bs x (given_consistent s id u n b r k can some o) (given_can s id u n b r can some) (omega (arith, few)) (omega (arith, less, fewer)))

-- ---- the message comes, and its parts

module _ (s : Store) (id : ℕ) (split : Option ℕ) (u : Submission) (bs : List SinglePart) (consistent : IsConsistent s) (below : IsNewId id s) (is : IsSubmission u) (few : length bs ≤ 20) where
  entered_free : free_for u.handset (enter id split u s) ≡ free_for u.handset s
  entered_free =
      let q : PriorityRow = record { id = id; priority = u.priority } in
      ap (λ (ls : List QueuedPart). free_references (handset_of u.handset (handsets_in s)) ls (references_in s) s.moment)
      (entered_waits s (message_of id s.moment split u) q consistent.held refl (none_part id s consistent below) (none_report id s consistent below) u.handset)

  entered_consistent : IsConsistent (enter id split u s)
  entered_consistent = enter_consistent id split u s consistent below is.handset is.report_address

  -- too much is what was judged to be too much
  shares_as : (e : Store) (o : Originator) → u.originator ≡ o → Grown id u (length bs) (enter id split u s) e
      → takes_too_much o (messages_in e) (waiting_in u.handset e) ≡ would_take_too_much o (length bs) (messages_in s) (waiting_in u.handset s)
  shares_as e (Handset reference) from grown = refl
  shares_as e (Application account) from grown =
      let m : MessageRow = message_of id s.moment split u in
      let q : PriorityRow = record { id = id; priority = u.priority } in
      let x : Store = enter id split u s in
      let n : ℕ = length bs in
      let own : is_of_account account (message_at id (messages_in x)) ≡ true =
      ap (λ (o : Option MessageRow). is_of_account account o) (row_at_put message_key m (messages_in s)) ∙ ap (λ (o : Originator). is_account account o) from ∙ (bytes_eq-Decides account account).1 refl in
      let other : (l : QueuedPart) → Among l (waiting_in u.handset s) → ¬ (m.id ≡ l.id) = λ l among. queued_other id u.handset s l consistent below among in
      let waits : waiting_in u.handset x ≡ waiting_in u.handset s =
      entered_waits s m q consistent.held refl (none_part id s consistent below) (none_report id s consistent below) u.handset in
      let owns : held_by account (messages_in x) (waiting_in u.handset e) ≡ held_by account (messages_in s) (waiting_in u.handset s) + n =
      grown.own account (messages_in x) own
      ∙ ap (λ (ls : List QueuedPart). held_by account (messages_in x) ls + n) waits ∙ ap (λ (k : ℕ). k + n) (own_steady account m (messages_in s) (waiting_in u.handset s) other) in
      let others : held_by_others account (messages_in x) (waiting_in u.handset e) ≡ held_by_others account (messages_in s) (waiting_in u.handset s) =
      grown.others account (messages_in x) own
      ∙ ap (λ (ls : List QueuedPart). held_by_others account (messages_in x) ls) waits ∙ others_steady account m (messages_in s) (waiting_in u.handset s) other in
      ap (λ (ms : List MessageRow). holds_too_much account ms (waiting_in u.handset e)) grown.messages
      ∙ ap (λ (k : ℕ). nat_lt (256 - k) (2 * held_by account (messages_in x) (waiting_in u.handset e))) others
      ∙ ap (λ (k : ℕ). nat_lt (256 - held_by_others account (messages_in s) (waiting_in u.handset s)) (2 * k)) owns

  -- as many are free as it has parts
  enough_for : length bs ≤ free_for u.handset s
      → (e : Store) × ((accept_under id split bs u s ≡ Some e) × (takes_too_much u.originator (messages_in e) (waiting_in u.handset e)
      ≡ would_take_too_much u.originator (length bs) (messages_in s) (waiting_in u.handset s)))
  enough_for enough =
      let same = entered_free in
      let g = all_given id u 1 bs (enter id split u s) entered_consistent (entered_can s id split u consistent below) (omega (arith, few)) (omega (arith, enough, same)) in
      (g.0, (g.1.0, shares_as g.0 u.originator refl g.1.1))

  pub room_for : has_room u (length bs) s ≡ true → (e : Store) × ((accept_under id split bs u s ≡ Some e) × (unless_too_much u (Some e) ≡ Some e))
  room_for room =
      let too : Bool = would_take_too_much u.originator (length bs) (messages_in s) (waiting_in u.handset s) in
      let p = and_parts (nat_le (length bs) (free_for u.handset s)) (not too) room in
      let g = enough_for (leb-true (length bs) (free_for u.handset s) p.0) in
      (g.0, (g.1.0, cond-false (takes_too_much u.originator (messages_in g.0) (waiting_in u.handset g.0)) None (Some g.0) (g.1.1 ∙ not-true too p.1)))

  pub no_room_for : has_room u (length bs) s ≡ false → unless_too_much u (accept_under id split bs u s) ≡ None
  no_room_for none =
      let too : Bool = would_take_too_much u.originator (length bs) (messages_in s) (waiting_in u.handset s) in
      ⊎_elim
      (λ (less : free_for u.handset s < length bs).
      let same = entered_free in
      ap (λ (o : Option Store). unless_too_much u o)
      (none_given id u 1 bs (enter id split u s) entered_consistent (entered_can s id split u consistent below) (omega (arith, few)) (omega (arith, less, same))))
      (λ (enough : length bs ≤ free_for u.handset s).
      let g = enough_for enough in
      let is_too : too ≡ true = ⊎_elim
      (λ (l : nat_le (length bs) (free_for u.handset s) ≡ false).
      let bad : true ≡ false = sym (le-leb (length bs) (free_for u.handset s) enough) ∙ l in absurd cc)
      (λ (r : not too ≡ false). not-false too r)
      (and_cases (nat_le (length bs) (free_for u.handset s)) (not too) none) in
      ap (λ (o : Option Store). unless_too_much u o) g.1.0
      ∙ cond-true (takes_too_much u.originator (messages_in g.0) (waiting_in u.handset g.0)) None (Some g.0) (g.1.1 ∙ is_too))
      (cases_lt (free_for u.handset s) (length bs))
