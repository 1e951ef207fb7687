-- The reference that comes next at a handset is one that the world may give there, and the rows keep that it was given; where none
-- is free, the world may give none.
use Rattle.std.proofs.Common.{◌≡◌, ◌⊎◌, ℕ, zero, suc, ◌+◌, ◌-◌, ◌%◌, ◌<◌, ◌≤◌, arith, List, Bool, true, false, refl, sym, ◌∙◌, ap, subst, ⊎_elim, Option, Some, None, inl, inr, [], ◌∷◌}
use Rattle.std.specs.Prelude.{◌==◌, ◌&&◌, not, is_none}
use Rattle.std.specs.Option.{option_map}
use Rattle.std.specs.Str.{bytes_eq}
use Rattle.std.proofs.lemmas.Bool.{cases_Bool, cond-true, eqb-true, leb-false, leb-true, or_cases}
use Rattle.std.proofs.lemmas.Slice.Eq.{bytes_eq-Decides}
use Rattle.sms_base.proofs.OctetLaws.{cases_octets}
use Rattle.sms_base.specs.Among.{Among}
use Rattle.sms_base.specs.declared.final_state.FinalState.{FinalState}
use Rattle.sms_base.specs.declared.holder.Holder.{Holder}
use Rattle.sms_base.specs.declared.holder.Holder.TheVariants.{Part, Report, Entry, Memory}
use Rattle.sms_centre_rows.specs.messages.Messages.{is_pending, message_at, message_key, part_at, part_key}
use Rattle.sms_centre_rows.specs.messages.OpenParts.{part_queued, part_wait, waits_for}
use Rattle.sms_centre_rows.specs.declared.messages.message.MessageRow.{MessageRow}
use Rattle.sms_centre_rows.specs.declared.messages.part.PartRow.{PartRow}
use Rattle.sms_centre_rows.proofs.reports.AllWaiting.{part_waits_at, report_found, report_waits_at}
use Rattle.sms_centre_rows.specs.reports.Reports.{is_open_status, is_status, report_of, status_reference}
use Rattle.sms_centre_rows.specs.reports.Waiting.{report_queued, report_wait, reports_to}
use Rattle.sms_centre_rows.specs.declared.reports.report.ReportKind.{ReportKind}
use Rattle.sms_centre_rows.specs.declared.reports.report.ReportKind.TheVariants.{Status}
use Rattle.sms_centre_rows.specs.declared.reports.report.ReportRow.{ReportRow}
use Rattle.sms_rows.specs.table.Keys.{pair_key}
use Rattle.sms_rows.specs.table.Table.{put, row_at}
use Rattle.sms_rows.proofs.table.Tables.{found_among, found_key, row_at_put, row_at_put_other}
use Rattle.sms_tpdu.specs.MoreMessages.{compared}
use Rattle.sms_centre_rows.proofs.waiting.Mentions.{Fits, below_next_place, number_found, put_number, put_number_other, row_fits}
use Rattle.sms_centre_rows.proofs.waiting.Passing.{passing_later, passing_there}
use Rattle.sms_centre_rows.proofs.waiting.WaitingSound.{next_is_free, none_holds, not_held}
use Rattle.sms_centre_rows.specs.waiting.Keys.{handset_key, queued_key, reference_key}
use Rattle.sms_centre_rows.specs.waiting.References.{first_passing, following, given_row, handset_at, handset_of, is_free, is_held, is_late, mentioned, or_new_handset, place_after}
use Rattle.sms_centre_rows.specs.declared.waiting.handset.HandsetRow.{HandsetRow}
use Rattle.sms_centre_rows.specs.declared.waiting.queued_part.QueuedPart.{QueuedPart}
use Rattle.sms_centre_rows.specs.declared.waiting.reference.ReferenceRow.{ReferenceRow}
use Rattle.sms_centre_spec.proofs.SoundStores.{SoundStore}
use Rattle.sms_centre_spec.specs.Draft.{Store, handsets_in, messages_in, parts_in, priorities_in, references_in, reports_in, waiting_in}
use Rattle.sms_centre_spec.specs.Held.{SoundHeld}
use Rattle.sms_centre_spec.specs.Offering.{holder_of, tpdu_of}
use Rattle.sms_centre_spec.specs.Submitting.{reference_for}
use Rattle.sms_world_model.proofs.Allocations.{may_give}
use Rattle.sms_world_model.specs.LastAllocations.{IsLastAllocation, RefinesAllocations, WasEarlier}
use Rattle.sms_world_model.specs.References.{CanGive, IsEarlier, IsFree}
use Rattle.sms_world_model.specs.Submission.{Submission}
use Rattle.sms_world_model.specs.World.{Final, Allocation, IsHeld, IsUnanswered, Message, Pending, IsRecorded, State, World, find}
use Rattle.sms_world.proofs.centres_refine_the_world.ByOctets.{by_octet_is, by_octet_same, by_octet_some}
use Rattle.sms_world.proofs.centres_refine_the_world.QueuedParts.{queued_offered}
use Rattle.sms_world.specs.centres_refine_the_world.CentreRefinement.{StoreRefines}
use Rattle.sms_world.specs.centres_refine_the_world.RefinesGiven.{RefinesHolders, second_at, seconds_by}
use Rattle.sms_world.specs.headline.SeenWorld.{IsStateOf, PartSeen, messages_by, part_seen, parts_by}
use Rattle.sms_world.specs.centres_refine_the_world.RefinesReports.{ReportSeen, RefinesReports, report_seen, reports_by}

-- ---- rows behind what is seen

pub seen_part : (o : Option PartRow) (p : PartSeen) → part_seen o ≡ Some p → (q : PartRow) × ((o ≡ Some q) × (p ≡ record { reference = q.reference; tpdu = compared q.tpdu; is_done = q.progress.is_done }))
seen_part None p e = absurd cc
seen_part (Some q) p e = (q, (refl, cc))

pub seen_report : (o : Option ReportRow) (r : ReportSeen) → report_seen o ≡ Some r → (q : ReportRow) × ((o ≡ Some q) × (r ≡ record { kind = q.kind; is_done = q.progress.is_done }))
seen_report None r e = absurd cc
seen_report (Some q) r e = (q, (refl, cc))

-- which messages are pending, and which of their parts are done
abbrev pub RefinesStates : (ℕ → Option MessageRow) → (ℕ → ℕ → Option PartSeen) → List Message → Type 0
RefinesStates messages parts table =
    (id : ℕ) (m : MessageRow) → messages id ≡ Some m → (u : Submission) × (st : State) × (IsRecorded table m.id u st × IsStateOf m.state (parts id) st)

pub one_state : (table : List Message) (id k : ℕ) (u v : Submission) (a b : State) → IsRecorded table id u a → IsRecorded table k v b → k ≡ id → (u ≡ v) × (a ≡ b)
one_state table id k u v a b x y e =
    let p : Message = record { submission = u; state = a } in
    let q : Message = record { submission = v; state = b } in
    let z : Some p ≡ Some q = sym x ∙ ap (λ (j : ℕ). find j table) (sym e) ∙ y in
    let same : p ≡ q = cc in
    (ap (λ (c : Message). c.submission) same, ap (λ (c : Message). c.state) same)

-- a part that is unanswered is one of a pending message, and not done
pub pending_part : (s : Store) (w : World) → RefinesStates (messages_by (messages_in s)) (parts_by (parts_in s)) w.table → (m : MessageRow) (id n : ℕ) (p : PartSeen) → message_at id (messages_in s) ≡ Some m
    → parts_by (parts_in s) id n ≡ Some p → IsUnanswered w.table w.reports (Part id n) → (is_pending m ≡ true) × (p.is_done ≡ false)
pending_part s w states m id n p there at (u, done, (stands, undone)) =
    let x = states id m there in
    let same = one_state w.table id m.id u x.0 (Pending done) x.1 stands x.2.0 (found_key message_key id m (messages_in s) there) in
    by m.state refl x.1 (sym same.1) x.2.1
  where
    by : (o : Option FinalState) → m.state ≡ o → (st : State) → st ≡ Pending done → IsStateOf o (parts_by (parts_in s) id) st → (is_pending m ≡ true) × (p.is_done ≡ false)
    by (Some f) e st q is = let bad : Pending done ≡ Final f = sym q ∙ is in absurd cc
    by None e st q is =
        let lists : Pending is.0 ≡ Pending done = sym is.1.0 ∙ q in
        let list : is.0 ≡ done = cc in (
          ap (λ (o : Option FinalState). is_none o) e,
          ⊎_elim
              (λ (t : p.is_done ≡ true). absurd (undone (subst (λ (d : List ℕ). Among n d) list ((is.1.1 n p at).0 t))))
              (λ (t : p.is_done ≡ false). t)
              (cases_Bool p.is_done),
        )

module _ (s : Store) (w : World) (held : SoundHeld s) (holders : RefinesHolders (messages_by (messages_in s)) (parts_by (parts_in s)) (reports_by (reports_in s)) w.down)
    (states : RefinesStates (messages_by (messages_in s)) (parts_by (parts_in s)) w.table) (reports : RefinesReports (reports_by (reports_in s)) w.receipts w.reports) where
  -- ---- what holds a reference in the world waits in the rows

  part_held : (a : List ℕ) (g : Allocation) (id n : ℕ) → Among g w.down → g.holder ≡ Part id n → IsUnanswered w.table w.reports (Part id n) → g.handset ≡ a
      → (l : QueuedPart) × (Among l (waiting_in a s) × (l.reference ≡ g.reference))
  part_held a g id n i e unanswered to =
      let x = holders.of_part g id n i e in
      let m : MessageRow = x.0 in
      let p : PartSeen = x.1 in
      let at = by_octet_some n (part_seen (part_at id n (parts_in s))) p x.2.1 in
      let q = seen_part (part_at id n (parts_in s)) p at.1 in
      let row : PartRow = q.0 in
      let among : Among row (parts_in s) = found_among part_key (pair_key id n) row (parts_in s) q.1.0 in
      let key : pair_key row.id row.number ≡ pair_key id n = found_key part_key (pair_key id n) row (parts_in s) q.1.0 in
      let bounds = held.parts.numbers row among in
      let small : n < 256 = at.0 in
      let first : 0 < row.number = bounds.0 in
      let few : row.number < 256 = bounds.1 in
      let id_is : row.id ≡ id = omega (arith, key, small, few) in
      let number : 0 < n = omega (arith, key, small, few, first) in
      let pending = pending_part s w states m id n p x.2.0 x.2.1 unanswered in
      let there : message_at row.id (messages_in s) ≡ Some m = ap (λ (k : ℕ). message_at k (messages_in s)) id_is ∙ x.2.0 in
      let undone : row.progress.is_done ≡ false = ap (λ (y : PartSeen). y.is_done) (sym q.1.1) ∙ pending.1 in
      let handset : m.handset ≡ a = sym (ap (λ (y : Allocation). y.handset) x.2.2) ∙ to in
      let waits : waits_for a row (message_at row.id (messages_in s)) ≡ true =
      ap (λ (y : Option MessageRow). waits_for a row y) there
      ∙ ap (λ (b : Bool). not b && (is_pending m && bytes_eq m.handset a)) undone
      ∙ ap (λ (b : Bool). b && bytes_eq m.handset a) pending.0
      ∙ (bytes_eq-Decides m.handset a).1 handset in
      let l : QueuedPart = part_queued row (priorities_in s) in
      let found : row_at queued_key (pair_key id n) (waiting_in a s) ≡ Some l =
      part_waits_at a (messages_in s) (priorities_in s) (parts_in s) (reports_in s) id n held.parts number small
      ∙ ap (λ (y : Option PartRow). part_wait a (messages_in s) (priorities_in s) y) q.1.0
      ∙ cond-true (waits_for a row (message_at row.id (messages_in s))) (Some l) None waits in
      (l, (found_among queued_key (pair_key id n) l (waiting_in a s) found, ap (λ (y : PartSeen). y.reference) (sym q.1.1) ∙ ap (λ (y : Allocation). y.reference) (sym x.2.2)))

  report_held : (a : List ℕ) (g : Allocation) (id : ℕ) → Among g w.down → g.holder ≡ Report id → Among id w.reports → g.handset ≡ a → (l : QueuedPart) × (Among l (waiting_in a s) × (l.reference ≡ g.reference))
  report_held a g id i e unanswered to =
      let x = holders.of_report g id i e in
      let m : MessageRow = x.0 in
      let open_one = reports.opened id unanswered in
      let q = seen_report (report_of id (reports_in s)) x.1 x.4.1 in
      let row : ReportRow = q.0 in
      let both : Some open_one.0 ≡ Some x.1 = sym open_one.1.0 ∙ x.4.1 in
      let same : open_one.0 ≡ x.1 = cc in
      let kind : row.kind ≡ Status x.2 x.3 = ap (λ (y : ReportSeen). y.kind) (sym q.1.1) ∙ x.4.2 in
      let undone : row.progress.is_done ≡ false = ap (λ (y : ReportSeen). y.is_done) (sym q.1.1) ∙ ap (λ (y : ReportSeen). y.is_done) (sym same) ∙ open_one.1.2 in
      let going : is_open_status row ≡ true = ap (λ (k : ReportKind). is_status k && not row.progress.is_done) kind ∙ ap (λ (b : Bool). not b) undone in
      let id_is : row.id ≡ id = (report_found id row (reports_in s) q.1.0).1 in
      let there : message_at row.id (messages_in s) ≡ Some m = ap (λ (k : ℕ). message_at k (messages_in s)) id_is ∙ x.4.0 in
      let handset : m.source.digits ≡ a = sym (ap (λ (y : Allocation). y.handset) x.4.3) ∙ to in
      let waits : reports_to a row (message_at row.id (messages_in s)) ≡ true =
      ap (λ (y : Option MessageRow). reports_to a row y) there ∙ ap (λ (b : Bool). b && bytes_eq m.source.digits a) going ∙ (bytes_eq-Decides m.source.digits a).1 handset in
      let l : QueuedPart = report_queued row in
      let found : row_at queued_key (pair_key id 0) (waiting_in a s) ≡ Some l =
      report_waits_at a (messages_in s) (priorities_in s) (parts_in s) (reports_in s) id held.parts held.alone
      ∙ ap (λ (y : Option ReportRow). report_wait a (messages_in s) y) q.1.0
      ∙ cond-true (reports_to a row (message_at row.id (messages_in s))) (Some l) None waits in
      (l, (found_among queued_key (pair_key id 0) l (waiting_in a s) found, ap status_reference kind ∙ ap (λ (y : Allocation). y.reference) (sym x.4.3)))

  held_waits : (a : List ℕ) (g : Allocation) → IsHeld w g → g.handset ≡ a → (l : QueuedPart) × (Among l (waiting_in a s) × (l.reference ≡ g.reference))
  held_waits a g (given, unanswered) to = by g.holder refl unanswered
    where
      by : (h : Holder) → g.holder ≡ h → IsUnanswered w.table w.reports h → (l : QueuedPart) × (Among l (waiting_in a s) × (l.reference ≡ g.reference))
      by (Part id n) e u = part_held a g id n given e u to
      by (Report id) e u = report_held a g id given e u to
      by (Entry n) e u = absurd u
      by (Memory n) e u = absurd u

  free_in_world : (a : List ℕ) (r : ℕ) → is_held r (waiting_in a s) ≡ false → IsFree w a r
  free_in_world a r unheld g is to same =
      let l = held_waits a g is to in none_holds r (waiting_in a s) l.0 unheld l.1.0 (l.1.1 ∙ same)

  -- ---- the next reference may be given

  not_late : (now : ℕ) (o : Option ReferenceRow) → is_late now o ≡ false → WasEarlier (option_map (λ (r : ReferenceRow). r.last) o) now
  not_late now None e = tt
  not_late now (Some x) e = leb-false now x.last e

  was_earlier : (number : List ℕ) (r place now : ℕ) (o : Option HandsetRow) → is_late now (row_at reference_key (pair_key (or_new_handset number place o).place r) (references_in s)) ≡ false
      → WasEarlier (second_at o r (references_in s)) now
  was_earlier number r place now None e = tt
  was_earlier number r place now (Some h) e = not_late now (row_at reference_key (pair_key h.place r) (references_in s)) e

  pub can_give : (number : List ℕ) (r : ℕ) → RefinesAllocations (seconds_by (handsets_in s) (references_in s)) w.down s.moment → reference_for (handset_of number (handsets_in s)) s ≡ Some r → CanGive w number r s.moment
  can_give number r seconds next =
      let hs : List HandsetRow = handsets_in s in
      let h : HandsetRow = handset_of number hs in
      let free = next_is_free h (waiting_in h.number s) (references_in s) s.moment r next in
      let own : h.number ≡ number = (row_fits number hs (handset_at number hs) held.allocations.handset_keys held.allocations.apart refl).1 in
      let unheld : is_held r (waiting_in number s) ≡ false =
      ap (λ (n : List ℕ). is_held r (waiting_in n s)) (sym own) ∙ not_held h (waiting_in h.number s) (references_in s) s.moment r free.0 in
      let late : is_late s.moment (row_at reference_key (pair_key h.place r) (references_in s)) ≡ false =
      second_false (is_held r (waiting_in h.number s)) (is_late s.moment (row_at reference_key (pair_key h.place r) (references_in s))) free.0 in
      let earlier : WasEarlier (second_at (handset_at number hs) r (references_in s)) s.moment = was_earlier number r (place_after 1 hs) s.moment (handset_at number hs) late in (
        free.1,
        free_in_world number r unheld,
        may_give (seconds_by hs (references_in s)) w.down s.moment number r seconds
            (subst (λ (o : Option ℕ). WasEarlier o s.moment) (sym (by_octet_is r (second_at (handset_at number hs) r (references_in s)) free.1)) earlier),
      )
    where
      second_false : (a b : Bool) → (not a && not b) ≡ true → b ≡ false
      second_false true b e = absurd cc
      second_false false true e = absurd cc
      second_false false false e = refl

-- ---- where none is free

-- each of 256 is tried
reaches : (passes : ℕ → Bool) (turns k n : ℕ) → k < turns → n < 256 → passes ((n + k) % 256) ≡ true → first_passing passes turns n ≡ None → ⊥
reaches passes zero k n few small passed none = absurd (let l : ⊥ = omega (arith, few) in l)
reaches passes (suc turns) zero n few small passed none =
    let same : (n + 0) % 256 ≡ n = omega (arith, small) in
    let here : passes n ≡ true = ap passes (sym same) ∙ passed in
    let bad : Some n ≡ None = sym (passing_there passes (suc turns) n (omega arith) here) ∙ none in
    absurd cc
reaches passes (suc turns) (suc j) n few small passed none = ⊎_elim
    (λ (t : passes n ≡ true). let bad : Some n ≡ None = sym (passing_there passes (suc turns) n (omega arith) t) ∙ none in absurd cc)
    (λ (t : passes n ≡ false).
    let next : following n < 256 = omega arith in
    let back : suc turns - 1 ≡ turns = omega arith in
    let same : (following n + j) % 256 ≡ (n + suc j) % 256 = omega arith in
    reaches passes turns j (following n) (omega (arith, few)) next (ap passes same ∙ passed) (ap (λ (k : ℕ). first_passing passes k (following n)) (sym back) ∙ sym (passing_later passes (suc turns) n (omega arith) t) ∙ none))
    (cases_Bool (passes n))

none_passes : (passes : ℕ → Bool) (n r : ℕ) → n < 256 → r < 256 → first_passing passes 256 n ≡ None → passes r ≡ false
none_passes passes n r small few none = ⊎_elim
    (λ (t : passes r ≡ true).
    let k : ℕ = (r + (256 - n)) % 256 in
    let below : k < 256 = omega arith in
    let same : (n + k) % 256 ≡ r = omega (arith, small, few) in
    absurd (reaches passes 256 k n below small (ap passes same ∙ t) none))
    (λ (t : passes r ≡ false). t)
    (cases_Bool (passes r))

held_queued : (r : ℕ) (ls : List QueuedPart) → is_held r ls ≡ true → (l : QueuedPart) × (Among l ls × (l.reference ≡ r))
held_queued r [] e = absurd cc
held_queued r (l ∷ ls) e = ⊎_elim
    (λ (t : (l.reference == r) ≡ true). (l, (inl refl, eqb-true l.reference r t)))
    (λ (t : is_held r ls ≡ true). let x = held_queued r ls t in (x.0, (inr x.1.0, x.1.1)))
    (or_cases (l.reference == r) (is_held r ls) e)

earlier_all : (gs : List Allocation) (a : List ℕ) (r now : ℕ) (g : Allocation) → IsEarlier gs a r now → Among g gs → g.handset ≡ a → g.reference ≡ r → g.moment < now
earlier_all [] a r now g is i to same = absurd i
earlier_all (x ∷ xs) a r now g is i to same = ⊎_elim
    (λ (e : g ≡ x).
    let l : x.moment < now = is.0 (ap (λ (y : Allocation). y.handset) (sym e) ∙ to) (ap (λ (y : Allocation). y.reference) (sym e) ∙ same) in
    subst (λ (y : Allocation). y.moment < now) (sym e) l)
    (λ (j : Among g xs). earlier_all xs a r now g is.1 j to same)
    i

-- no reference stands at a place that no handset has
pub never_given : (s : Store) → SoundHeld s → (q : ℕ) (x : ReferenceRow) → row_at reference_key (pair_key (place_after 1 (handsets_in s)) q) (references_in s) ≡ Some x → ⊥
never_given s held q x e =
    let place : ℕ = place_after 1 (handsets_in s) in
    let is = held.allocations.given x (found_among reference_key (pair_key place q) x (references_in s) e) in
    let key : pair_key x.place x.reference ≡ pair_key place q = found_key reference_key (pair_key place q) x (references_in s) e in
    let h : HandsetRow = is.handset.0 in
    let at : h.place ≡ x.place = found_key handset_key x.place h (handsets_in s) is.handset.1 in
    let low : h.place < place = below_next_place 1 h (handsets_in s) held.allocations.handset_keys (found_among handset_key x.place h (handsets_in s) is.handset.1) in
    let small : x.reference < 256 = is.small in
    absurd (let l : ⊥ = omega (arith, key, at, low, small) in l)

module _ (s : Store) (w : World) (sound : SoundStore s) (refines : StoreRefines s w) where
  held_not_free : (number : List ℕ) (r : ℕ) → is_held r (waiting_in number s) ≡ true → IsFree w number r → ⊥
  held_not_free number r e free =
      let x = held_queued r (waiting_in number s) e in
      let o = queued_offered number x.0 s w sound refines x.1.0 in
      free (record { handset = number; reference = x.0.reference; holder = holder_of x.0; moment = o.moment; tpdu = compared (tpdu_of x.0 s) }) (o.given, o.unanswered) refl x.1.1

  late_not_earlier : (number : List ℕ) (r : ℕ) (o : Option HandsetRow) → handset_at number (handsets_in s) ≡ o → r < 256 → (x : Option ReferenceRow)
      → row_at reference_key (pair_key (or_new_handset number (place_after 1 (handsets_in s)) o).place r) (references_in s) ≡ x → is_late s.moment x ≡ true → IsEarlier w.down number r s.moment → ⊥
  late_not_earlier number r o at small None there e is = absurd cc
  late_not_earlier number r None at small (Some x) there e is = never_given s sound.consistent.held r x there
  late_not_earlier number r (Some h) at small (Some x) there e is =
      let kept : seconds_by (handsets_in s) (references_in s) number r ≡ Some x.last =
      by_octet_is r (second_at (handset_at number (handsets_in s)) r (references_in s)) small
      ∙ ap (λ (y : Option HandsetRow). second_at y r (references_in s)) at ∙ ap (λ (y : Option ReferenceRow). option_map (λ (z : ReferenceRow). z.last) y) there in
      let g = refines.seconds.real number r x.last kept in
      let before : g.0.moment < s.moment = earlier_all w.down number r s.moment g.0 is g.1.0 g.1.1 g.1.2 in
      let last : g.0.moment ≡ x.last = g.1.3 in
      let now : s.moment ≤ x.last = leb-true s.moment x.last e in
      let l : ⊥ = omega (arith, before, last, now) in l

  pub cannot_give : (number : List ℕ) → reference_for (handset_of number (handsets_in s)) s ≡ None → (r : ℕ) → CanGive w number r s.moment → ⊥
  cannot_give number none r (small, free, earlier) =
      let hs : List HandsetRow = handsets_in s in
      let h : HandsetRow = handset_of number hs in
      let k : SoundHeld s = sound.consistent.held in
      let own : h.number ≡ number = (row_fits number hs (handset_at number hs) k.allocations.handset_keys k.allocations.apart refl).1 in
      let first : following h.last_reference < 256 = omega arith in
      let no : is_free h (waiting_in h.number s) (references_in s) s.moment r ≡ false =
      none_passes (is_free h (waiting_in h.number s) (references_in s) s.moment) (following h.last_reference) r first small none in
      ⊎_elim
      (λ (t : is_held r (waiting_in h.number s) ≡ true). held_not_free number r (ap (λ (n : List ℕ). is_held r (waiting_in n s)) (sym own) ∙ t) free)
      (λ (t : is_late s.moment (row_at reference_key (pair_key h.place r) (references_in s)) ≡ true).
      late_not_earlier number r (handset_at number hs) refl small (row_at reference_key (pair_key h.place r) (references_in s)) refl t earlier)
      (either (is_held r (waiting_in h.number s)) (is_late s.moment (row_at reference_key (pair_key h.place r) (references_in s))) no)
    where
      either : (a b : Bool) → (not a && not b) ≡ false → (a ≡ true) ⊎ (b ≡ true)
      either true b e = inl refl
      either false true e = inr refl
      either false false e = absurd cc

-- ---- it is kept that it was given

module _ (s : Store) (held : SoundHeld s) (g : Allocation) (now : g.moment ≡ s.moment) (small : g.reference < 256) where
  abbrev hs : List HandsetRow
  hs = handsets_in s

  abbrev row : HandsetRow
  row = handset_of g.handset (handsets_in s)

  abbrev after_hs : List HandsetRow
  after_hs = put handset_key (mentioned (handset_of g.handset (handsets_in s)) g.reference) (handsets_in s)

  abbrev after_rs : List ReferenceRow
  after_rs = put reference_key (given_row (handset_of g.handset (handsets_in s)) g.reference s.moment) (references_in s)

  abbrev last_of : Option ReferenceRow → Option ℕ
  last_of o = option_map (λ (r : ReferenceRow). r.last) o

  own_fits : Fits hs row × (row.number ≡ g.handset)
  own_fits = row_fits g.handset hs (handset_at g.handset hs) held.allocations.handset_keys held.allocations.apart refl

  fits : Fits hs (mentioned row g.reference)
  fits = record { place = own_fits.0.place; number = own_fits.0.number }

  own_after : (a : List ℕ) → g.handset ≡ a → handset_at a after_hs ≡ Some (mentioned row g.reference)
  own_after a same = ap (λ (n : List ℕ). handset_at n after_hs) (sym (own_fits.1 ∙ same)) ∙ put_number (mentioned row g.reference) hs fits

  -- what was given at the place of its row was given to it
  at_place : (q : ℕ) (o : Option HandsetRow) → handset_at g.handset hs ≡ o → (x : Option ReferenceRow) → row_at reference_key (pair_key (or_new_handset g.handset (place_after 1 hs) o).place q) (references_in s) ≡ x
      → last_of x ≡ second_at o q (references_in s)
  at_place q None at None there = refl
  at_place q None at (Some x) there = absurd (never_given s held q x there)
  at_place q (Some h) at x there = ap last_of (sym there)

  other_reference : (a : List ℕ) (q : ℕ) → g.handset ≡ a → ¬ (g.reference ≡ q) → second_at (handset_at a after_hs) q after_rs ≡ second_at (handset_at a hs) q (references_in s)
  other_reference a q same ne =
      let apart : ¬ (pair_key row.place g.reference ≡ pair_key row.place q) = λ e. ne (omega (arith, e)) in
      ap (λ (o : Option HandsetRow). second_at o q after_rs) (own_after a same)
      ∙ ap last_of (row_at_put_other reference_key (pair_key row.place q) (given_row row g.reference s.moment) (references_in s) apart)
      ∙ at_place q (handset_at g.handset hs) refl (row_at reference_key (pair_key row.place q) (references_in s)) refl
      ∙ ap (λ (n : List ℕ). second_at (handset_at n hs) q (references_in s)) same

  other_handset : (a : List ℕ) (q : ℕ) → ¬ (g.handset ≡ a) → q < 256 → second_at (handset_at a after_hs) q after_rs ≡ second_at (handset_at a hs) q (references_in s)
  other_handset a q ne few =
      ap (λ (o : Option HandsetRow). second_at o q after_rs) (put_number_other a (mentioned row g.reference) hs fits (λ e. ne (sym own_fits.1 ∙ e)))
      ∙ by (handset_at a hs) refl
    where
      by : (o : Option HandsetRow) → handset_at a hs ≡ o → second_at o q after_rs ≡ second_at o q (references_in s)
      by None e = refl
      by (Some h) e =
          let found = number_found a h hs e in
          let away : h.place ≡ row.place → ⊥ = λ p. ne (sym own_fits.1 ∙ sym (own_fits.0.number h found.0 p) ∙ found.1) in
          let apart : ¬ (pair_key row.place g.reference ≡ pair_key h.place q) = λ k. away (omega (arith, k, small, few)) in
          ap last_of (row_at_put_other reference_key (pair_key h.place q) (given_row row g.reference s.moment) (references_in s) apart)

  pub preserved_given : IsLastAllocation (seconds_by hs (references_in s)) (seconds_by after_hs after_rs) g
  preserved_given = record {
    here = by_octet_is g.reference (second_at (handset_at g.handset after_hs) g.reference after_rs) small
        ∙ ap (λ (o : Option HandsetRow). second_at o g.reference after_rs) (own_after g.handset refl)
        ∙ ap last_of (row_at_put reference_key (given_row row g.reference s.moment) (references_in s)) ∙ ap (λ (n : ℕ). Some n) (sym now);
    there = λ a q ne. by_octet_same q (second_at (handset_at a after_hs) q after_rs) (second_at (handset_at a hs) q (references_in s)) (λ few. ⊎_elim
        (λ (e : g.handset ≡ a). other_reference a q e (λ r. ne (sym e, sym r)))
        (λ (e : g.handset ≡ a → ⊥). other_handset a q e few)
        (cases_octets g.handset a));
  }
