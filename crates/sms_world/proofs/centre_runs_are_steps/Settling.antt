-- A part was acknowledged: it is done, and where all parts of its message are, the message is delivered and told so.
use Rattle.std.proofs.Common.{◌≡◌, ℕ, ◌<◌, arith, List, [], ◌∷◌, true, false, refl, sym, ◌∙◌, ap, subst, inl, inr, ⊎_elim, Option, Some, None, length}
use Rattle.std.specs.Prelude.{◌↔◌}
use Rattle.std.proofs.lemmas.Bool.{cases_Bool, cases_eq, cond-false, cond-true, cond_both}
use Rattle.sms_base.specs.Among.{Among}
use Rattle.sms_base.specs.declared.final_state.FinalState.{FinalState}
use Rattle.sms_base.specs.declared.final_state.FinalState.TheVariants.{Delivered}
use Rattle.sms_base.specs.declared.carried.Kind.TheVariants.{Ack}
use Rattle.sms_base.specs.declared.holder.Holder.TheVariants.{Part}
use Rattle.sms_centre_rows.specs.messages.Messages.{all_done, ended, is_pending, message_at, message_key, part_at, part_key}
use Rattle.sms_centre_rows.specs.declared.messages.message.MessageRow.{MessageRow}
use Rattle.sms_centre_rows.specs.declared.messages.part.PartRow.{PartRow}
use Rattle.sms_rows.proofs.table.Tables.{among_found, found_among, found_key, row_at_put}
use Rattle.sms_rows.specs.table.Keys.{pair_key}
use Rattle.sms_rows.specs.table.Table.{put, row_at}
use Rattle.sms_tpdu.specs.MoreMessages.{compared}
use Rattle.sms_centre_rows.specs.waiting.Trying.{finished}
use Rattle.sms_centre_spec.proofs.DoneMarks.{not_all_done}
use Rattle.sms_centre_spec.proofs.SoundMessagesStay.{AreRows, StatesItsParts, finished_rows, rows_are}
use Rattle.sms_centre_spec.proofs.SoundEnds.{CanEnd}
use Rattle.sms_centre_spec.proofs.SoundStores.{SoundStore}
use Rattle.sms_centre_spec.proofs.StagesConsistent.{part_far_consistent}
use Rattle.sms_centre_spec.proofs.SoundSteady.{rows_map}
use Rattle.sms_centre_spec.specs.Draft.{Store, messages_in, parts_in, priorities_in, reports_in, with_message, with_part_at}
use Rattle.sms_centre_spec.specs.Ends.{end as end_message}
use Rattle.sms_centre_spec.specs.Consistent.{IsConsistent as StandsStore}
use Rattle.sms_centre_spec.specs.Transfers.{complete}
use Rattle.sms_world_model.proofs.Tables.{changed_back, changed_here, changed_there, number_done, same_message}
use Rattle.sms_world_model.specs.Groups.{all_numbers}
use Rattle.sms_world_model.specs.Submission.{Submission}
use Rattle.sms_world_model.specs.World.{Down, Final, Frame, Allocation, IsUnanswered, Message, Pending, IsRecorded, State, World, changed}
use Rattle.sms_world_model.specs.WorldStep.{HasReference, IsSent, Settle, marked, settled}
use Rattle.sms_world.proofs.centres_refine_the_world.ByOctets.{by_octet_is, by_octet_some}
use Rattle.sms_world.proofs.centres_refine_the_world.Ending.{end_is_reached, ended_refines}
use Rattle.sms_world.proofs.centres_refine_the_world.Allocations.{seen_part}
use Rattle.sms_world.proofs.centres_refine_the_world.QueuedParts.{none_of}
use Rattle.sms_world.specs.centres_refine_the_world.CentreRefinement.{StoreRefines}
use Rattle.sms_world.specs.centres_refine_the_world.RefinesGiven.{given_part}
use Rattle.sms_world.specs.centres_refine_the_world.RefinesReports.{reports_by}
use Rattle.sms_world.specs.headline.SeenWorld.{HasRows, IsInTable, IsRowOf, IsStateOf, PartSeen, RefinesTable, messages_by, part_seen, parts_by}
use Rattle.sms_world.specs.centre_runs_are_steps.Stages.{Settles}
use Rattle.sms_world.proofs.centre_runs_are_steps.AllDone.{has_numbers, numbers_all, numbers_have, some_undone}
use Rattle.sms_world.proofs.centre_runs_are_steps.DoneParts.{done_elsewhere, done_holders, done_parts, done_rows, done_seen, ended_unseen, other_now, own_before, own_now, part_id, was_seen}
use Rattle.sms_world.proofs.centre_runs_are_steps.Stepping.{WasHanded, reads_then}

module _ (s : Store) (w : World) (sound : SoundStore s) (refines : StoreRefines s w) (number : ℕ) (p : PartRow) (m : MessageRow) (at : part_at m.id number (parts_in s) ≡ Some p) (small : number < 256)
    (there : message_at m.id (messages_in s) ≡ Some m) (pending : is_pending m ≡ true) (undone : p.progress.is_done ≡ false) where
  abbrev after : Store
  after = with_part_at p (finished p.progress) s

  abbrev ps : List PartRow
  ps = done_parts s sound m.id number p at small

  abbrev mark : Message → State
  mark e = marked number e.submission.parts e.state

  abbrev settled_world : World
  settled_world = settled w m.id number

  p_id : p.id ≡ m.id
  p_id = part_id s sound m.id number p at small

  part_there : row_at part_key (part_key p) (parts_in s) ≡ Some p
  part_there = ap (λ (k : ℕ). row_at part_key k (parts_in s)) (found_key part_key (pair_key m.id number) p (parts_in s) at) ∙ at

  stored_after : StandsStore after
  stored_after = part_far_consistent p (finished p.progress) s sound.consistent part_there (λ t. absurd cc)

  -- ---- the message in the world

  abbrev whole : Submission
  whole = (refines.table.there m.id m there).0

  is_row : IsRowOf m whole
  is_row = (refines.table.there m.id m there).2.1

  has_rows : HasRows whole (parts_by (parts_in s) m.id)
  has_rows = (refines.table.there m.id m there).2.3

  abbrev was_pending : IsStateOf None (parts_by (parts_in s) m.id) (refines.table.there m.id m there).1
  was_pending =
      let x = refines.table.there m.id m there in
      subst (λ (z : Option FinalState). IsStateOf z (parts_by (parts_in s) m.id) x.1) (none_of m.state pending) x.2.2

  abbrev done : List ℕ
  done = was_pending.0

  is_done_if : (n : ℕ) (x : PartSeen) → parts_by (parts_in s) m.id n ≡ Some x → (x.is_done ≡ true) ↔ Among n done
  is_done_if = was_pending.1.1

  recorded : IsRecorded w.table m.id whole (Pending done)
  recorded = let x = refines.table.there m.id m there in subst (λ (z : State). IsRecorded w.table m.id whole z) was_pending.1.0 x.2.0

  -- ---- all parts are done exactly where all numbers are there

  part_found : (n : ℕ) (x : PartSeen) → parts_by ps m.id n ≡ Some x → (q : PartRow) × (Among q ps × (q.id ≡ m.id) × (x.is_done ≡ q.progress.is_done))
  part_found n x e =
      let o = by_octet_some n (part_seen (part_at m.id n ps)) x e in
      let q = seen_part (part_at m.id n ps) x o.1 in
      let among : Among q.0 ps = found_among part_key (pair_key m.id n) q.0 ps q.1.0 in
      let key : pair_key q.0.id q.0.number ≡ pair_key m.id n = found_key part_key (pair_key m.id n) q.0 ps q.1.0 in
      let few = (stored_after.held.parts.numbers q.0 among).1 in
      let octet = o.0 in
      (q.0, (among, (let own : q.0.id ≡ m.id = omega (arith, key, few, octet) in own), ap (λ (y : PartSeen). y.is_done) q.1.1))

  numbers_if : all_done m.id ps ≡ true → all_numbers (length whole.parts) (number ∷ done) ≡ true
  numbers_if all = numbers_all (length whole.parts) (number ∷ done) (λ k some l. ⊎_elim
      (λ (e : k ≡ number). inl e)
      (λ (ne : k ≡ number → ⊥).
      let has = numbers_have whole k some l in
      let x = has_rows.only k has.0 has.1 in
      let now : parts_by ps m.id k ≡ Some x.0 = other_now s sound m.id number p at small m.id k (λ q. ne q.1) ∙ x.1 in
      let q = part_found k x.0 now in
      inr ((is_done_if k x.0 x.1).0 (⊎_elim
      (λ (t : x.0.is_done ≡ true). t)
      (λ (t : x.0.is_done ≡ false).
      let bad : true ≡ false = sym all ∙ not_all_done m.id q.0 ps q.1.0 q.1.1 (sym q.1.2 ∙ t) in absurd cc)
      (cases_Bool x.0.is_done))))
      (cases_eq k number))

  done_if : all_numbers (length whole.parts) (number ∷ done) ≡ true → all_done m.id ps ≡ true
  done_if all = ⊎_elim
      (λ (t : all_done m.id ps ≡ true). t)
      (λ (t : all_done m.id ps ≡ false). absurd (none t))
      (cases_Bool (all_done m.id ps))
    where
      none : all_done m.id ps ≡ false → ⊥
      none t =
          let q = some_undone m.id ps t in
          let row : PartRow = q.0 in
          let octet = (stored_after.held.parts.numbers row q.1.0).1 in
          let seen : PartSeen = record { reference = row.reference; tpdu = compared row.tpdu; is_done = row.progress.is_done } in
          let found : row_at part_key (part_key row) ps ≡ Some row = among_found part_key row ps stored_after.held.parts.keys q.1.0 in
          let place : part_at m.id row.number ps ≡ Some row = ap (λ (k : ℕ). row_at part_key (pair_key k row.number) ps) (sym q.1.1) ∙ found in
          let now : parts_by ps m.id row.number ≡ Some seen = by_octet_is row.number (part_seen (part_at m.id row.number ps)) octet ∙ ap part_seen place in
          ⊎_elim
          (λ (e : row.number ≡ number).
          let both : Some (done_seen s sound m.id number p at small) ≡ Some seen = sym (own_now s sound m.id number p at small) ∙ ap (λ (k : ℕ). parts_by ps m.id k) (sym e) ∙ now in
          let same : done_seen s sound m.id number p at small ≡ seen = cc in
          let bad : true ≡ false = ap (λ (y : PartSeen). y.is_done) same ∙ q.1.2 in absurd cc)
          (λ (ne : row.number ≡ number → ⊥).
          let was : parts_by (parts_in s) m.id row.number ≡ Some seen = sym (other_now s sound m.id number p at small m.id row.number (λ z. ne z.1)) ∙ now in
          let part = has_rows.there row.number seen was in
          let few = has_numbers whole row.number part.0 part.1 in
          ⊎_elim
          (λ (e : row.number ≡ number). ne e)
          (λ (a : Among row.number done). let bad : true ≡ false = sym ((is_done_if row.number seen was).1 a) ∙ q.1.2 in absurd cc)
          (number_done (length whole.parts) (number ∷ done) row.number all few.0 few.1))
          (cases_eq row.number number)

  -- ---- some part is undone still

  iff_now : (n : ℕ) (x : PartSeen) → parts_by ps m.id n ≡ Some x → (x.is_done ≡ true) ↔ Among n (number ∷ done)
  iff_now n x e = ⊎_elim
      (λ (q : n ≡ number).
      let both : Some (done_seen s sound m.id number p at small) ≡ Some x = sym (own_now s sound m.id number p at small) ∙ ap (λ (k : ℕ). parts_by ps m.id k) (sym q) ∙ e in
      let same : done_seen s sound m.id number p at small ≡ x = cc in
      let found : (x.is_done ≡ true) ↔ Among n (number ∷ done) = ((λ t. inl q), (λ a. ap (λ (y : PartSeen). y.is_done) (sym same))) in found)
      (λ (ne : n ≡ number → ⊥).
      let was : parts_by (parts_in s) m.id n ≡ Some x = sym (other_now s sound m.id number p at small m.id n (λ z. ne z.1)) ∙ e in
      let found : (x.is_done ≡ true) ↔ Among n (number ∷ done) =
      ((λ t. inr ((is_done_if n x was).0 t)), (λ a. ⊎_elim (λ (i : n ≡ number). absurd (ne i)) (λ (i : Among n done). (is_done_if n x was).1 i) a)) in found)
      (cases_eq n number)

  own_in_table : all_numbers (length whole.parts) (number ∷ done) ≡ false → IsInTable m (parts_by ps m.id) (changed m.id mark w.table)
  own_in_table more =
      let now : mark (record { submission = whole; state = Pending done }) ≡ Pending (number ∷ done) =
      cond-false (all_numbers (length whole.parts) (number ∷ done)) (Final Delivered) (Pending (number ∷ done)) more in
      let st : State = Pending (number ∷ done) in (
        whole,
        st,
        (
          subst (λ (z : State). IsRecorded (changed m.id mark w.table) m.id whole z) now (changed_here w.table m.id mark (record { submission = whole; state = Pending done }) recorded),
          is_row,
          subst (λ (z : Option FinalState). IsStateOf z (parts_by ps m.id) st) (sym (none_of m.state pending)) (number ∷ done, (refl, iff_now)),
          done_rows s sound m.id number p at small whole m.id has_rows,
        ),
      )

  open_table : all_numbers (length whole.parts) (number ∷ done) ≡ false → RefinesTable (messages_by (messages_in s)) (parts_by ps) (changed m.id mark w.table)
  open_table more = record {
    there = λ i x e. ⊎_elim
        (λ (q : i ≡ m.id).
        let rows : Some m ≡ Some x = sym there ∙ ap (λ (k : ℕ). message_at k (messages_in s)) (sym q) ∙ e in
        let row : m ≡ x = cc in
        subst (λ (y : MessageRow). IsInTable y (parts_by ps i) (changed m.id mark w.table)) row
        (subst (λ (k : ℕ). IsInTable m (parts_by ps k) (changed m.id mark w.table)) (sym q) (own_in_table more)))
        (λ (ne : i ≡ m.id → ⊥).
        let own : x.id ≡ i = found_key message_key i x (messages_in s) e in
        let y = done_elsewhere s sound m.id number p at small i x w.table ne (refines.table.there i x e) in
        (y.0, y.1, (changed_there w.table m.id mark x.id (λ z. ne (sym own ∙ z)) ∙ y.2.0, y.2.1, y.2.2, y.2.3)))
        (cases_eq i m.id);
    only = λ i u st k. ⊎_elim
        (λ (e : (i ≡ m.id) × (u ≡ whole) × (st ≡ mark (record { submission = whole; state = Pending done }))). (m, ap (λ (j : ℕ). message_at j (messages_in s)) e.0 ∙ there))
        (λ (e : ¬ (i ≡ m.id) × IsRecorded w.table i u st). refines.table.only i u st e.1)
        (changed_back w.table m.id mark whole u (Pending done) st i recorded k);
  }

  open_refines : all_done m.id ps ≡ false → StoreRefines after settled_world
  open_refines partly =
      let more : all_numbers (length whole.parts) (number ∷ done) ≡ false = ⊎_elim
      (λ (t : all_numbers (length whole.parts) (number ∷ done) ≡ true). absurd (let bad : true ≡ false = sym (done_if t) ∙ partly in not_both bad))
      (λ (t : all_numbers (length whole.parts) (number ∷ done) ≡ false). t)
      (cases_Bool (all_numbers (length whole.parts) (number ∷ done))) in
      record { table = open_table more; reports = refines.reports; holders = done_holders s sound m.id number p at small (messages_by (messages_in s)) (reports_by (reports_in s)) w.down refines.holders; seconds = refines.seconds }
    where
      not_both : true ≡ false → ⊥
      not_both e = cc

  -- ---- all are done: it is delivered

  delivers : all_done m.id ps ≡ true → (u : Submission) (st : State) → IsRecorded w.table m.id u st → mark (record { submission = u; state = st }) ≡ Final Delivered
  delivers all u st k =
      let same = same_message w.table m.id whole u (Pending done) st recorded k in
      (λ t. mark (record { submission = sym same.0 t; state = sym same.1 t }))
      ∙ cond-true (all_numbers (length whole.parts) (number ∷ done)) (Final Delivered) (Pending (number ∷ done)) (numbers_if all)

  ended_row_there : message_at m.id (put message_key (ended Delivered s.moment m) (messages_in s)) ≡ Some (ended Delivered s.moment m)
  ended_row_there = row_at_put message_key (ended Delivered s.moment m) (messages_in s)

  delivered_refines : all_done m.id ps ≡ true → StoreRefines (with_message (ended Delivered s.moment m) after) settled_world
  delivered_refines all =
      let e : MessageRow = ended Delivered s.moment m in
      let x : StoreRefines (with_message e s) settled_world = ended_refines Delivered m s w there mark (delivers all) refines in
      let ms : ℕ → Option MessageRow = messages_by (put message_key e (messages_in s)) in
      record {
        table = ended_unseen s sound m.id number p at small ms e Delivered (changed m.id mark w.table) ended_row_there refl x.table;
        reports = x.reports;
        holders = done_holders s sound m.id number p at small ms (reports_by (reports_in s)) w.down x.holders;
        seconds = x.seconds;
      }

  -- ---- the message may end

  delivered_can : all_done m.id ps ≡ true → CanEnd Delivered m after
  delivered_can all =
      let ms = messages_in s in
      let rows : AreRows (λ x. ¬ (x.id ≡ p.id) → StatesItsParts ps x) (messages_in after) ps (priorities_in after) =
      finished_rows ms (parts_in s) (priorities_in s) p (finished p.progress) (rows_are ms (parts_in s) (priorities_in s) sound.messages) part_there in
      record {
        consistent = stored_after;
        rows = rows_map (λ x. ¬ (x.id ≡ p.id) → StatesItsParts ps x) (λ x. ¬ (x.id ≡ m.id) → StatesItsParts ps x) after rows (λ x among told ne. told (λ i. ne (i ∙ p_id)));
        told = sym all;
        reports = sound.reports;
        splits = sound.splits;
        bars = sound.bars;
        setup = sound.setup;
        times = record { now = sound.times.now; start = sound.times.start; submitted = sound.times.submitted; given = sound.times.given; made = sound.times.made };
        there = there;
        pending = pending;
      }

  -- ---- the step

  module _ (handed : ℕ) (b : World) (u : Frame) (was : WasHanded handed b u) (sent : IsSent w u Down Ack) (to : m.handset ≡ u.handset) (under : p.reference ≡ u.reference) where
    abbrev allocation : Allocation
    allocation = given_part m number (was_seen s sound m.id number p at small) (refines.holders.part m.id number m (was_seen s sound m.id number p at small) there (own_before s sound m.id number p at small)).0

    has : HasReference w u allocation m.id number
    has =
        let g = refines.holders.part m.id number m (was_seen s sound m.id number p at small) there (own_before s sound m.id number p at small) in
        let not_done : ¬ Among number done = λ a. (let bad : true ≡ false = sym ((is_done_if number (was_seen s sound m.id number p at small) (own_before s sound m.id number p at small)).1 a) ∙ undone in absurd cc) in
        let unanswered : IsUnanswered w.table w.reports (Part m.id number) = (whole, done, (recorded, not_done)) in
        ((g.1, unanswered), refl, to, under)

    pub part_settles : Settles handed s.moment b (complete m after) w
    part_settles =
        cond_both (all_done m.id ps) (end_message Delivered m after) after (λ (e : Store). Settles handed s.moment b e w)
        (λ all.
        let told = end_is_reached Delivered m after settled_world (delivered_can all) (delivered_refines all) in
        reads_then handed s.moment b (λ v. StoreRefines (end_message Delivered m after) v × (v.bag ≡ w.bag)) w u (Settle u allocation m.id number) told.0 was refl tt told.1.0 ((sent, has), told.1.1) (told.1.2, told.1.3))
        (λ partly. reads_then handed s.moment b (λ v. StoreRefines after v × (v.bag ≡ w.bag)) w u (Settle u allocation m.id number) [] was refl tt tt ((sent, has), tt) (open_refines partly, refl))
