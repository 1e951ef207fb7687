-- What follows an event: entries that a restart left Sending lapse, and the next transaction begins.
use Rattle.std.proofs.Common.{◌≡◌, ℕ, ◌+◌, ◌-◌, ◌%◌, ◌<◌, ◌≤◌, arith, List, [], ◌∷◌, ◌++◌, true, false, refl, sym, ◌∙◌, ap, subst, inl, inr, ⊎_elim, Option, Some, None, Result, length}
use Rattle.std.specs.Prelude.{◌||◌, min, nat_le}
use Rattle.std.proofs.lemmas.Bool.{both_ways, cond_both, cond-false}
use Rattle.sms_base.specs.Among.{Among}
use Rattle.sms_rows.specs.table.Table.{Rises, row_at}
use Rattle.sms_rows.proofs.table.Tables.{among_found, found_among, row_at_put_other}
use Rattle.sms_base.specs.declared.holder.Holder.{Holder}
use Rattle.sms_base.specs.declared.holder.Holder.TheVariants.{Entry as EntryHolder, Memory}
use Rattle.sms_control.specs.declared.message.Cp.TheVariants.{DataUnit as CpData}
use Rattle.sms_control.specs.declared.message.Cp.{Cp}
use Rattle.sms_control.specs.declared.fault.CpFault.{CpFault}
use Rattle.sms_control.specs.declared.transaction.TransactionFlag.TheVariants.{FromOriginator}
use Rattle.sms_control.specs.ControlGrammar.{spelled}
use Rattle.sms_control.specs.LinkStep.{Step, in_transaction, begin_step, is_busy, started}
use Rattle.sms_control.proofs.ControlFrames.{cp_again}
use Rattle.sms_relay.specs.declared.fault.RelayFault.{RelayFault}
use Rattle.sms_relay.specs.declared.frame.Rp.{Rp}
use Rattle.sms_relay.specs.declared.frame.Rp.TheVariants.{Smma}
use Rattle.sms_relay.specs.RelayGrammar.{data_up, smma_up}
use Rattle.sms_relay.specs.RelayReading.{up_at}
use Rattle.sms_relay.proofs.UnitLaws.{up_again}
use Rattle.sms_tpdu.specs.AddressGrammar.{relay_address}
use Rattle.sms_centre_spec.proofs.CentreAddresses.{centre_is}
use Rattle.sms_handset_rows.specs.declared.outbox.notice.Notice.{Notice}
use Rattle.sms_handset_rows.specs.declared.outbox.out_entry.EntryState.{EntryState as State_of}
use Rattle.sms_handset_rows.specs.declared.outbox.out_entry.EntryState.TheVariants.{Queued, Sending, Sent as Is_sent, Failed, Unsure}
use Rattle.sms_handset_rows.specs.declared.outbox.out_entry.OutEntry.{OutEntry as OutRow}
use Rattle.sms_base.specs.declared.carried.Carried.{Carried as Carries}
use Rattle.sms_base.specs.declared.carried.Kind.TheVariants.{Data}
use Rattle.sms_link.specs.declared.outgoing.Outgoing.{Outgoing}
use Rattle.sms_handset_draft.specs.Draft.{Draft, begin, link_of, put_counters, put_out, with_turn}
use Rattle.sms_link.specs.LinkTurn.{Turn, carrying, started as turn_started, still}
use Rattle.sms_handset_rows.specs.inbox.Groups.{is_among}
use Rattle.sms_handset_rows.specs.outbox.Keys.{out_key}
use Rattle.sms_handset_draft.specs.MemoryAvailable.{first_notice, put_notice, send_notice}
use Rattle.sms_handset_rows.specs.outbox.Offers.{first_due, first_fired, submit_of}
use Rattle.sms_handset_draft.specs.Outbox.{follow, is_notice_next, lapse, lapse_rows, offer, offer_after, offer_entry, offer_message, offer_wanted}
use Rattle.sms_handset_rows.specs.outbox.Settling.{is_sending, lost, most_tries}
use Rattle.sms_handset_rows.specs.outbox.References.{held_by_entries, held_references, is_unfinished, next_free}
use Rattle.sms_handset.proofs.SoundDrafts.{SoundAt}
use Rattle.sms_handset_rows.proofs.inbox.SoundMarks.{above_at}
use Rattle.sms_handset_rows.proofs.outbox.SoundOutbox.{held_among, held_entries}
use Rattle.sms_handset_rows.proofs.outbox.SoundReferences.{next_is_free}
use Rattle.sms_handset.proofs.SoundActs.{few_references, not_by_entries}
use Rattle.sms_handset.proofs.SoundTransfers.{is_sending_state, lapse_settles}
use Rattle.sms_world_model.specs.World.{World, Up, Frame, Sent, Carried, Allocation, OutEntry, IsUnfinished}
use Rattle.sms_world_model.specs.WorldStep.{Offer_up, Offer_memory, Repeat_memory, replaced}
use Rattle.sms_world_model.specs.References.{IsFreeUp, IsNewHolder}
use Rattle.sms_world.specs.frames_pass_between_sides.FramesUp.{CarriesUp, IsOfKind}
use Rattle.sms_world.specs.headline.SeenFrames.{frame_tpdu, sent_as, unit_tpdu}
use Rattle.sms_world.specs.handset_runs_are_steps.RefinesOutbox.{RefinesOut}
use Rattle.sms_world.specs.headline.SeenWorld.{entry_seen, state_of}
use Rattle.sms_world.specs.handset_runs_are_steps.Refinement.{Refines}
use Rattle.sms_world.specs.handset_runs_are_steps.Stages.{AllMine, Moves}
use Rattle.sms_world.proofs.handset_runs_are_steps.Concluding.{lost_law, notice_put, turned}
use Rattle.sms_world.proofs.frames_pass_between_sides.Linking.{begin_is, data_framed, next_below}
use Rattle.sms_world.proofs.handset_runs_are_steps.Moving.{frames_more, links_more, moves_then, stays, whole_both}
use Rattle.sms_world.proofs.handset_runs_are_steps.Submitting.{data_fits, data_read, data_some, submit_fits, submit_is}
use Rattle.sms_handset.proofs.DueRows.{fired_among, IsDue, first_due_is}
use Rattle.sms_world.proofs.scripts_are_runs.UpGrown.{no_memory}

-- ---- a transaction begins

-- what its unit is
pub record IsSending (r : ℕ) (unit tpdu : List ℕ) : Type 0 where
  pub some : 0 < length unit
  pub fits : length unit ≤ 248
  pub unit_is : IsOfKind Data r (up_at unit)
  pub says : unit_tpdu (up_at unit) ≡ tpdu

-- the frame of the world
abbrev pub data_sent : List ℕ → ℕ → ℕ → List ℕ → Holder → Frame
data_sent h number r tpdu tag = record { number = number; handset = h; line = Up; kind = Data; reference = r; tpdu = tpdu; tag = tag }

pub begins : (h : List ℕ) (b : World) (d : Draft) (w : World) (r : ℕ) (tag : Holder) (unit tpdu : List ℕ) → is_busy d.links ≡ false → IsSending r unit tpdu
    → Refines h b d w → Refines h b (begin r tag unit d) (record w { bag = Carried (data_sent h (length w.bag + 1) r tpdu tag) ∷ w.bag })
begins h b d w r tag unit tpdu idle i s =
    let c : Carries = record { kind = Data; reference = r; tag = tag } in
    let n = d.links.next_identifier in
    let frame : List ℕ = spelled (CpData (in_transaction FromOriginator n) unit) in
    let framed = data_framed FromOriginator n unit s.links.next i.some i.fits in
    let is : CarriesUp frame c = record { transaction = in_transaction FromOriginator n; unit = unit; frame = framed; flag = refl; unit_is = i.unit_is } in
    let x : Sent = Carried (data_sent h (length w.bag + 1) r tpdu tag) in
    let q : sent_as h (length w.bag + 1) frame (Some c) ≡ x =
    ap (λ (z : List ℕ). Carried (data_sent h (length w.bag + 1) r z tag)) (ap (λ (z : Result Cp CpFault). frame_tpdu z) (cp_again frame (CpData (in_transaction FromOriginator n) unit) framed) ∙ i.says) in
    let e : started d.moment frame d.links ≡ begin_step d.moment unit d.links = sym (begin_is d.moment unit d.links idle) in
    let f : Outgoing = record { octets = frame; carried = Some c; is_copy = false } in
    let z : Refines h b (record d { links = (started d.moment frame d.links).state; under_way = Some c; frames = d.frames ++ f ∷ [] }) (record w { bag = x ∷ w.bag }) = record {
      frames = ap (λ (v : Sent). v ∷ w.bag) (sym q) ∙ frames_more h d.frames (f ∷ []) b.bag w.bag s.frames;
      whole = whole_both d.frames (f ∷ []) s.whole (is, tt);
      links = record {
        next = next_below n;
        opened = (links_more h x w.bag d.links d.under_way d.answered s.links).opened;
        begun = (c, (refl, (is, refl, (length w.bag + 1, inl q))));
      };
      last = s.last;
      accepted = s.accepted;
      joined = s.joined;
      out = s.out;
      notices = s.notices;
      groups = s.groups;
    } in
    subst (λ (t : Turn). Refines h b (with_turn t d) (record w { bag = x ∷ w.bag }))
    (sym (cond-false (is_busy d.links) (still (link_of d)) (turn_started c (begin_step d.moment unit d.links) (link_of d)) idle))
    (subst (λ (t : Step). Refines h b (record d { links = t.state; under_way = Some c; frames = d.frames ++ carrying (Some c) t.out.frames }) (record w { bag = x ∷ w.bag })) e z)

-- ---- an entry is sent

module _ (m : ℕ) (h : List ℕ) (b : World) (d : Draft) (w : World) (idle : is_busy d.links ≡ false) (sound : SoundAt d) (s : Refines h b d w) where
  entry_law : (f : Option OutRow) → ((o : OutRow) → f ≡ Some o → IsDue d.rows.outbox o) → Moves (AllMine h) m h b (offer_entry f d) w
  entry_law None due = stays m h b d w s
  entry_law (Some o) due =
      let i = due o refl in
      let at : row_at out_key o.number d.rows.outbox ≡ Some o = among_found out_key o d.rows.outbox sound.outbox.order i.among in
      let x : OutRow = record o { state = Sending; tries = min (o.tries + 1) 255; due = None } in
      let y = s.out.given o.number o at in
      let g : Allocation = record { handset = h; reference = o.reference; holder = EntryHolder o.number; moment = y.0; tpdu = [] } in
      let centre = relay_address d.rows.setup.centre in
      let c = centre_is d.rows.setup.centre sound.setup.centre in
      let few : length (submit_of o) ≤ 200 = submit_fits o (sound.outbox.each o i.among).2.1.4 in
      let read = data_read o.reference centre (submit_of o) c few in
      let sending : IsSending o.reference (data_up o.reference centre (submit_of o)) (submit_of o) = record {
        some = data_some o.reference centre (submit_of o);
        fits = data_fits o.reference centre (submit_of o) c.1 few;
        unit_is = subst (λ (z : Result Rp RelayFault). IsOfKind Data o.reference z) (sym read) refl;
        says = ap (λ (z : Result Rp RelayFault). unit_tpdu z) read;
      } in
      let v : World = record w { outbox = replaced (entry_seen h o) (state_of Sending) w.outbox } in
      let s1 : Refines h b (put_out x d) v = turned h b d w o x (state_of Sending) at refl refl refl s in (
        Offer_up g (entry_seen h o) (submit_of o) ∷ [],
        (
          (tt, refl, tt),
          (((y.1, s.out.there o.number o at, refl, refl, subst (λ (z : State_of). IsUnfinished (state_of z)) (sym i.queued) tt), submit_is h o (sound.outbox.each o i.among).2), tt),
          begins h b (put_out x d) v o.reference (EntryHolder o.number) (data_up o.reference centre (submit_of o)) (submit_of o) idle sending s1,
        ),
      )

  message_law : Moves (AllMine h) m h b (offer_message d) w
  message_law = entry_law (first_due d.moment d.rows.outbox) (λ o e. first_due_is d.moment d.rows.outbox o e)

-- ---- an RP-SMMA is sent

pub smma_sends : (r : ℕ) → IsSending r (smma_up r) []
smma_sends r =
    let read = up_again (smma_up r) (Smma r) refl in
    record {
      some = (let q : length (smma_up r) ≡ 2 = refl in omega (arith, q));
      fits = (let q : length (smma_up r) ≡ 2 = refl in omega (arith, q));
      unit_is = subst (λ (z : Result Rp RelayFault). IsOfKind Data r z) (sym read) refl;
      says = ap (λ (z : Result Rp RelayFault). unit_tpdu z) read;
    }

-- one is sent that was given its reference
noticed : (h : List ℕ) (b : World) (d : Draft) (w : World) (n : Notice) (moment : ℕ) → Among (record { handset = h; reference = n.reference; holder = Memory n.number; moment = moment; tpdu = [] }) w.up
    → Refines h b d w → Refines h b (put_notice n d) w
noticed h b d w n moment a s = record {
  frames = s.frames;
  whole = s.whole;
  links = s.links;
  last = s.last;
  accepted = s.accepted;
  joined = s.joined;
  out = s.out;
  notices = notice_put h d.rows.counters.notice n moment d.notices w.up a s.notices;
  groups = s.groups;
}

same_memory : (n k : ℕ) → Memory n ≡ Memory k → n ≡ k
same_memory n k q = cc

new_memory : (h : List ℕ) (n : ℕ) (up : List Allocation) → ((g : Allocation) → Among g up → g.handset ≡ h → g.holder ≡ Memory n → ⊥) → IsNewHolder up h (Memory n)
new_memory h n [] f = tt
new_memory h n (g ∷ gs) f = ((λ (a, e). f g (inl refl) a e), new_memory h n gs (λ x i. f x (inr i)))

pub is_open : (p : State_of) → IsUnfinished (state_of p) → is_unfinished p ≡ true
is_open Queued u = refl
is_open Sending u = refl
is_open Is_sent u = absurd u
is_open Failed u = absurd u
is_open Unsure u = absurd u

-- a reference that no unfinished row holds is free in the world
pub free_up : (h : List ℕ) (next r : ℕ) (outbox : List OutRow) (w : World) → RefinesOut h next outbox w.outbox w.up → is_among r (held_by_entries outbox) ≡ false → IsFreeUp w h r
free_up h next r outbox w s free g e held a q =
    let x = s.only e held.1 (sym held.2 ∙ a) in
    let going_on : is_unfinished x.0.state ≡ true = is_open x.0.state (subst (λ (z : OutEntry). IsUnfinished z.state) x.1.1 held.4) in
    let same : g.reference ≡ x.0.reference = s.same e.number x.0 g x.1.0 held.0 a held.3 in
    let there : is_among x.0.reference (held_by_entries outbox) ≡ true =
    ap (λ (z : List ℕ). is_among x.0.reference z) (held_entries outbox) ∙ held_among (λ (o : OutRow). o.reference) x.0 outbox (found_among out_key e.number x.0 outbox x.1.0) going_on in
    both_ways (is_among r (held_by_entries outbox)) free (ap (λ (z : ℕ). is_among z (held_by_entries outbox)) (sym q ∙ same) ∙ there)

-- one more giving to an RP-SMMA
out_noticed : (h : List ℕ) (next r n moment : ℕ) (outbox : List OutRow) (entries : List OutEntry) (up : List Allocation) → RefinesOut h next outbox entries up
    → RefinesOut h next outbox entries (record { handset = h; reference = r; holder = Memory n; moment = moment; tpdu = [] } ∷ up)
out_noticed h next r n moment outbox entries up s = record {
  there = s.there;
  only = s.only;
  given = λ k o q. let g = s.given k o q in (g.0, inr g.1);
  same = λ k o v q i a e. ⊎_elim
      (λ (z : v ≡ record { handset = h; reference = r; holder = Memory n; moment = moment; tpdu = [] }). absurd (no_memory n k (ap (λ (t : Allocation). t.holder) (sym z) ∙ e)))
      (λ (z : Among v up). s.same k o v q z a e) i;
  used = λ k v i a e. ⊎_elim
      (λ (z : v ≡ record { handset = h; reference = r; holder = Memory n; moment = moment; tpdu = [] }). absurd (no_memory n k (ap (λ (t : Allocation). t.holder) (sym z) ∙ e)))
      (λ (z : Among v up). s.used k v z a e) i;
}

module _ (m : ℕ) (h : List ℕ) (b : World) (d : Draft) (w : World) (idle : is_busy d.links ≡ false) (s : Refines h b d w) where
  again_law : (n : Notice) → Among n d.notices → Moves (AllMine h) m h b (send_notice n d) w
  again_law n i =
      let y = s.notices.given n i in
      let x : Notice = record n { due = None } in
      let g : Allocation = record { handset = h; reference = n.reference; holder = Memory n.number; moment = y.0; tpdu = [] } in (
        Repeat_memory g n.number ∷ [],
        (
          (tt, refl, tt),
          ((y.1, refl), tt),
          begins h b (put_notice x d) w n.reference (Memory n.number) (smma_up n.reference) [] idle (smma_sends n.reference) (noticed h b d w x y.0 y.1 s),
        ),
      )

  first_law : (r : ℕ) → is_among r (held_by_entries d.rows.outbox) ≡ false → Moves (AllMine h) m h b (first_notice d.rows.counters.notice r d) w
  first_law r free =
      let k = d.rows.counters.notice in
      let n : Notice = record { number = k; reference = r; is_second = false; due = None } in
      let g : Allocation = record { handset = h; reference = r; holder = Memory k; moment = m; tpdu = [] } in
      let v : World = record w { up = g ∷ w.up } in
      let e : Draft = put_counters (record d.rows.counters { notice = k + 1; reference = (r + 1) % 256 }) (record d { notices_wanted = d.notices_wanted - 1 }) in
      let s1 : Refines h b (put_notice (record n { due = None }) e) v = record {
        frames = s.frames;
        whole = s.whole;
        links = s.links;
        last = s.last;
        accepted = s.accepted;
        joined = s.joined;
        out = out_noticed h d.rows.counters.entry r k m d.rows.outbox w.outbox w.up s.out;
        notices = notice_put h (k + 1) n m d.notices (g ∷ w.up) (inl refl) (record {
          given = λ y i. let x = s.notices.given y i in (x.0, inr x.1);
          used = λ j t i a q. ⊎_elim
              (λ (z : t ≡ g). let l : k ≡ j = same_memory k j (ap (λ (y : Allocation). y.holder) (sym z) ∙ q) in omega arith)
              (λ (z : Among t w.up). let l : j < k = s.notices.used j t z a q in omega arith) i;
        });
        groups = s.groups;
      } in (
        Offer_memory h k r ∷ [],
        (
          (tt, refl, tt),
          (
            (
              new_memory h k w.up (λ t i a q. let l : k < k = s.notices.used k t i a q in absurd (omega arith)),
              free_up h d.rows.counters.entry r d.rows.outbox w s.out free,
            ),
            tt,
          ),
          begins h b (put_notice (record n { due = None }) e) v r (Memory k) (smma_up r) [] idle (smma_sends r) s1,
        ),
      )

-- ---- the next transaction

module _ (m : ℕ) (h : List ℕ) (b : World) (d : Draft) (w : World) (sound : SoundAt d) (s : Refines h b d w) where
  free : is_among (next_free d.rows.counters.reference (held_references d.notices d.rows.outbox)) (held_by_entries d.rows.outbox) ≡ false
  free =
      let r = next_free d.rows.counters.reference (held_references d.notices d.rows.outbox) in
      let few = few_references d.notices d.rows.outbox in
      not_by_entries d.notices d.rows.outbox r (next_is_free d.rows.counters.reference (held_references d.notices d.rows.outbox) (omega (arith, few, sound.outbox.few, sound.few_notices)))

  wanted_law : is_busy d.links ≡ false → Moves (AllMine h) m h b (offer_wanted d) w
  wanted_law idle =
      let r = next_free d.rows.counters.reference (held_references d.notices d.rows.outbox) in
      cond_both (is_notice_next d) (first_notice d.rows.counters.notice r d) (offer_message d) (λ (z : Draft). Moves (AllMine h) m h b z w)
      (λ t. first_law m h b d w idle s r free) (λ t. message_law m h b d w idle sound s)

  after_law : is_busy d.links ≡ false → (n : Option Notice) → first_fired d.moment d.notices ≡ n → Moves (AllMine h) m h b (offer_after n d) w
  after_law idle None e = wanted_law idle
  after_law idle (Some n) e = again_law m h b d w idle s n (fired_among d.moment d.notices n e)

  pub offer_law : Moves (AllMine h) m h b (offer d) w
  offer_law = cond_both (is_busy d.links) d (offer_after (first_fired d.moment d.notices) d) (λ (z : Draft). Moves (AllMine h) m h b z w) (λ t. stays m h b d w s) (λ t. after_law t (first_fired d.moment d.notices) refl)

-- ---- after a restart

lost_number : (o : OutRow) → (lost o).number ≡ o.number
lost_number o =
    cond_both (o.is_long || nat_le most_tries o.tries) (record o { state = Unsure }) (record o { state = Queued; rejects_duplicates = true; due = None }) (λ (z : OutRow). z.number ≡ o.number) (λ t. refl) (λ t. refl)

rows_law : (m : ℕ) (h : List ℕ) (b : World) (os : List OutRow) (d : Draft) (w : World) → Rises out_key os → ((o : OutRow) → Among o os → row_at out_key o.number d.rows.outbox ≡ Some o)
    → Refines h b d w → Moves (AllMine h) m h b (lapse_rows os d) w
rows_law m h b [] d w r there s = stays m h b d w s
rows_law m h b (o ∷ os) d w r there s =
    cond_both (is_sending o.state) (put_out (lost o) d) d (λ (z : Draft). Moves (AllMine h) m h b (lapse_rows os z) w)
    (λ t. moves_then m h b (put_out (lost o) d) (lapse_rows os (put_out (lost o) d)) w
    (lost_law m h b d w o (there o (inl refl)) (is_sending_state o.state t) s)
    (λ v k. rows_law m h b os (put_out (lost o) d) v r.1
    (λ x i. row_at_put_other out_key x.number (lost o) d.rows.outbox
    (λ e. let above = above_at out_key o.number os r.0 x i in let n = lost_number o in absurd (omega (arith, n, e, above)))
    ∙ there x (inr i)) k))
    (λ t. rows_law m h b os d w r.1 (λ x i. there x (inr i)) s)

lapse_law : (m : ℕ) (h : List ℕ) (b : World) (d : Draft) (w : World) → SoundAt d → Refines h b d w → Moves (AllMine h) m h b (lapse d) w
lapse_law m h b d w sound s =
    cond_both d.is_recovered (lapse_rows d.rows.outbox (record d { is_recovered = false })) d (λ (z : Draft). Moves (AllMine h) m h b z w)
    (λ t. rows_law m h b d.rows.outbox (record d { is_recovered = false }) w sound.outbox.order (λ o i. among_found out_key o d.rows.outbox sound.outbox.order i)
    (record { frames = s.frames; whole = s.whole; links = s.links; last = s.last; accepted = s.accepted; joined = s.joined; out = s.out; notices = s.notices; groups = s.groups }))
    (λ t. stays m h b d w s)

pub follow_law : (m : ℕ) (h : List ℕ) (b : World) (d : Draft) (w : World) → SoundAt d → Refines h b d w → Moves (AllMine h) m h b (follow d) w
follow_law m h b d w sound s =
    moves_then m h b (lapse d) (follow d) w (lapse_law m h b d w sound s) (λ v k. offer_law m h b (lapse d) v (lapse_settles d sound).sound k)
