-- Data that come to a handset are one step: it takes them, answers a double or refuses.
use Rattle.std.proofs.Common.{◌≡◌, ℕ, ◌≤◌, ◌<◌, arith, List, [], ◌∷◌, true, false, refl, sym, ◌∙◌, ap, subst, inl, inr, ⊎_elim, Option, Some, None}
use Rattle.std.proofs.lemmas.Bool.{both_ways, cases_eq}
use Rattle.std.proofs.lemmas.Option.{same_Some}
use Rattle.sms_base.specs.Among.{Among}
use Rattle.sms_rows.specs.table.Table.{row_at, put as put_row}
use Rattle.sms_rows.proofs.table.Tables.{row_at_put, row_at_put_other}
use Rattle.sms_rows.specs.declared.table.change.Change.{Change}
use Rattle.sms_rows.specs.declared.table.change.Change.TheVariants.{Put}
use Rattle.sms_base.specs.declared.holder.Holder.{Holder}
use Rattle.sms_control.specs.declared.link_state.Opened.{Opened}
use Rattle.sms_relay.specs.declared.cause.RpCause.{RpCause}
use Rattle.sms_relay.specs.Cause.{IsRpCause}
use Rattle.sms_relay.specs.RelayGrammar.{ack_up, error_up}
use Rattle.sms_handset_draft.specs.declared.counters.Counters.{Counters}
use Rattle.sms_handset_rows.specs.declared.inbox.entry.Entry.{Entry}
use Rattle.sms_handset_rows.specs.declared.inbox.last_accepted.LastAccepted.{LastAccepted}
use Rattle.sms_handset_rows.specs.declared.inbox.discarded_group.DiscardedGroup.{DiscardedGroup}
use Rattle.sms_handset_rows.specs.declared.outbox.out_entry.OutEntry.{OutEntry as OutRow}
use Rattle.sms_base.specs.declared.carried.Kind.TheVariants.{Ack, Error}
use Rattle.sms_handset_draft.specs.Draft.{Changes, Draft, put_last}
use Rattle.sms_handset_rows.specs.inbox.Keys.{last_key}
use Rattle.sms_handset_draft.specs.Receiving.{acknowledge, refuse, accept}
use Rattle.sms_handset_rows.specs.inbox.Doubles.{is_double}
use Rattle.sms_world_model.specs.World.{World, Carried, Accepted, Joined, Allocation, OutEntry, IsLast}
use Rattle.sms_tpdu.specs.MoreMessages.{compared, same_message}
use Rattle.sms_tpdu.proofs.MoreBits.{is_same}
use Rattle.sms_world_model.specs.Groups.{groups_of, IsEndedAt, joined_content}
use Rattle.sms_world_model.specs.WorldStep.{Take, Take_again, Refuse, Join, HasNotJoined}
use Rattle.sms_world.specs.frames_pass_between_sides.FramesDown.{frame_of}
use Rattle.sms_world.specs.headline.SeenWorld.{accepted_at, joined_at}
use Rattle.sms_world.specs.handset_runs_are_steps.PutInOrder.{joined_by, taken_by}
use Rattle.sms_world.specs.handset_runs_are_steps.RefinesInbox.{RefinesGroups, RefinesLast, octets_at}
use Rattle.sms_world.specs.handset_runs_are_steps.RefinesOutbox.{RefinesNotices, RefinesOut}
use Rattle.sms_world.specs.handset_runs_are_steps.Refinement.{Refines}
use Rattle.sms_world.specs.handset_runs_are_steps.Stages.{ReadsOne}
use Rattle.sms_world.proofs.handset_runs_are_steps.Putting.{accepted_here, taken_push}
use Rattle.sms_world.proofs.handset_runs_are_steps.Grouping.{pair}
use Rattle.sms_world.proofs.frames_pass_between_sides.Linking.{Awaits}
use Rattle.sms_world.proofs.handset_runs_are_steps.Replying.{ack_answers, error_answers, replies}

-- ---- doubles

pub last_is : (octets : List ℕ) (o : Option LastAccepted) → is_double octets o ≡ true → octets_at o ≡ Some (compared octets)
last_is octets None e = absurd cc
last_is octets (Some l) e = ap (λ (z : List ℕ). Some z) (sym ((is_same octets l.tpdu).0 e))

pub last_isn't : (octets : List ℕ) (o : Option LastAccepted) → is_double octets o ≡ false → octets_at o ≡ Some (compared octets) → ⊥
last_isn't octets None e g = absurd cc
last_isn't octets (Some l) e g = both_ways (same_message octets l.tpdu) e ((is_same octets l.tpdu).1 (sym (same_Some (compared l.tpdu) (compared octets) g)))

-- ---- the last accepted

pub last_taken : (h : List ℕ) (r : ℕ) (octets : List ℕ) (last : List LastAccepted) (accepted : List Accepted) → RefinesLast h last accepted
    → RefinesLast h (put_row last_key (record { reference = r; tpdu = octets }) last) (pair h r octets ∷ accepted)
last_taken h r octets last accepted refines q o =
    let l : LastAccepted = record { reference = r; tpdu = octets } in
    let p : Accepted = record { handset = h; reference = q; tpdu = o } in
    ⊎_elim
    (λ (e : r ≡ q).
    let here : octets_at (row_at last_key q (put_row last_key l last)) ≡ Some (compared octets) =
    ap octets_at (ap (λ (z : ℕ). row_at last_key z (put_row last_key l last)) (sym e) ∙ row_at_put last_key l last) in (
      (λ g. let x : compared octets ≡ o = same_Some (compared octets) o (sym here ∙ g) in inl (λ j. record { handset = h; reference = sym e j; tpdu = sym x j })),
      (λ g. ⊎_elim
          (λ (x : p ≡ pair h r octets). here ∙ ap (λ (z : Accepted). Some z.tpdu) (sym x))
          (λ (x : ¬ ((h ≡ h) × (q ≡ r)) × IsLast p accepted). absurd (x.0 (refl, sym e))) g),
    ))
    (λ (n : r ≡ q → ⊥).
    let there : octets_at (row_at last_key q (put_row last_key l last)) ≡ octets_at (row_at last_key q last) = ap octets_at (row_at_put_other last_key q l last n) in (
      (λ g. inr ((λ same. n (sym same.1)), (refines q o).0 (sym there ∙ g))),
      (λ g. ⊎_elim
          (λ (x : p ≡ pair h r octets). absurd (n (sym (ap (λ (z : Accepted). z.reference) x))))
          (λ (x : ¬ ((h ≡ h) × (q ≡ r)) × IsLast p accepted). there ∙ (refines q o).1 x.1) g),
    ))
    (cases_eq r q)

-- ---- the steps

-- a unit from the centre that waits for its answer in that transaction
pub record AwaitsAnswer (h : List ℕ) (number r : ℕ) (tag : Holder) (octets : List ℕ) (d : Draft) (w : World) : Type 0 where
  pub sent : Among (Carried (frame_of h number r octets tag)) w.bag
  pub opening : Opened
  pub awaits : Awaits d.links opening

pub refuses : (m : ℕ) (h : List ℕ) (number r failure : ℕ) (cause : RpCause) (tag : Holder) (octets : List ℕ) (b : World) (d : Draft) (w : World) → IsRpCause cause
    → AwaitsAnswer h number r tag octets d w → ¬ IsLast (pair h r octets) w.accepted → Refines h b d w → ReadsOne m (frame_of h number r octets tag) h b (refuse r tag cause failure d) w
refuses m h number r failure cause tag octets b d w i c new s = (
  Refuse (frame_of h number r octets tag),
  [],
  (refl, refl, tt, (((c.sent, refl, refl), new), tt), replies Error r tag (error_up r cause (Some (0 ∷ failure ∷ 0 ∷ []))) h b d w c.opening (error_answers r cause failure i) c.awaits s),
)

pub doubles : (m : ℕ) (h : List ℕ) (number r : ℕ) (tag : Holder) (octets : List ℕ) (b : World) (d : Draft) (w : World)
    → AwaitsAnswer h number r tag octets d w → IsLast (pair h r octets) w.accepted → Refines h b d w → ReadsOne m (frame_of h number r octets tag) h b (acknowledge r tag d) w
doubles m h number r tag octets b d w c old s = (
  Take_again (frame_of h number r octets tag),
  [],
  (refl, refl, tt, (((c.sent, refl, refl), old), tt), replies Ack r tag (ack_up r (Some (0 ∷ 0 ∷ []))) h b d w c.opening (ack_answers r) c.awaits s),
)

-- what was stored shows the world in which the TPDU is accepted
pub takes : (m : ℕ) (h : List ℕ) (number r : ℕ) (tag : Holder) (octets : List ℕ) (b : World) (e : Draft) (w : World)
    → AwaitsAnswer h number r tag octets e w → ¬ IsLast (pair h r octets) w.accepted
    → Refines h b (put_last (record { reference = r; tpdu = octets }) e) (record w { accepted = pair h r octets ∷ w.accepted })
    → ReadsOne m (frame_of h number r octets tag) h b (accept r tag octets e) w
takes m h number r tag octets b e w c new s = (
  Take (frame_of h number r octets tag),
  [],
  (
    refl,
    refl,
    tt,
    (((c.sent, refl, refl), new), tt),
    replies Ack r tag (ack_up r (Some (0 ∷ 0 ∷ []))) h b (put_last (record { reference = r; tpdu = octets }) e) (record w { accepted = pair h r octets ∷ w.accepted })
        c.opening (ack_answers r) c.awaits s,
  ),
)

-- the same, where a group ends and is joined
pub takes_and_joins : (m : ℕ) (h : List ℕ) (number r : ℕ) (tag : Holder) (octets : List ℕ) (b : World) (e : Draft) (w : World) (j : Joined) → j.handset ≡ h
    → AwaitsAnswer h number r tag octets e w → ¬ IsLast (pair h r octets) w.accepted
    → IsEndedAt j.place j.group (groups_of j.handset j.key (pair h r octets ∷ w.accepted)).ended → HasNotJoined w.joined j.handset j.key j.place → joined_content j.key.total j.group ≡ Some j.content
    → Refines h b (put_last (record { reference = r; tpdu = octets }) e) (record w { accepted = pair h r octets ∷ w.accepted; joined = j ∷ w.joined })
    → ReadsOne m (frame_of h number r octets tag) h b (accept r tag octets e) w
takes_and_joins m h number r tag octets b e w j mine c new ended fresh content s = (
  Take (frame_of h number r octets tag),
  Join j ∷ [],
  (
    refl,
    refl,
    (tt, mine, tt),
    (((c.sent, refl, refl), new), ((ended, fresh, content), tt)),
    replies Ack r tag (ack_up r (Some (0 ∷ 0 ∷ []))) h b (put_last (record { reference = r; tpdu = octets }) e)
        (record w { accepted = pair h r octets ∷ w.accepted; joined = j ∷ w.joined }) c.opening (ack_answers r) c.awaits s,
  ),
)

-- ---- what storing leaves

-- the draft with other rows
abbrev pub with_rows : Draft → List Entry → List DiscardedGroup → List OutRow → Counters → Changes → Draft
with_rows d entries marks outbox counters changes =
    record d { rows = record d.rows { entries = entries; marks = marks; outbox = outbox; counters = counters }; changes = changes }

pub used_more : (h : List ℕ) (next more : ℕ) (outbox : List OutRow) (entries : List OutEntry) (up : List Allocation) → next ≤ more → RefinesOut h next outbox entries up → RefinesOut h more outbox entries up
used_more h next more outbox entries up le s = record {
  there = s.there;
  only = s.only;
  given = s.given;
  same = s.same;
  used = λ n g i a e. let x : n < next = s.used n g i a e in omega arith;
}

-- the new pair is the last
pub taken : (h : List ℕ) (r : ℕ) (octets : List ℕ) (b : World) (d : Draft) (w : World) (entries : List Entry) (marks : List DiscardedGroup) (outbox : List OutRow) (counters : Counters) (changes : Changes) (joined : List Joined)
    → counters.notice ≡ d.rows.counters.notice → changes.last ≡ d.changes.last → joined_at h joined ≡ joined_by changes.entries (joined_at h b.joined) → RefinesOut h counters.entry outbox w.outbox w.up → RefinesGroups h entries marks (pair h r octets ∷ w.accepted) joined → Refines h b d w
    → Refines h b (put_last (record { reference = r; tpdu = octets }) (with_rows d entries marks outbox counters changes)) (record w { accepted = pair h r octets ∷ w.accepted; joined = joined })
taken h r octets b d w entries marks outbox counters changes joined n same joins out g s = record {
  frames = s.frames;
  accepted = accepted_here h (pair h r octets) w.accepted refl ∙ ap (λ (z : List Accepted). pair h r octets ∷ z) s.accepted
      ∙ ap (λ (z : List (Change LastAccepted)). pair h r octets ∷ taken_by h z (accepted_at h b.accepted)) (sym same)
      ∙ sym (taken_push h changes.last (Put (record { reference = r; tpdu = octets })) (accepted_at h b.accepted));
  joined = joins;
  whole = s.whole;
  links = s.links;
  last = last_taken h r octets d.rows.last w.accepted s.last;
  out = out;
  notices = subst (λ (z : ℕ). RefinesNotices h z d.notices w.up) (sym n) s.notices;
  groups = g;
}
