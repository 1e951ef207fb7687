-- An event of a handset, in a course: it is steps of the world, and the course after it sees where they lead.
use Rattle.std.proofs.Common.{◌≡◌, ℕ, List, [], ◌∷◌, ◌++◌, Bool, true, false, refl, sym, ◌∙◌, ap, subst, inl, ⊎_elim, Option, Some, None, Result, Ok, Err}
use Rattle.sms_base.specs.Among.{Among}
use Rattle.sms_base.specs.declared.carried.Carried.{Carried}
use Rattle.sms_base.specs.declared.carried.Kind.{Kind}
use Rattle.sms_base.specs.declared.carried.Kind.TheVariants.{Data, Ack, Error}
use Rattle.sms_base.specs.declared.holder.Holder.{Holder}
use Rattle.sms_base.specs.declared.holder.Holder.TheVariants.{Part, Report, Entry, Memory}
use Rattle.sms_link.specs.declared.outgoing.Outgoing.{Outgoing}
use Rattle.sms_handset_rows.specs.declared.outbox.out_entry.OutEntry.{OutEntry}
use Rattle.sms_handset_rows.specs.outbox.Keys.{out_key}
use Rattle.sms_script.specs.declared.report.rows.Direction.TheVariants.{Up}
use Rattle.sms_script.specs.declared.report.rows.GivenRow.{GivenRow}
use Rattle.sms_rows.specs.declared.table.change.Change.{Change}
use Rattle.sms_rows.specs.declared.table.change.Change.TheVariants.{Put, Remove}
use Rattle.sms_rows.specs.table.Table.{put, row_at, without}
use Rattle.sms_world.specs.headline.SeenWorld.{AgreesDown, JoinedText, accepted_at, joined_at, rows_joined}
use Rattle.sms_world.proofs.scripts_are_runs.Latest.{AllUp, agrees_still}
use Rattle.sms_world.proofs.scripts_are_runs.Agreeing.{goes_on}
use Rattle.sms_world_model.proofs.Apart.{handset_leaves_centre}
use Rattle.std.specs.Prelude.{if◌then◌else◌, is_some, nat_le}
use Rattle.std.proofs.lemmas.Bool.{cond_both}
use Rattle.sms_script.specs.declared.report.answers.Answered.{Answered}
use Rattle.sms_script.specs.declared.report.answers.Answered.TheVariants.{Done, Refused}
use Rattle.sms_script.specs.declared.report.rows.JoinedRow.{JoinedRow}
use Rattle.sms_centre_spec.specs.SoundCore.{AreDifferent}
use Rattle.sms_handset_draft.specs.Draft.{Core, Draft, draft_of, recovered}
use Rattle.sms_handset.specs.FaultCodes.{refusal_code}
use Rattle.sms_handset.specs.HandsetEvent.{tag_of}
use Rattle.sms_handset.specs.Planning.{OfFrame}
use Rattle.sms_handset.specs.SoundCore.{IsSoundCore}
use Rattle.sms_handset.specs.declared.event.HandsetEvent.{HandsetEvent}
use Rattle.sms_handset.specs.declared.event.HandsetEvent.TheVariants.{Frame, Tick, Write, Delete, Discard}
use Rattle.sms_handset.specs.declared.refusal.Refusal.{Refusal}
use Rattle.sms_handset.proofs.SoundActs.{SoundIfDone}
use Rattle.sms_handset.proofs.SoundDrafts.{SoundAt, sound_core}
use Rattle.sms_handset.proofs.SoundEvents.{deleted_sound, discarded_sound, frame_sound, tick_sound, wrote_sound}
use Rattle.sms_play.specs.PlayState.{PlayState, Party, answer, numbers_of, party_at, with_party}
use Rattle.sms_play.specs.HandsetSide.{carried_given, committed, data_given, done, entries_given, entry_given, given_by, handset_meets, happened, joined_in, memories_given, memory_given, party_after, with_answer, whole}
use Rattle.sms_play.specs.PlayedEvent.{handset_stored, handset_restarted, party_restarted}
use Rattle.sms_play.specs.Premises.{pairs_of}
use Rattle.sms_world_model.specs.WorldStep.{Run, after_item, end, Step}
use Rattle.sms_world_model.specs.ScriptRun.{Event, IsPlayed, Removed, Wrote, items}
use Rattle.sms_world_model.specs.Sides.{AllOfHandset}
use Rattle.sms_world_model.specs.World.{Accepted, Allocation, Sent, World}
use Rattle.sms_world.specs.frames_pass_between_sides.FramesDown.{IsHanded}
use Rattle.sms_world.specs.frames_pass_between_sides.FramesUp.{stacked}
use Rattle.sms_world.proofs.centres_refine_the_world.Staying.{handset_stays}
use Rattle.sms_world.specs.handset_runs_are_steps.EventLaws.{IfDone}
use Rattle.sms_world.specs.handset_runs_are_steps.PlanLaws.{event_seen}
use Rattle.sms_world.specs.handset_runs_are_steps.PutInOrder.{joined_by, taken_by}
use Rattle.sms_world.specs.handset_runs_are_steps.Refinement.{Refines}
use Rattle.sms_world.specs.handset_runs_are_steps.Stages.{Happens}
use Rattle.sms_world.proofs.handset_runs_are_steps.HandsetEvents.{frame_event, seen_next}
use Rattle.sms_world.proofs.handset_runs_are_steps.Others.{other_event}
use Rattle.sms_world.proofs.handset_runs_are_steps.OwnersEvents.{delete_event, discard_event}
use Rattle.sms_world.proofs.handset_runs_are_steps.Restarts.{stopped_seen}
use Rattle.sms_world.proofs.handset_runs_are_steps.Ticks.{tick_event}
use Rattle.sms_world.proofs.handset_runs_are_steps.WriteEvents.{write_event}
use Rattle.sms_world.specs.scripts_are_runs.PlayRefinement.{PlayRefines, OwnAllocations, PartyRefines}
use Rattle.sms_world.proofs.scripts_are_runs.HandsetGives.{GivesOn, gives_on}
use Rattle.sms_world_model.proofs.Stops.{stopped_so}
use Rattle.sms_world.proofs.scripts_are_runs.Bags.{up_rows, up_stacked}
use Rattle.sms_world.proofs.scripts_are_runs.Parties.{party_found, with_among, with_found}
use Rattle.sms_world.proofs.scripts_are_runs.PutRows.{pairs_more, rows_more}
use Rattle.sms_world.proofs.handset_runs_are_steps.Runs.{recovered_sound}
use Rattle.sms_player.proofs.playing.Placed.{numbers_preserved}

-- the event is steps, whole or stopped, to a world that the course sees
abbrev pub EventIsSteps : Event → ℕ → Bool → World → PlayState → Type 0
EventIsSteps event m b w d = (steps : List Step) × (IsPlayed w event steps × Run w (items m b steps) × PlayRefines d (end w (items m b steps)))

-- ---- what was answered the world doesn't show

pub answer_refines : (n : ℕ) (a : Answered) (c : PlayState) (w : World) → PlayRefines c w → PlayRefines (answer n a c) w
answer_refines n a c w s = record { sound = s.sound; offered = s.offered; centre = s.centre; parties = s.parties; apart = s.apart; bag = s.bag; sent = s.sent; reached = s.reached; down = s.down; up = s.up; own = s.own }

-- ---- a stopped event sends nothing

pub stopped_bag : (w : World) (m : ℕ) (steps : List Step) → (end w (items m true steps)).bag ≡ w.bag
stopped_bag w m [] = refl
stopped_bag w m (x ∷ xs) = stopped_bag (after_item w (record { step = x; moment = m; stopped = true })) m xs

-- ---- soundness

sound_if : (e : HandsetEvent) (c : Core) → IsSoundCore c → SoundIfDone (happened e c)
sound_if (Frame octets tag) c s = frame_sound octets (tag_of tag) c s
sound_if (Tick now) c s = tick_sound now c s
sound_if (Write text to report) c s = wrote_sound text to report c s
sound_if (Delete entry) c s = deleted_sound entry c s
sound_if (Discard entry) c s = discarded_sound entry c s

happens_if : (m : ℕ) (h : List ℕ) (number : ℕ) (e : HandsetEvent) (c : Core) (w : World) → IsSoundCore c → Refines h w (draft_of c) w → OfFrame e (λ octets tag. IsHanded h number octets (tag_of tag) w)
    → IfDone (λ (d : Draft). Happens m (event_seen number e) h w d w) (happened e c)
happens_if m h number (Frame octets tag) c w sound k i = frame_event m h number octets (tag_of tag) c w sound k i
happens_if m h number (Tick now) c w sound k i = tick_event m h now c w sound k
happens_if m h number (Write text to report) c w sound k i = write_event m h text to report c w sound k
happens_if m h number (Delete entry) c w sound k i = delete_event m h entry c w sound k
happens_if m h number (Discard entry) c w sound k i = discard_event m h entry c w sound k

-- an act that is refused is no step
nothing_played : (number : ℕ) (e : HandsetEvent) (c : Core) (w : World) (refusal : Refusal) → happened e c ≡ Err refusal → IsPlayed w (event_seen number e) []
nothing_played number (Frame octets tag) c w refusal q = absurd cc
nothing_played number (Tick now) c w refusal q = absurd cc
nothing_played number (Write text to report) c w refusal q = ([], [], [], (tt, tt, tt, refl))
nothing_played number (Delete entry) c w refusal q = ([], [], [], (tt, inl refl, tt, refl))
nothing_played number (Discard entry) c w refusal q = ([], [], [], (tt, inl refl, tt, refl))

-- ---- what a handset gives it gives on its own line

up_both : (xs ys : List GivenRow) → AllUp xs → AllUp ys → AllUp (xs ++ ys)
up_both [] ys a b = b
up_both (x ∷ xs) ys a b = (a.0, a.1, up_both xs ys a.2 b)

entries_up : (h : List ℕ) (moment : ℕ) (outbox : List OutEntry) (cs : List (Change OutEntry)) → AllUp (entries_given h moment outbox cs)
entries_up h moment outbox [] = tt
entries_up h moment outbox (Put o ∷ cs) =
    up_both (if is_some (row_at out_key o.number outbox) then [] else entry_given h moment o) (entries_given h moment (put out_key o outbox) cs)
    (cond_both (is_some (row_at out_key o.number outbox)) [] (entry_given h moment o) (λ (rows : List GivenRow). AllUp rows) (λ t. tt) (λ t. (refl, tt, tt)))
    (entries_up h moment (put out_key o outbox) cs)
entries_up h moment outbox (Remove key ∷ cs) = entries_up h moment (without out_key key outbox) cs

memory_up : (h : List ℕ) (moment next reference : ℕ) (tag : Holder) → AllUp (memory_given h moment next reference tag)
memory_up h moment next reference (Part id number) = tt
memory_up h moment next reference (Report id) = tt
memory_up h moment next reference (Entry n) = tt
memory_up h moment next reference (Memory n) =
    cond_both (nat_le next n) (record { handset = h; direction = Up; reference = reference; holder = Memory n; moment = moment } ∷ []) [] (λ (rows : List GivenRow). AllUp rows) (λ t. (refl, tt, tt)) (λ t. tt)

data_up : (h : List ℕ) (moment next reference : ℕ) (tag : Holder) (k : Kind) → AllUp (data_given h moment next reference tag k)
data_up h moment next reference tag Data = memory_up h moment next reference tag
data_up h moment next reference tag Ack = tt
data_up h moment next reference tag Error = tt

carried_up : (h : List ℕ) (moment next : ℕ) (o : Option Carried) → AllUp (carried_given h moment next o)
carried_up h moment next None = tt
carried_up h moment next (Some x) = data_up h moment next x.reference x.tag x.kind

memories_up : (h : List ℕ) (moment next : ℕ) (fs : List Outgoing) → AllUp (memories_given h moment next fs)
memories_up h moment next [] = tt
memories_up h moment next (f ∷ fs) =
    up_both (if f.is_copy then [] else carried_given h moment next f.carried) (memories_given h moment next fs)
    (cond_both f.is_copy [] (carried_given h moment next f.carried) (λ (rows : List GivenRow). AllUp rows) (λ t. tt) (λ t. carried_up h moment next f.carried))
    (memories_up h moment next fs)

all_up : (p : Party) (d : Draft) → AllUp (given_by p d)
all_up p d =
    up_both (entries_given p.number d.moment p.core.rows.outbox d.changes.outbox) (memories_given p.number d.moment p.core.rows.counters.notice d.frames)
    (entries_up p.number d.moment p.core.rows.outbox d.changes.outbox) (memories_up p.number d.moment p.core.rows.counters.notice d.frames)

-- ---- one handset's steps, in a course

module _ (c : PlayState) (w : World) (s : PlayRefines c w) (p : Party) (there : Among p c.parties) where
  mine : PartyRefines p w
  mine = s.parties p there

  other_party : (m : ℕ) (b : Bool) (steps : List Step) → AllOfHandset p.number steps → (q : Party) → PartyRefines q w → ¬ (p.number ≡ q.number) → PartyRefines q (end w (items m b steps))
  other_party m b steps own q k ne =
      let x = other_event q.number p.number q.core w m b steps ne own k.refines in
      record {
        number = k.number;
        sound = k.sound;
        refines = x.0;
        accepted = x.1.accepted ∙ k.accepted;
        joined = k.joined ∙ ap (λ (js : List JoinedText). rows_joined q.number js) (sym x.1.joined);
      }

  all_parties : (m : ℕ) (b : Bool) (steps : List Step) → AllOfHandset p.number steps → (z : Party) → z.number ≡ p.number → PartyRefines z (end w (items m b steps))
      → (q : Party) → Among q (with_party z c.parties) → PartyRefines q (end w (items m b steps))
  all_parties m b steps own z e k q i = ⊎_elim
      (λ (same : q ≡ z). subst (λ (x : Party). PartyRefines x (end w (items m b steps))) (sym same) k)
      (λ (a : Among q c.parties × ¬ (z.number ≡ q.number)). other_party m b steps own q (s.parties q a.0) (λ y. a.1 (e ∙ y)))
      (with_among z c.parties s.apart q i)

  still_apart : (z : Party) → AreDifferent (numbers_of (with_party z c.parties))
  still_apart z = subst (λ (ns : List (List ℕ)). AreDifferent ns) (sym (numbers_preserved z c.parties)) s.apart

  -- ---- whole

  -- what came of the event puts rows into what was collected
  accepted_now : (d : Draft) (v : World) → accepted_at p.number v.accepted ≡ taken_by p.number d.changes.last (accepted_at p.number w.accepted)
      → accepted_at p.number v.accepted ≡ pairs_of [] (party_after p d).accepted
  accepted_now d v e =
      e ∙ ap (λ (ps : List Accepted). taken_by p.number d.changes.last ps) mine.accepted ∙ sym (pairs_more p.number d.changes.last p.accepted [])

  joined_now : (d : Draft) (v : World) → joined_at p.number v.joined ≡ joined_by d.changes.entries (joined_at p.number w.joined)
      → (party_after p d).joined ≡ rows_joined p.number (joined_at p.number v.joined)
  joined_now d v e =
      ap (λ (rows : List JoinedRow). rows ++ joined_in p.number d.changes.entries) mine.joined
      ∙ sym (rows_more p.number d.changes.entries (joined_at p.number w.joined))
      ∙ ap (λ (js : List JoinedText). rows_joined p.number js) (sym e)

  -- a handset gives none of the centre's references
  still_reported : (d : Draft) (m : ℕ) (b : Bool) (steps : List Step) → AllOfHandset p.number steps → AgreesDown (c.given ++ given_by p d) (end w (items m b steps)).down
  still_reported d m b steps own =
      subst (λ (ds : List Allocation). AgreesDown (c.given ++ given_by p d) ds) (sym (handset_leaves_centre p.number w m b steps own).down)
      (agrees_still c.given (given_by p d) w.down s.down (all_up p d))

  -- each handset of the course has its allocations
  all_own : (d : Draft) (up : List Allocation) → GivesOn c p d up → (z : Party) → z.number ≡ p.number → OwnAllocations z (c.given ++ given_by p d) up
      → (q : Party) → Among q (with_party z c.parties) → OwnAllocations q (c.given ++ given_by p d) up
  all_own d up gives z e k q i = ⊎_elim
      (λ (same : q ≡ z). subst (λ (x : Party). OwnAllocations x (c.given ++ given_by p d) up) (sym same) k)
      (λ (a : Among q c.parties × ¬ (z.number ≡ q.number)). gives.others q a.0 (λ y. a.1 (e ∙ y)))
      (with_among z c.parties s.apart q i)

  done_refines : (m number : ℕ) (e : HandsetEvent) (d : Draft) → happened e p.core ≡ Ok d → SoundAt d → Happens m (event_seen number e) p.number w d w → EventIsSteps (event_seen number e) m false w (done p d c)
  done_refines m number e d q at x =
      let v : World = end w (items m false x.0) in
      let gives : GivesOn c p d v.up = gives_on c w s p there m number e d q x in
      let k : Refines p.number w d v = x.1.2 in (
        x.0,
        (
          x.1.0.0,
          x.1.1,
          record {
            sound = s.sound;
            offered = s.offered;
            centre = handset_stays p.number c.centre w m false x.0 x.1.0.1 s.centre;
            parties = all_parties m false x.0 x.1.0.1 (party_after p d) refl (record {
              number = mine.number;
              sound = sound_core d at;
              refines = seen_next p.number w d v k;
              accepted = accepted_now d v k.accepted;
              joined = joined_now d v k.joined;
            });
            apart = still_apart (party_after p d);
            bag = k.frames ∙ ap (λ (bag : List Sent). stacked p.number d.frames bag) s.bag ∙ sym (up_stacked p.number d.frames c.bag);
            sent = up_rows p.number mine.number d.frames c.bag k.whole s.sent;
            reached = goes_on w m false x.0 s.reached x.1.1;
            down = still_reported d m false x.0 x.1.0.1;
            up = gives.told;
            own = all_own d v.up gives (party_after p d) refl gives.own;
          },
        ),
      )

  whole_refines : (m number : ℕ) (e : HandsetEvent) (r : Result Draft Refusal) → happened e p.core ≡ r → SoundIfDone r → IfDone (λ (d : Draft). Happens m (event_seen number e) p.number w d w) r
      → EventIsSteps (event_seen number e) m false w (whole p r c)
  whole_refines m number e (Ok d) q at x = done_refines m number e d q at x
  whole_refines m number e (Err refusal) q at x = ([], (nothing_played number e p.core w refusal q, tt, s))

  reported_refines : (event : Event) (m n : ℕ) (b : Bool) (r : Result Draft Refusal) (d : PlayState) → EventIsSteps event m b w d → EventIsSteps event m b w (with_answer n r d)
  reported_refines event m n b (Ok x) d g = (g.0, (g.1.0, g.1.1, answer_refines n Done d (end w (items m b g.0)) g.1.2))
  reported_refines event m n b (Err refusal) d g = (g.0, (g.1.0, g.1.1, answer_refines n (Refused (refusal_code refusal)) d (end w (items m b g.0)) g.1.2))

  meets_as : (m n number : ℕ) (e : HandsetEvent) → EventIsSteps (event_seen number e) m false w (whole p (happened e p.core) c) → EventIsSteps (event_seen number e) m false w (handset_meets n p e c)
  meets_as m n number (Frame octets tag) g = g
  meets_as m n number (Tick now) g = g
  meets_as m n number (Write text to report) g = reported_refines Wrote m n false (happened (Write text to report) p.core) (whole p (happened (Write text to report) p.core) c) g
  meets_as m n number (Delete entry) g = reported_refines Removed m n false (happened (Delete entry) p.core) (whole p (happened (Delete entry) p.core) c) g
  meets_as m n number (Discard entry) g = reported_refines Removed m n false (happened (Discard entry) p.core) (whole p (happened (Discard entry) p.core) c) g

  pub handset_goes : (m n number : ℕ) (e : HandsetEvent) → OfFrame e (λ octets tag. IsHanded p.number number octets (tag_of tag) w) → EventIsSteps (event_seen number e) m false w (handset_meets n p e c)
  handset_goes m n number e i =
      meets_as m n number e
      (whole_refines m number e (happened e p.core) refl (sound_if e p.core mine.sound) (happens_if m p.number number e p.core w mine.sound mine.refines i))

  -- ---- a restart

  pub restart_refines : PlayRefines (party_restarted p c) w
  restart_refines =
      let z : Party = record p { core = recovered p.core.rows } in
      let k : PartyRefines z w = record {
        number = mine.number;
        sound = recovered_sound p.core.rows mine.sound.rows;
        refines = stopped_seen p.number w w.bag (draft_of p.core) p.core.rows.setup w mine.refines;
        accepted = mine.accepted;
        joined = mine.joined;
      } in
      record {
        sound = s.sound;
        offered = s.offered;
        centre = s.centre;
        parties = λ q i. ⊎_elim
            (λ (same : q ≡ z). subst (λ (x : Party). PartyRefines x w) (sym same) k)
            (λ (a : Among q c.parties × ¬ (z.number ≡ q.number)). s.parties q a.0)
            (with_among z c.parties s.apart q i);
        apart = still_apart z;
        bag = s.bag;
        sent = s.sent;
        reached = s.reached;
        down = s.down;
        up = s.up;
        own = λ q i. ⊎_elim
            (λ (same : q ≡ z). subst (λ (x : Party). OwnAllocations x c.given w.up) (sym same) (record { entries = (s.own p there).entries; notices = (s.own p there).notices }))
            (λ (a : Among q c.parties × ¬ (z.number ≡ q.number)). s.own q a.0)
            (with_among z c.parties s.apart q i);
      }

  -- ---- stopped behind the store call

  stop_refines : (m number : ℕ) (e : HandsetEvent) (d : Draft) → happened e p.core ≡ Ok d → SoundAt d → Happens m (event_seen number e) p.number w d w
      → EventIsSteps (event_seen number e) m true w (handset_restarted (party_at p.number (with_party (party_after p d) c.parties)) (committed p d c))
  stop_refines m number e d q at x =
      let y = stopped_so p.number w (event_seen number e) m x.0 x.1.0.0 x.1.0.1 x.1.1 in
      let u : World = end w (items m false x.0) in
      let v : World = end w (items m true y.0) in
      let own : AllOfHandset p.number y.0 = y.1.0.1 in
      let refines : Refines p.number w d u = x.1.2 in
      let gives : GivesOn c p d v.up = subst (λ (up : List Allocation). GivesOn c p d up) (ap (λ (a : World). a.up) (sym y.1.2)) (gives_on c w s p there m number e d q x) in
      let z : Party = party_after p d in
      let b : Party = record z { core = recovered z.core.rows } in
      let k : PartyRefines b v = record {
        number = mine.number;
        sound = recovered_sound d.rows (sound_core d at).rows;
        refines = subst (λ (a : World). Refines p.number a (draft_of (recovered d.rows)) a) (sym y.1.2) (stopped_seen p.number w w.bag d d.rows.setup u refines);
        accepted = accepted_now d v (ap (λ (a : World). accepted_at p.number a.accepted) y.1.2 ∙ refines.accepted);
        joined = joined_now d v (ap (λ (a : World). joined_at p.number a.joined) y.1.2 ∙ refines.joined);
      } in
      let is : PlayRefines (party_restarted z (committed p d c)) v = record {
        sound = s.sound;
        offered = s.offered;
        centre = handset_stays p.number c.centre w m true y.0 own s.centre;
        parties = λ f i. ⊎_elim
            (λ (same : f ≡ b). subst (λ (u : Party). PartyRefines u v) (sym same) k)
            (λ (a : Among f (with_party z c.parties) × ¬ (b.number ≡ f.number)). ⊎_elim
            (λ (same : f ≡ z). absurd (a.1 (sym (ap (λ (u : Party). u.number) same))))
            (λ (o : Among f c.parties × ¬ (z.number ≡ f.number)). other_party m true y.0 own f (s.parties f o.0) o.1)
            (with_among z c.parties s.apart f a.0))
            (with_among b (with_party z c.parties) (still_apart z) f i);
        apart = subst (λ (ns : List (List ℕ)). AreDifferent ns) (sym (numbers_preserved b (with_party z c.parties))) (still_apart z);
        bag = stopped_bag w m y.0 ∙ s.bag;
        sent = s.sent;
        reached = goes_on w m true y.0 s.reached y.1.1;
        down = still_reported d m true y.0 own;
        up = gives.told;
        own = λ f i. ⊎_elim
            (λ (same : f ≡ b). subst (λ (u : Party). OwnAllocations u (c.given ++ given_by p d) v.up) (sym same) (record { entries = gives.own.entries; notices = gives.own.notices }))
            (λ (a : Among f (with_party z c.parties) × ¬ (b.number ≡ f.number)). all_own d v.up gives z refl gives.own f a.0)
            (with_among b (with_party z c.parties) (still_apart z) f i);
      } in
      (y.0, (y.1.0.0, y.1.1, subst (λ (o : Option Party). PlayRefines (handset_restarted o (committed p d c)) v) (sym (with_found z c.parties p there refl)) is))

-- ---- by its number

pub restarted_refines : (c : PlayState) (w : World) → PlayRefines c w → (n : List ℕ) (o : Option Party) → party_at n c.parties ≡ o → PlayRefines (handset_restarted o c) w
restarted_refines c w s n None e = s
restarted_refines c w s n (Some p) e = restart_refines c w s p (party_found n c.parties p e).0

module _ (c : PlayState) (w : World) (s : PlayRefines c w) (p : Party) (there : Among p c.parties) where
  preserved_refines : (m number : ℕ) (e : HandsetEvent) (r : Result Draft Refusal) → happened e p.core ≡ r → SoundIfDone r → IfDone (λ (d : Draft). Happens m (event_seen number e) p.number w d w) r
      → EventIsSteps (event_seen number e) m true w (handset_restarted (party_at p.number (handset_stored p r c).parties) (handset_stored p r c))
  preserved_refines m number e (Ok d) q at x = stop_refines c w s p there m number e d q at x
  preserved_refines m number e (Err refusal) q at x = ([], (nothing_played number e p.core w refusal q, tt, restarted_refines c w s p.number (party_at p.number c.parties) refl))

  pub handset_stops : (m number : ℕ) (e : HandsetEvent) → OfFrame e (λ octets tag. IsHanded p.number number octets (tag_of tag) w)
      → EventIsSteps (event_seen number e) m true w (handset_restarted (party_at p.number (handset_stored p (happened e p.core) c).parties) (handset_stored p (happened e p.core) c))
  handset_stops m number e i =
      preserved_refines m number e (happened e p.core) refl (sound_if e p.core (s.parties p there).sound) (happens_if m p.number number e p.core w (s.parties p there).sound (s.parties p there).refines i)
