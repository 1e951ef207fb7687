-- What another handset or the centre does leaves what a handset sees.
use Rattle.std.proofs.Common.{◌≡◌, ℕ, ◌<◌, List, [], ◌∷◌, Bool, true, false, refl, sym, subst, Option, Some, None, length}
use Rattle.sms_base.specs.Among.{Among}
use Rattle.sms_base.specs.declared.carried.Carried.{Carried as Carries}
use Rattle.sms_control.specs.declared.link_state.Answer.{Answer}
use Rattle.sms_control.specs.declared.link_state.Begun.{Begun}
use Rattle.sms_control.specs.declared.link_state.Opened.{Opened}
use Rattle.sms_control.specs.declared.transaction.TransactionFlag.TheVariants.{FromOriginator, ToOriginator}
use Rattle.sms_control.specs.declared.transaction.TransactionFlag.{TransactionFlag}
use Rattle.sms_handset_draft.specs.Draft.{Core, draft_of, no_changes}
use Rattle.sms_handset_rows.specs.inbox.Groups.{mark_of, members}
use Rattle.sms_world_model.specs.Groups.{Groups}
use Rattle.sms_world_model.specs.ScriptRun.{items}
use Rattle.sms_world_model.specs.Sides.{AllOfCentre, AllOfHandset, LeavesHandset}
use Rattle.sms_world_model.specs.WorldStep.{Step, after_item, end}
use Rattle.sms_world_model.specs.World.{World, Sent}
use Rattle.sms_world_model.proofs.Apart.{centre_leaves_handset, handset_leaves_handset}
use Rattle.sms_world_model.proofs.Runs.{bag_grows}
use Rattle.sms_world.proofs.handset_runs_are_steps.Putting.{centre_stays, others_stay}
use Rattle.sms_world.specs.handset_runs_are_steps.PutInOrder.{AreNoted}
use Rattle.sms_world.specs.handset_runs_are_steps.RefinesInbox.{Matches, key_seen}
use Rattle.sms_world.specs.handset_runs_are_steps.RefinesLink.{RefinesAnswer, RefinesBegun, RefinesOpened, WasSent}
use Rattle.sms_world.specs.handset_runs_are_steps.Refinement.{Refines}

-- frames only come
pub items_grow : (w : World) (m : ℕ) (b : Bool) (ss : List Step) (x : Sent) → Among x w.bag → Among x (end w (items m b ss)).bag
items_grow w m b [] x i = i
items_grow w m true (s ∷ ss) x i = items_grow (after_item w (record { step = s; moment = m; stopped = true })) m true ss x i
items_grow w m false (s ∷ ss) x i = items_grow (after_item w (record { step = s; moment = m; stopped = false })) m false ss x (bag_grows w m s x i)

-- ---- it leaves what is seen

module _ (h : List ℕ) (w v : World) (l : LeavesHandset h w v) (more : (x : Sent) → Among x w.bag → Among x v.bag) where
  sent_still : (flag : TransactionFlag) (octets : List ℕ) (c : Carries) → WasSent h w.bag flag octets c → WasSent h v.bag flag octets c
  sent_still flag octets c s = (s.0, s.1, (s.2.0, more _ s.2.1))

  answer_still : (answered : Option Carries) (a : Option Answer) → RefinesAnswer h w.bag answered a → RefinesAnswer h v.bag answered a
  answer_still answered None s = tt
  answer_still answered (Some a) s = (s.0, (s.1.0, sent_still ToOriginator a.frame s.0 s.1.1))

  opened_still : (answered : Option Carries) (o : Option Opened) → RefinesOpened h w.bag answered o → RefinesOpened h v.bag answered o
  opened_still answered None s = tt
  opened_still answered (Some o) s = (s.0, answer_still answered o.answer s.1)

  begun_still : (under_way : Option Carries) (o : Option Begun) → RefinesBegun h w.bag under_way o → RefinesBegun h v.bag under_way o
  begun_still under_way None s = tt
  begun_still under_way (Some b) s = (s.0, (s.1.0, sent_still FromOriginator b.frame s.0 s.1.1))

  pub still_seen : (c : Core) → Refines h w (draft_of c) w → Refines h v (draft_of c) v
  still_seen c s = record {
    frames = refl;
    whole = tt;
    links = record { next = s.links.next; opened = opened_still c.answered c.links.opened s.links.opened; begun = begun_still c.under_way c.links.begun s.links.begun };
    accepted = refl;
    joined = refl;
    last = λ r octets. ((λ q. l.last (record { handset = h; reference = r; tpdu = octets }) refl ((s.last r octets).0 q)), (λ i. (s.last r octets).1 (l.last_back (record { handset = h; reference = r; tpdu = octets }) refl i)));
    out = record {
      there = λ n o q. l.entry _ refl (s.out.there n o q);
      only = λ e i a. s.out.only e (l.entry_back e a i) a;
      given = λ n o q. let g = s.out.given n o q in (g.0, l.given _ refl g.1);
      same = λ n o g q i a e. s.out.same n o g q (l.given_back g a i) a e;
      used = λ n g i a e. s.out.used n g (l.given_back g a i) a e;
    };
    notices = record {
      given = λ n q. let g = s.notices.given n q in (g.0, l.given _ refl g.1);
      used = λ n g i a e. s.notices.used n g (l.given_back g a i) a e;
    };
    groups = record {
      keys = λ k. subst (λ (z : Groups). Matches (members k c.rows.entries) (mark_of k c.rows.marks) z) (sym (l.groups (key_seen k))) (s.groups.keys k);
      places = λ j i a. subst (λ (z : Groups). j.place < length z.ended) (sym (l.groups j.key)) (s.groups.places j (l.joined_back j a i) a);
    };
  }

-- ---- the steps of another handset, and those of the centre

-- a handset sees the world that another's event leads to, whole or stopped
pub other_event : (h g : List ℕ) (c : Core) (w : World) (m : ℕ) (b : Bool) (ss : List Step) → ¬ (g ≡ h) → AllOfHandset g ss → Refines h w (draft_of c) w
    → Refines h (end w (items m b ss)) (draft_of c) (end w (items m b ss)) × AreNoted h no_changes w (end w (items m b ss))
other_event h g c w m b ss ne o s =
    let y = others_stay h g w m b ss ne o in
    (still_seen h w (end w (items m b ss)) (handset_leaves_handset g h w m b ss ne o) (items_grow w m b ss) c s, record { accepted = y.0; joined = y.1 })

-- and that an event of the centre leads to
pub centre_event : (h : List ℕ) (c : Core) (w : World) (m : ℕ) (b : Bool) (ss : List Step) → AllOfCentre ss → Refines h w (draft_of c) w
    → Refines h (end w (items m b ss)) (draft_of c) (end w (items m b ss)) × AreNoted h no_changes w (end w (items m b ss))
centre_event h c w m b ss o s =
    let y = centre_stays h w m b ss o in
    (still_seen h w (end w (items m b ss)) (centre_leaves_handset h w m b ss o) (items_grow w m b ss) c s, record { accepted = y.0; joined = y.1 })
