-- A restart leaves what the handset sees as it was: what is forgotten, the world doesn't show.
use Rattle.std.proofs.Common.{ℕ, ◌<◌, arith, List, [], false, refl, sym, subst}
use Rattle.sms_handset_draft.specs.declared.setup.Setup.{Setup}
use Rattle.sms_handset_draft.specs.Draft.{Core, Draft, draft_of, recovered}
use Rattle.sms_world_model.specs.World.{World, Sent, empty}
use Rattle.sms_handset_draft.specs.declared.counters.Counters.{Counters}
use Rattle.sms_world_model.specs.ScriptRun.{items, Restarted}
use Rattle.sms_world_model.specs.WorldStep.{end}
use Rattle.sms_world_model.proofs.Stops.{stopped_so}
use Rattle.sms_world.specs.handset_runs_are_steps.PutInOrder.{AreNoted}
use Rattle.sms_world.specs.handset_runs_are_steps.Refinement.{Refines}
use Rattle.sms_world.specs.handset_runs_are_steps.Stages.{Happens}
use Rattle.sms_world.specs.handset_runs_are_steps.StopLaws.{StopLaw}
use Rattle.sms_world.proofs.handset_runs_are_steps.Concluding.{no_notices}

pub restart_event : (m : ℕ) (h : List ℕ) (c : Core) (setup : Setup) (w : World) → Refines h w (draft_of c) w → Happens m Restarted h w (draft_of (recovered (record c.rows { setup = setup }))) w
restart_event m h c setup w s = (
  [],
  (
    (refl, tt),
    tt,
    record {
      frames = refl;
      whole = tt;
      links = record { next = (let l : 0 < 7 = omega arith in l); opened = tt; begun = tt };
      last = s.last;
      accepted = refl;
      joined = refl;
      out = s.out;
      notices = no_notices h c.rows.counters.notice c.notices w.up s.notices;
      groups = s.groups;
    },
  ),
)

-- An event that was stopped after its store call: the rows are those that it led to, none of its frames was sent, and what is forgotten comes anew.
pub stopped_seen : (h : List ℕ) (b : World) (bag : List Sent) (d : Draft) (setup : Setup) (w : World) → Refines h b d w
    → Refines h (record w { bag = bag }) (draft_of (recovered (record d.rows { setup = setup }))) (record w { bag = bag })
stopped_seen h b bag d setup w s = record {
  frames = refl;
  whole = tt;
  links = record { next = (let l : 0 < 7 = omega arith in l); opened = tt; begun = tt };
  last = s.last;
  accepted = refl;
  joined = refl;
  out = s.out;
  notices = no_notices h d.rows.counters.notice d.notices w.up s.notices;
  groups = s.groups;
}

pub stop_event : StopLaw
stop_event m event h d setup w (steps, (whose, run, refines)) =
    let y = stopped_so h w event m steps whose.0 whose.1 run in
    let x : World = end w (items m false steps) in (
      y.0,
      (
        y.1.0,
        y.1.1,
        subst (λ (v : World). Refines h v (draft_of (recovered (record d.rows { setup = setup }))) v) (sym y.1.2) (stopped_seen h w w.bag d setup x refines),
        subst (λ (v : World). AreNoted h d.changes w v) (sym y.1.2) (record { accepted = refines.accepted; joined = refines.joined }),
      ),
    )

-- A handset without rows sees the empty world.
pub start_seen : (h : List ℕ) (counters : Counters) (setup : Setup)
    → Refines h empty (draft_of (recovered (record { entries = []; last = []; outbox = []; marks = []; counters = counters; setup = setup }))) empty
start_seen h counters setup = record {
  frames = refl;
  whole = tt;
  links = record { next = (let l : 0 < 7 = omega arith in l); opened = tt; begun = tt };
  accepted = refl;
  joined = refl;
  last = λ r octets. ((λ q. absurd cc), (λ i. absurd i));
  out = record { there = λ n o q. absurd cc; only = λ e i a. absurd i; given = λ n o q. absurd cc; same = λ n o g q i a e. absurd i; used = λ n g i a e. absurd i };
  notices = record { given = λ n q. absurd q; used = λ n g i a e. absurd i };
  groups = record { keys = λ k. record { parts = λ n. refl; texts = λ q n. refl }; places = λ j i a. absurd i };
}
