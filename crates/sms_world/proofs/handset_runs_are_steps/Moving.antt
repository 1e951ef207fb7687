-- Runs one after another, frames on top of frames, and what stays true while the bag grows.
use Rattle.std.proofs.Common.{◌≡◌, ℕ, ◌+◌, List, [], ◌∷◌, ◌++◌, false, refl, sym, ◌∙◌, ap, subst, inl, inr, Option, Some, None, length}
use Rattle.std.proofs.lemmas.List.{append_assoc}
use Rattle.sms_control.specs.declared.link_state.Answer.{Answer}
use Rattle.sms_control.specs.declared.link_state.Begun.{Begun}
use Rattle.sms_control.specs.declared.link_state.LinkState.{LinkState}
use Rattle.sms_control.specs.declared.link_state.Opened.{Opened}
use Rattle.sms_control.specs.declared.transaction.TransactionFlag.{TransactionFlag}
use Rattle.sms_control.specs.declared.transaction.TransactionFlag.TheVariants.{FromOriginator, ToOriginator}
use Rattle.sms_base.specs.declared.carried.Carried.{Carried as Carries}
use Rattle.sms_link.specs.declared.outgoing.Outgoing.{Outgoing}
use Rattle.sms_handset_draft.specs.Draft.{Draft}
use Rattle.sms_world.proofs.frames_pass_between_sides.RunsOn.{end_both, run_both}
use Rattle.sms_world_model.specs.World.{World, Sent}
use Rattle.sms_world_model.specs.WorldStep.{Step, Run, end}
use Rattle.sms_world_model.specs.ScriptRun.{items, Event, Follows, Handed, MayFollow, Removed, Tick_handset, Wrote, AllControl, AllMayFollow, IsOwn}
use Rattle.sms_world_model.specs.Sides.{AllOfHandset}
use Rattle.sms_world.specs.frames_pass_between_sides.FramesUp.{AreWhole, stacked}
use Rattle.sms_world.specs.headline.SeenFrames.{sent_as}
use Rattle.sms_world.specs.handset_runs_are_steps.RefinesLink.{RefinesAnswer, RefinesBegun, RefinesLinks, RefinesOpened, WasSent}
use Rattle.sms_world.specs.handset_runs_are_steps.Refinement.{Refines}
use Rattle.sms_world.specs.handset_runs_are_steps.Stages.{AllMine, Happens, Moves}

-- ---- steps of a handset

pub follow_both : (h : List ℕ) (xs ys : List Step) → AllMine h xs → AllMine h ys → AllMine h (xs ++ ys)
follow_both h [] ys f g = g
follow_both h (x ∷ xs) ys f g = (f.0, f.1, follow_both h xs ys f.2 g)

mine_follows : (h : List ℕ) (event : Event) (may : (s : Step) → Follows s → MayFollow event s) (xs : List Step) → AllMine h xs → AllMayFollow event xs
mine_follows h event may [] a = tt
mine_follows h event may (x ∷ xs) a = (may x a.0, mine_follows h event may xs a.2)

pub own_both : (h : List ℕ) (xs ys : List Step) → AllOfHandset h xs → AllOfHandset h ys → AllOfHandset h (xs ++ ys)
own_both h [] ys o a = a
own_both h (x ∷ xs) ys o a = (o.0, own_both h xs ys o.1 a)

mine_own : (h : List ℕ) (xs : List Step) → AllMine h xs → AllOfHandset h xs
mine_own h [] a = tt
mine_own h (x ∷ xs) a = (a.1, mine_own h xs a.2)

-- one stage after another
pub moves_then : (m : ℕ) (h : List ℕ) (b : World) (e f : Draft) (w : World)
    → Moves (AllMine h) m h b e w → ((v : World) → Refines h b e v → Moves (AllMine h) m h b f v) → Moves (AllMine h) m h b f w
moves_then m h b e f w (xs, (kx, rx, sx)) next =
    let y : Moves (AllMine h) m h b f (end w (items m false xs)) = next (end w (items m false xs)) sx in
    (xs ++ y.0, (follow_both h xs y.0 kx y.1.0, run_both m w xs y.0 rx y.1.1, subst (λ (v : World). Refines h b f v) (sym (end_both m w xs y.0)) y.1.2))

pub stays : (m : ℕ) (h : List ℕ) (b : World) (d : Draft) (w : World) → Refines h b d w → Moves (AllMine h) m h b d w
stays m h b d w s = ([], (tt, tt, s))

-- ---- the head of an event, and what follows

-- control frames, the event's own steps, then steps that follow; v is the world before the event
pub record Ordered (m : ℕ) (event : Event) (h : List ℕ) (b : World) (new : Draft) (w : World) : Type 0 where
  pub control : List Step
  pub own : List Step
  pub follows : List Step
  pub is_control : AllControl control
  pub control_mine : AllOfHandset h control
  pub is_own : IsOwn w event own
  pub own_mine : AllOfHandset h own
  pub is_mine : AllMine h follows
  pub runs : Run w (items m false (control ++ (own ++ follows)))
  pub refines : Refines h b new (end w (items m false (control ++ (own ++ follows))))

abbrev pub Begins : ℕ → Event → List ℕ → World → Draft → World → Type 0
Begins m event h b new w = Ordered m event h b new w

pub begins_then : (m : ℕ) (h : List ℕ) (event : Event) (b : World) (e f : Draft) (w : World)
    → Begins m event h b e w → ((v : World) → Refines h b e v → Moves (AllMine h) m h b f v) → Begins m event h b f w
begins_then m h event b e f w x next =
    let heads : List Step = x.control ++ (x.own ++ x.follows) in
    let y : Moves (AllMine h) m h b f (end w (items m false heads)) = next (end w (items m false heads)) x.refines in
    let q : heads ++ y.0 ≡ x.control ++ (x.own ++ (x.follows ++ y.0)) =
    append_assoc x.control (x.own ++ x.follows) y.0 ∙ ap (λ (z : List Step). x.control ++ z) (append_assoc x.own x.follows y.0) in
    record {
      control = x.control;
      own = x.own;
      follows = x.follows ++ y.0;
      is_control = x.is_control;
      control_mine = x.control_mine;
      is_own = x.is_own;
      own_mine = x.own_mine;
      is_mine = follow_both h x.follows y.0 x.is_mine y.1.0;
      runs = subst (λ (z : List Step). Run w (items m false z)) q (run_both m w heads y.0 x.runs y.1.1);
      refines = subst (λ (z : List Step). Refines h b f (end w (items m false z))) q (subst (λ (v : World). Refines h b f v) (sym (end_both m w heads y.0)) y.1.2);
    }

all_mine : (m : ℕ) (event : Event) (h : List ℕ) (b : World) (d : Draft) (w : World) (x : Ordered m event h b d w) → AllOfHandset h (x.control ++ (x.own ++ x.follows))
all_mine m event h b d w x = own_both h x.control (x.own ++ x.follows) x.control_mine (own_both h x.own x.follows x.own_mine (mine_own h x.follows x.is_mine))

-- an event whose head reads nothing
pub only_follows : (m : ℕ) (h : List ℕ) (n : ℕ) (b : World) (d : Draft) (w : World) → Moves (AllMine h) m h b d w → Begins m (Handed n) h b d w
only_follows m h n b d w (steps, (k, r, s)) =
    record { control = []; own = []; follows = steps; is_control = tt; control_mine = tt; is_own = inl refl; own_mine = tt; is_mine = k; runs = r; refines = s }

pub handed : (m : ℕ) (h : List ℕ) (n : ℕ) (b : World) (d : Draft) (w : World) → Begins m (Handed n) h b d w → Happens m (Handed n) h b d w
handed m h n b d w x =
    (x.control ++ (x.own ++ x.follows), (((x.control, x.own, x.follows, (x.is_control, x.is_own, mine_follows h (Handed n) (λ s y. y) x.follows x.is_mine, refl)), all_mine m (Handed n) h b d w x), x.runs, x.refines))

pub removes : (m : ℕ) (h : List ℕ) (b : World) (d : Draft) (w : World) → Begins m Removed h b d w → Happens m Removed h b d w
removes m h b d w x =
    (x.control ++ (x.own ++ x.follows), (((x.control, x.own, x.follows, (x.is_control, x.is_own, mine_follows h Removed (λ s y. y) x.follows x.is_mine, refl)), all_mine m Removed h b d w x), x.runs, x.refines))

pub writes : (m : ℕ) (h : List ℕ) (b : World) (d : Draft) (w : World) → Begins m Wrote h b d w → Happens m Wrote h b d w
writes m h b d w x =
    (x.control ++ (x.own ++ x.follows), (((x.control, x.own, x.follows, (x.is_control, x.is_own, mine_follows h Wrote (λ s y. y) x.follows x.is_mine, refl)), all_mine m Wrote h b d w x), x.runs, x.refines))

-- an event that is only steps that follow
pub ticks : (m : ℕ) (h : List ℕ) (b : World) (d : Draft) (w : World) → Moves (AllMine h) m h b d w → Happens m Tick_handset h b d w
ticks m h b d w (steps, (a, r, s)) = (steps, ((([], [], steps, (tt, refl, mine_follows h Tick_handset (λ s y. y) steps a, refl)), mine_own h steps a), r, s))

-- ---- frames

stacked_both : (h : List ℕ) (fs gs : List Outgoing) (b : List Sent) → stacked h (fs ++ gs) b ≡ stacked h gs (stacked h fs b)
stacked_both h [] gs b = refl
stacked_both h (f ∷ fs) gs b = stacked_both h fs gs (sent_as h (length b + 1) f.octets f.carried ∷ b)

pub frames_more : (h : List ℕ) (fs gs : List Outgoing) (b bag : List Sent) → bag ≡ stacked h fs b → stacked h gs bag ≡ stacked h (fs ++ gs) b
frames_more h fs gs b bag e = ap (λ (z : List Sent). stacked h gs z) e ∙ sym (stacked_both h fs gs b)

pub whole_both : (fs gs : List Outgoing) → AreWhole fs → AreWhole gs → AreWhole (fs ++ gs)
whole_both [] gs a b = b
whole_both (f ∷ fs) gs a b = (a.0, whole_both fs gs a.1 b)

-- ---- what links may send again stays sent

module _ (h : List ℕ) (x : Sent) (bag : List Sent) where
  sent_more : (flag : TransactionFlag) (octets : List ℕ) (c : Carries) → WasSent h bag flag octets c → WasSent h (x ∷ bag) flag octets c
  sent_more flag octets c s = (s.0, s.1, (s.2.0, inr s.2.1))

  answer_more : (answered : Option Carries) (a : Option Answer) → RefinesAnswer h bag answered a → RefinesAnswer h (x ∷ bag) answered a
  answer_more answered None s = tt
  answer_more answered (Some a) s = (s.0, (s.1.0, sent_more ToOriginator a.frame s.0 s.1.1))

  opened_more : (answered : Option Carries) (o : Option Opened) → RefinesOpened h bag answered o → RefinesOpened h (x ∷ bag) answered o
  opened_more answered None s = tt
  opened_more answered (Some o) s = (s.0, answer_more answered o.answer s.1)

  begun_more : (under_way : Option Carries) (o : Option Begun) → RefinesBegun h bag under_way o → RefinesBegun h (x ∷ bag) under_way o
  begun_more under_way None s = tt
  begun_more under_way (Some b) s = (s.0, (s.1.0, sent_more FromOriginator b.frame s.0 s.1.1))

  pub links_more : (l : LinkState) (under_way answered : Option Carries) → RefinesLinks h bag l under_way answered → RefinesLinks h (x ∷ bag) l under_way answered
  links_more l under_way answered s =
      record { next = s.next; opened = opened_more answered l.opened s.opened; begun = begun_more under_way l.begun s.begun }
