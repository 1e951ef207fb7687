-- A frame of the centre's line that is decided timely is so in the world.
use Rattle.std.proofs.Common.{◌≡◌, ℕ, List, [], ◌∷◌, true, false, refl, sym, ◌∙◌, ap, subst, inl, inr, ⊎_elim, Option, Some, None}
use Rattle.std.specs.Prelude.{◌⊎◌, ◌==◌}
use Rattle.std.proofs.lemmas.Bool.{both_ways, cases_Bool, cond-false, cond-true, eq-eqb}
use Rattle.sms_base.specs.Among.{Among}
use Rattle.sms_base.specs.declared.carried.Carried.{Carried as Carries}
use Rattle.sms_base.specs.declared.carried.Kind.{Kind}
use Rattle.sms_base.specs.declared.carried.Kind.TheVariants.{Data, Ack, Error}
use Rattle.sms_script.specs.declared.report.rows.Direction.{Direction}
use Rattle.sms_script.specs.declared.report.rows.Direction.TheVariants.{Up as UpRow, Down as DownRow}
use Rattle.sms_script.specs.declared.report.rows.FrameRow.{FrameRow}
use Rattle.sms_script.specs.declared.event.Act.{Act}
use Rattle.sms_script.specs.declared.event.Act.TheVariants.{Submit, Query, Cancel, Write, Delete, Discard, Deliver, Tick}
use Rattle.sms_script.specs.declared.event.EventSide.TheVariants.{Centre, Handset}
use Rattle.sms_script.specs.declared.event.WorldEvent.{WorldEvent}
use Rattle.sms_script.specs.declared.event.WorldEvent.TheVariants.{Whole, Stopped, Restart}
use Rattle.sms_play.specs.PlayState.{PlayState, frame_at}
use Rattle.sms_play.specs.Premises.{giver, hands_timely, is_held_by, is_timely, is_timely_at, is_timely_event, last_holder}
use Rattle.sms_world.proofs.premises_are_decided.TimelyFrames.{held_is}
use Rattle.sms_world_model.specs.ScriptRun.{Handed}
use Rattle.sms_world_model.specs.Premises.{IsTimely, allocations}
use Rattle.sms_world_model.specs.World.{Carried, Down, Frame, Allocation, IsLatest, Line, Sent, Up, World, empty}
use Rattle.sms_world.specs.headline.SeenFrames.{frame_down, line_down, line_up}
use Rattle.sms_world.specs.frames_pass_between_sides.Between.{frame_up}
use Rattle.sms_world_model.proofs.Frames.{Numbered, numbered_run, number_sent, one_number}
use Rattle.sms_world.specs.scripts_are_runs.PlayRefinement.{PlayRefines}
use Rattle.sms_world.specs.headline.SeenWorld.{all_seen, sent_by, sent_row}
use Rattle.sms_world.specs.headline.OneRun.{event_of, happening_of}
use Rattle.sms_world.proofs.scripts_are_runs.Bags.{frame_found, row_seen}
use Rattle.sms_world.specs.scripts_are_runs.AllocationLaws.{IsReached}
use Rattle.sms_world.proofs.scripts_are_runs.Latest.{latest_is}
use Rattle.sms_world.proofs.headline.FaithfulRuns.{HandsDown}

-- ---- a number names one frame

pub numbered_there : (w : World) → IsReached w → Numbered w.bag
numbered_there w (is, (run, at)) = subst (λ (v : World). Numbered v.bag) at (numbered_run empty is tt)

pub number_by : (d : Direction) (n : ℕ) (h octets : List ℕ) (o : Option Carries) → number_sent (sent_by d n h octets o) ≡ n
number_by UpRow n h octets None = refl
number_by UpRow n h octets (Some x) = refl
number_by DownRow n h octets None = refl
number_by DownRow n h octets (Some x) = refl

-- ---- the frame of a row

pub same_frame : (u v : Frame) → Carried u ≡ Carried v → u ≡ v
same_frame u v e = cc

-- the frame is that of the row, as far as it matters
pub record IsOfRow (u : Frame) (f : FrameRow) (x : Carries) : Type 0 where
  pub handset : u.handset ≡ f.handset
  pub reference : u.reference ≡ x.reference
  pub tag : u.tag ≡ x.tag

module _ (c : PlayState) (w : World) (s : PlayRefines c w) (u : Frame) (line : u.line ≡ Down) where
  down_allocations : (l : Line) → l ≡ Down → w.down ≡ allocations w l
  down_allocations l e = ap (λ (z : Line). allocations w z) (sym e)

  abbrev Held : FrameRow → Direction → Carries → Type 0
  Held f side x = is_held_by x.tag (last_holder None f.handset side x.reference c.given) ≡ true

  reported_down : (f : FrameRow) (x : Carries) → Held f DownRow x → IsOfRow u f x → IsTimely w u
  reported_down f x e k =
      let g = latest_is f.handset x.reference x.tag w.down (sym (s.down.last f.handset x.reference) ∙ held_is x.tag (last_holder None f.handset DownRow x.reference c.given) e) in
      (g.0, (subst (λ (gs : List Allocation). IsLatest g.0 gs) (down_allocations u.line line) g.1.0, g.1.1 ∙ sym k.handset, g.1.2 ∙ sym k.reference, g.1.3 ∙ sym k.tag))

  up_is : (f : FrameRow) (x : Carries) (k : Kind) → u.line ≡ line_up k → Held f (giver UpRow k) x → IsOfRow u f x → IsTimely w u
  up_is f x Data l e k = let bad : Up ≡ Down = sym l ∙ line in absurd cc
  up_is f x Ack l e k = reported_down f x e k
  up_is f x Error l e k = reported_down f x e k

  down_is : (f : FrameRow) (x : Carries) (k : Kind) → u.line ≡ line_down k → Held f (giver DownRow k) x → IsOfRow u f x → IsTimely w u
  down_is f x Data l e k = reported_down f x e k
  down_is f x Ack l e k = let bad : Up ≡ Down = sym l ∙ line in absurd cc
  down_is f x Error l e k = let bad : Up ≡ Down = sym l ∙ line in absurd cc

  by_row : (f : FrameRow) (d : Direction) (o : Option Carries) → sent_by d f.number f.handset f.octets o ≡ Carried u → ((x : Carries) → o ≡ Some x → Held f (giver d x.kind) x) → IsTimely w u
  by_row f UpRow None e t = absurd cc
  by_row f DownRow None e t = absurd cc
  by_row f UpRow (Some x) e t =
      let q : frame_up f.handset f.number f.octets x ≡ u = same_frame (frame_up f.handset f.number f.octets x) u e in
      up_is f x x.kind (ap (λ (z : Frame). z.line) (sym q)) (t x refl)
      (record { handset = ap (λ (z : Frame). z.handset) (sym q); reference = ap (λ (z : Frame). z.reference) (sym q); tag = ap (λ (z : Frame). z.tag) (sym q) })
  by_row f DownRow (Some x) e t =
      let q : frame_down f.handset f.number f.octets x ≡ u = same_frame (frame_down f.handset f.number f.octets x) u e in
      down_is f x x.kind (ap (λ (z : Frame). z.line) (sym q)) (t x refl)
      (record { handset = ap (λ (z : Frame). z.handset) (sym q); reference = ap (λ (z : Frame). z.reference) (sym q); tag = ap (λ (z : Frame). z.tag) (sym q) })

  held_by : (f : FrameRow) (o : Option Carries) → is_timely f o c.given ≡ true → (x : Carries) → o ≡ Some x → Held f (giver f.direction x.kind) x
  held_by f o e x q = ap (λ (z : Option Carries). is_timely f z c.given) (sym q) ∙ e

-- ---- the row of a frame

pub row_from : (newest : List Sent) (fs : List FrameRow) (x : Sent) → Among x (all_seen newest fs) → Among x newest ⊎ ((f : FrameRow) × (Among f fs × (sent_row f ≡ x)))
row_from newest [] x i = inl i
row_from newest (f ∷ fs) x i = ⊎_elim
    (λ (j : Among x (sent_row f ∷ newest)). ⊎_elim (λ (e : x ≡ sent_row f). inr (f, (inl refl, sym e))) (λ (k : Among x newest). inl k) j)
    (λ (y : (g : FrameRow) × (Among g fs × (sent_row g ≡ x))). inr (y.0, (inr y.1.0, y.1.1)))
    (row_from (sent_row f ∷ newest) fs x i)

pub none_found : (n : ℕ) (fs : List FrameRow) → frame_at n fs ≡ None → (f : FrameRow) → Among f fs → f.number ≡ n → ⊥
none_found n [] e f i q = i
none_found n (x ∷ xs) e f i q = ⊎_elim
    (λ (t : (x.number == n) ≡ true). let bad : Some x ≡ None = sym (cond-true (x.number == n) (Some x) (frame_at n xs) t) ∙ e in absurd cc)
    (λ (t : (x.number == n) ≡ false). ⊎_elim
    (λ (same : f ≡ x). both_ways (x.number == n) t (eq-eqb x.number n (ap (λ (z : FrameRow). z.number) (sym same) ∙ q)))
    (λ (j : Among f xs). none_found n xs (sym (cond-false (x.number == n) (Some x) (frame_at n xs) t) ∙ e) f j q)
    i)
    (cases_Bool (x.number == n))

module _ (c : PlayState) (w : World) (s : PlayRefines c w) (n : ℕ) where
  hands_at : (o : Option FrameRow) → frame_at n c.bag ≡ o → is_timely_at o c.given ≡ true → HandsDown w (Handed n)
  hands_at None e t u i q line = ⊎_elim
      (λ none. absurd none)
      (λ (y : (f : FrameRow) × (Among f c.bag × (sent_row f ≡ Carried u))).
      let own : y.0.number ≡ n = sym (number_by y.0.direction y.0.number y.0.handset y.0.octets y.0.carried) ∙ ap (λ (z : Sent). number_sent z) y.1.1 ∙ q in
      absurd (none_found n c.bag e y.0 y.1.0 own))
      (row_from [] c.bag (Carried u) (subst (λ (bag : List Sent). Among (Carried u) bag) s.bag i))
  hands_at (Some f) e t u i q line =
      let found = frame_found n c.bag f e in
      let there : Among (sent_row f) w.bag = subst (λ (bag : List Sent). Among (sent_row f) bag) (sym s.bag) (row_seen [] c.bag f found.0) in
      let number : number_sent (sent_row f) ≡ u.number = number_by f.direction f.number f.handset f.octets f.carried ∙ found.1 ∙ sym q in
      let same : sent_row f ≡ Carried u = one_number w.bag (sent_row f) (Carried u) (numbered_there w s.reached) there i number in
      by_row c w s u line f f.direction f.carried same (held_by c w s u line f f.carried t)

hands_act : (act : Act) (c : PlayState) (w : World) → PlayRefines c w → hands_timely act c ≡ true → HandsDown w (event_of act)
hands_act (Submit x) c w s e = tt
hands_act (Query name id) c w s e = tt
hands_act (Cancel name id) c w s e = tt
hands_act (Write h to report text) c w s e = tt
hands_act (Delete h entry) c w s e = tt
hands_act (Discard h entry) c w s e = tt
hands_act (Deliver n) c w s e = hands_at c w s n (frame_at n c.bag) refl e
hands_act (Tick Centre now) c w s e = tt
hands_act (Tick (Handset h) now) c w s e = tt

pub hands_down : (e : WorldEvent) (c : PlayState) (w : World) (m : ℕ) → PlayRefines c w → is_timely_event e c ≡ true → HandsDown w (happening_of e m).event
hands_down (Whole act) c w m s e = hands_act act c w s e
hands_down (Stopped stop act) c w m s e = hands_act act c w s e
hands_down (Restart side) c w m s e = tt
