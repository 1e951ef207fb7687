-- A frame that is handed over is timely in the world exactly where that is decided on the course.
use Rattle.sms_base.specs.Among.{Among}
use Rattle.sms_base.specs.declared.carried.Carried.{Carried as Carries}
use Rattle.sms_base.specs.declared.carried.Kind.{Kind}
use Rattle.sms_base.specs.declared.carried.Kind.TheVariants.{Ack, Data, Error}
use Rattle.sms_base.specs.declared.holder.Holder.{Holder}
use Rattle.sms_play.specs.PlayState.{PlayState, frame_at}
use Rattle.sms_play.specs.Premises.{giver, hands_timely, is_held_by, is_timely, is_timely_at, last_holder}
use Rattle.sms_script.specs.declared.event.Act.{Act}
use Rattle.sms_script.specs.declared.event.Act.TheVariants.{Cancel, Delete, Deliver, Discard, Query, Submit, Tick, Write}
use Rattle.sms_script.specs.declared.event.EventSide.TheVariants.{Centre, Handset}
use Rattle.sms_script.specs.declared.event.WorldEvent.TheVariants.{Restart, Stopped, Whole}
use Rattle.sms_script.specs.declared.report.rows.Direction.{Direction}
use Rattle.sms_script.specs.declared.report.rows.Direction.TheVariants.{Down as DownRow, Up as UpRow}
use Rattle.sms_script.specs.declared.report.rows.FrameRow.{FrameRow}
use Rattle.sms_world.proofs.headline.DecidedTimely.{IsOfRow, none_found, number_by, numbered_there, row_from, same_frame}
use Rattle.sms_world.proofs.premises_are_decided.TimelyFrames.{held_is, is_held}
use Rattle.sms_world.proofs.scripts_are_runs.Bags.{frame_found, row_seen}
use Rattle.sms_world.proofs.scripts_are_runs.Latest.{latest_is, named, names, names_it}
use Rattle.sms_world.specs.premises_are_decided.PremiseLaws.{TimelyLaw}
use Rattle.sms_world.specs.scripts_are_runs.PlayRefinement.{PlayRefines}
use Rattle.sms_world.specs.headline.SeenWorld.{sent_by, sent_row, latest_holder}
use Rattle.sms_world.specs.headline.OneRun.{event_of}
use Rattle.sms_world_model.specs.Premises.{HandsTimely, IsTimely, allocations}
use Rattle.sms_world_model.specs.ScriptRun.{Handed}
use Rattle.sms_world_model.specs.World.{Carried, Down, Frame, Allocation, IsLatest, Line, SameReference, Sent, Up, World}
use Rattle.sms_world.specs.headline.SeenFrames.{frame_down, line_down, line_up}
use Rattle.sms_world.specs.frames_pass_between_sides.Between.{frame_up}
use Rattle.std.proofs.Common.{ap, refl, subst, sym, ⊎_elim, ◌∙◌}
use Rattle.std.proofs.lemmas.Bool.{cases_Bool, cond-false, cond-true}
use Rattle.std.specs.Prelude.{List, None, Option, Some, [], false, true, ℕ, ◌↔◌, ◌∷◌, ◌≡◌}
use Rattle.sms_world_model.proofs.Frames.{number_sent, one_number}

-- ---- the latest giving

abbrev IsLastTo : List ℕ → ℕ → Holder → List Allocation → Type 0
IsLastTo h r k gs = (g : Allocation) × (IsLatest g gs × (g.handset ≡ h) × (g.reference ≡ r) × (g.holder ≡ k))

is_latest : (h : List ℕ) (r : ℕ) (k : Holder) (gs : List Allocation) → IsLastTo h r k gs → latest_holder h r gs ≡ Some k
is_latest h r k [] (x, y) = absurd y.0
is_latest h r k (g ∷ older) (x, y) = ⊎_elim
    (λ (q : x ≡ g).
    let t : names h r g ≡ true = named h r g (ap (λ (z : Allocation). z.handset) (sym q) ∙ y.1) (ap (λ (z : Allocation). z.reference) (sym q) ∙ y.2) in
    cond-true (names h r g) (Some g.holder) (latest_holder h r older) t ∙ ap (λ (z : Allocation). Some z.holder) (sym q) ∙ ap (λ (z : Holder). Some z) y.3)
    (λ (q : ¬ SameReference x g × IsLatest x older). ⊎_elim
    (λ (t : names h r g ≡ true). let n = names_it h r g t in absurd (q.0 (y.1 ∙ sym n.0, y.2 ∙ sym n.1)))
    (λ (f : names h r g ≡ false). cond-false (names h r g) (Some g.holder) (latest_holder h r older) f ∙ is_latest h r k older (x, (q.1, y.1, y.2, y.3)))
    (cases_Bool (names h r g)))
    y.0

-- ---- lines

-- the line of the side that gave
abbrev line_of : Direction → Line
line_of DownRow = Down
line_of UpRow = Up

up_line : (k : Kind) → line_up k ≡ line_of (giver UpRow k)
up_line Data = refl
up_line Ack = refl
up_line Error = refl

down_line : (k : Kind) → line_down k ≡ line_of (giver DownRow k)
down_line Data = refl
down_line Ack = refl
down_line Error = refl

-- ---- the row of a frame

-- each carries what the other does
abbrev CarriesIt : Frame → FrameRow → Direction → Option Carries → Type 0
CarriesIt u f d o = (x : Carries) × ((o ≡ Some x) × (u.line ≡ line_of (giver d x.kind)) × IsOfRow u f x)

by_row : (u : Frame) (f : FrameRow) (d : Direction) (o : Option Carries) → sent_by d f.number f.handset f.octets o ≡ Carried u → CarriesIt u f d o
by_row u f UpRow None e = absurd cc
by_row u f DownRow None e = absurd cc
by_row u f UpRow (Some x) e =
    let q : frame_up f.handset f.number f.octets x ≡ u = same_frame (frame_up f.handset f.number f.octets x) u e in (
      x,
      (
        refl,
        ap (λ (z : Frame). z.line) (sym q) ∙ up_line x.kind,
        record { handset = ap (λ (z : Frame). z.handset) (sym q); reference = ap (λ (z : Frame). z.reference) (sym q); tag = ap (λ (z : Frame). z.tag) (sym q) },
      ),
    )
by_row u f DownRow (Some x) e =
    let q : frame_down f.handset f.number f.octets x ≡ u = same_frame (frame_down f.handset f.number f.octets x) u e in (
      x,
      (
        refl,
        ap (λ (z : Frame). z.line) (sym q) ∙ down_line x.kind,
        record { handset = ap (λ (z : Frame). z.handset) (sym q); reference = ap (λ (z : Frame). z.reference) (sym q); tag = ap (λ (z : Frame). z.tag) (sym q) },
      ),
    )

-- a row that carries something is a frame of the world
row_frame : (f : FrameRow) (d : Direction) (o : Option Carries) (x : Carries) → o ≡ Some x → (u : Frame) × (sent_by d f.number f.handset f.octets o ≡ Carried u)
row_frame f UpRow o x e = (frame_up f.handset f.number f.octets x, ap (λ (z : Option Carries). sent_by UpRow f.number f.handset f.octets z) e)
row_frame f DownRow o x e = (frame_down f.handset f.number f.octets x, ap (λ (z : Option Carries). sent_by DownRow f.number f.handset f.octets z) e)

-- ---- what is decided

module _ (c : PlayState) (w : World) (s : PlayRefines c w) where
  last_given : (h : List ℕ) (side : Direction) (r : ℕ) (l : Line) → l ≡ line_of side → last_holder None h side r c.given ≡ latest_holder h r (allocations w l)
  last_given h DownRow r l e = s.down.last h r ∙ ap (λ (z : Line). latest_holder h r (allocations w z)) (sym e)
  last_given h UpRow r l e = (s.up h).last r ∙ ap (λ (z : Line). latest_holder h r (allocations w z)) (sym e)

  frame_decided : (u : Frame) (f : FrameRow) (d : Direction) (o : Option Carries) → f.direction ≡ d → f.carried ≡ o → sent_by d f.number f.handset f.octets o ≡ Carried u → (is_timely f f.carried c.given ≡ true) ↔ IsTimely w u
  frame_decided u f d o at carries e =
      let y : CarriesIt u f d o = by_row u f d o e in
      let x : Carries = y.0 in
      let side : Direction = giver f.direction x.kind in
      let line : u.line ≡ line_of side = y.1.1 ∙ ap (λ (z : Direction). line_of (giver z x.kind)) (sym at) in
      let last = last_given f.handset side x.reference u.line line in
      let o_last : Option Holder = last_holder None f.handset side x.reference c.given in
      let same : is_timely f f.carried c.given ≡ is_held_by x.tag o_last = ap (λ (z : Option Carries). is_timely f z c.given) (carries ∙ y.1.0) in (
        λ t.
            let g = latest_is f.handset x.reference x.tag (allocations w u.line) (sym last ∙ held_is x.tag o_last (sym same ∙ t)) in
            (g.0, (g.1.0, g.1.1 ∙ sym y.1.2.handset, g.1.2 ∙ sym y.1.2.reference, g.1.3 ∙ sym y.1.2.tag)),
        λ g. same
            ∙ is_held x.tag o_last (last ∙ is_latest f.handset x.reference x.tag (allocations w u.line) (g.0, (g.1.0, g.1.1 ∙ y.1.2.handset, g.1.2 ∙ y.1.2.reference, g.1.3 ∙ y.1.2.tag))),
      )

  row_decided : (u : Frame) (f : FrameRow) → sent_row f ≡ Carried u → (is_timely f f.carried c.given ≡ true) ↔ IsTimely w u
  row_decided u f e = frame_decided u f f.direction f.carried refl refl e

  module _ (n : ℕ) where
    none_there : frame_at n c.bag ≡ None → (u : Frame) → Among (Carried u) w.bag → u.number ≡ n → ⊥
    none_there e u i q = ⊎_elim
        (λ none. none)
        (λ (y : (f : FrameRow) × (Among f c.bag × (sent_row f ≡ Carried u))).
        let own : y.0.number ≡ n = sym (number_by y.0.direction y.0.number y.0.handset y.0.octets y.0.carried) ∙ ap (λ (z : Sent). number_sent z) y.1.1 ∙ q in
        none_found n c.bag e y.0 y.1.0 own)
        (row_from [] c.bag (Carried u) (subst (λ (bag : List Sent). Among (Carried u) bag) s.bag i))

    the_frame : (f : FrameRow) → Among (sent_row f) w.bag → f.number ≡ n → (u : Frame) → Among (Carried u) w.bag → u.number ≡ n → sent_row f ≡ Carried u
    the_frame f there own u i q =
        one_number w.bag (sent_row f) (Carried u) (numbered_there w s.reached) there i (number_by f.direction f.number f.handset f.octets f.carried ∙ own ∙ sym q)

    back : (f : FrameRow) (o : Option Carries) → f.carried ≡ o → Among (sent_row f) w.bag → f.number ≡ n → HandsTimely w (Handed n) → is_timely f f.carried c.given ≡ true
    back f None e there own h = ap (λ (z : Option Carries). is_timely f z c.given) e
    back f (Some x) e there own h =
        let u = row_frame f f.direction f.carried x e in
        let number : u.0.number ≡ n = ap (λ (z : Sent). number_sent z) (sym u.1) ∙ number_by f.direction f.number f.handset f.octets f.carried ∙ own in
        (row_decided u.0 f u.1).1 (h u.0 (subst (λ (z : Sent). Among z w.bag) u.1 there) number)

    at_number : (o : Option FrameRow) → frame_at n c.bag ≡ o → (is_timely_at o c.given ≡ true) ↔ HandsTimely w (Handed n)
    at_number None e = (λ t u i q. absurd (none_there e u i q), λ h. refl)
    at_number (Some f) e =
        let found = frame_found n c.bag f e in
        let there : Among (sent_row f) w.bag = subst (λ (bag : List Sent). Among (sent_row f) bag) (sym s.bag) (row_seen [] c.bag f found.0) in
        (λ t u i q. (row_decided u f (the_frame f there found.1 u i q)).0 t, λ h. back f f.carried refl there found.1 h)

  act_decided : (act : Act) → (hands_timely act c ≡ true) ↔ HandsTimely w (event_of act)
  act_decided (Submit x) = (λ t. tt, λ t. refl)
  act_decided (Query name id) = (λ t. tt, λ t. refl)
  act_decided (Cancel name id) = (λ t. tt, λ t. refl)
  act_decided (Write h to report text) = (λ t. tt, λ t. refl)
  act_decided (Delete h entry) = (λ t. tt, λ t. refl)
  act_decided (Discard h entry) = (λ t. tt, λ t. refl)
  act_decided (Deliver n) = at_number n (frame_at n c.bag) refl
  act_decided (Tick Centre now) = (λ t. tt, λ t. refl)
  act_decided (Tick (Handset h) now) = (λ t. tt, λ t. refl)

pub timely_decided : TimelyLaw
timely_decided (Whole act) c w m s = act_decided c w s act
timely_decided (Stopped stop act) c w m s = act_decided c w s act
timely_decided (Restart side) c w m s = (λ t. tt, λ t. refl)
