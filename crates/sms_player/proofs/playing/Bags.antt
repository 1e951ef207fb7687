-- Frames that go out get the next numbers, and come from whom they come.
use Rattle.std.proofs.Common.{◌≡◌, ℕ, suc, ◌+◌, List, [], ◌∷◌, ◌++◌, length, arith, refl, sym, ◌∙◌, subst, ap, ⊎_elim}
use Rattle.std.specs.Prelude.{◌⊎◌}
use Rattle.sms_base.proofs.Lists.{among_end}
use Rattle.sms_base.specs.Among.{Among}
use Rattle.sms_link.specs.declared.outgoing.Outgoing.{Outgoing}
use Rattle.sms_play.specs.CentreSide.{all_sent as all_sent_down}
use Rattle.sms_play.specs.PlayState.{sent}
use Rattle.sms_play.specs.HandsetSide.{all_sent as all_sent_up}
use Rattle.sms_player.specs.playing.Plays.{AreFrom}
use Rattle.sms_script.specs.declared.report.rows.Direction.{Direction}
use Rattle.sms_script.specs.declared.report.rows.Direction.TheVariants.{Down, Up}
use Rattle.sms_script.specs.declared.report.rows.FrameRow.{FrameRow}
use Rattle.sms_play.specs.staging.Numbering.{AreNumbered}
use Rattle.sms_centre_rows.specs.declared.waiting.handset_link.Sent.{Sent}

numbered_behind : (n : ℕ) (bag : List FrameRow) (f : FrameRow) → AreNumbered n bag → f.number ≡ length bag + n → AreNumbered n (bag ++ f ∷ [])
numbered_behind n [] f h e = let q : f.number ≡ 0 + n = e in (omega (arith, q), tt)
numbered_behind n (b ∷ bag) f h e = let q : f.number ≡ suc (length bag) + n = e in (h.0, numbered_behind (suc n) bag f h.1 (omega (arith, q)))

one_more : (direction : Direction) (handset : List ℕ) (frame : Outgoing) (bag : List FrameRow) → AreNumbered 1 bag → AreNumbered 1 (sent direction handset frame bag)
one_more direction handset frame bag h = numbered_behind 1 bag _ h refl

pub numbered_down : (frames : List Sent) (bag : List FrameRow) → AreNumbered 1 bag → AreNumbered 1 (all_sent_down frames bag)
numbered_down [] bag h = h
numbered_down (s ∷ ss) bag h = numbered_down ss (sent Down s.handset s.frame bag) (one_more Down s.handset s.frame bag h)

pub numbered_up : (handset : List ℕ) (frames : List Outgoing) (bag : List FrameRow) → AreNumbered 1 bag → AreNumbered 1 (all_sent_up handset frames bag)
numbered_up handset [] bag h = h
numbered_up handset (f ∷ fs) bag h = numbered_up handset fs (sent Up handset f bag) (one_more Up handset f bag h)

-- ---- from whom

from_behind : (numbers : List (List ℕ)) (g : FrameRow) (bag : List FrameRow) → AreFrom numbers bag → (g.direction ≡ Up → Among g.handset numbers) → AreFrom numbers (bag ++ g ∷ [])
from_behind numbers g bag h is = λ f i up. ⊎_elim
    (λ (k : Among f bag). h f k up)
    (λ (e : f ≡ g). subst (λ (x : FrameRow). Among x.handset numbers) (sym e) (is (ap (λ (x : FrameRow). x.direction) (sym e) ∙ up)))
    (among_end f g bag i)

not_up : Down ≡ Up → ⊥
not_up e = absurd cc

pub from_down : (numbers : List (List ℕ)) (frames : List Sent) (bag : List FrameRow) → AreFrom numbers bag → AreFrom numbers (all_sent_down frames bag)
from_down numbers [] bag h = h
from_down numbers (s ∷ ss) bag h = from_down numbers ss (sent Down s.handset s.frame bag) (from_behind numbers _ bag h (λ e. absurd (not_up e)))

pub from_up : (numbers : List (List ℕ)) (handset : List ℕ) → Among handset numbers → (frames : List Outgoing) (bag : List FrameRow) → AreFrom numbers bag → AreFrom numbers (all_sent_up handset frames bag)
from_up numbers handset i [] bag h = h
from_up numbers handset i (f ∷ fs) bag h = from_up numbers handset i fs (sent Up handset f bag) (from_behind numbers _ bag h (λ e. i))
