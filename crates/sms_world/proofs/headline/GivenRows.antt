-- No reference is given twice at a handset in one second.
use Rattle.std.proofs.Common.{◌≡◌, List, [], ◌∷◌, true, refl, sym, ◌∙◌, ap, inl, inr}
use Rattle.sms_base.specs.Among.{Among}
use Rattle.sms_script.specs.declared.report.rows.Direction.{Direction}
use Rattle.sms_script.specs.declared.report.rows.Direction.TheVariants.{Down}
use Rattle.sms_script.specs.declared.report.rows.GivenRow.{GivenRow}
use Rattle.sms_play.specs.PlayState.{PlayState}
use Rattle.sms_play.specs.Premises.{is_same_side}
use Rattle.sms_world_model.specs.World.{Allocation, World}
use Rattle.sms_world_model.proofs.Faithful.{given_same}
use Rattle.sms_world_model.proofs.Sound.{IsSound}
use Rattle.sms_world.specs.headline.SeenWorld.{HoldersDiffer, IsDown, IsOfAllocation}
use Rattle.sms_world.proofs.scripts_are_runs.Agreeing.{sound_there}
use Rattle.sms_world.specs.scripts_are_runs.PlayRefinement.{PlayRefines}
use Rattle.sms_world.specs.headline.Claims.{GivenOnce}

is_down : (d : Direction) → d ≡ Down → is_same_side d Down ≡ true
is_down d e = ap (λ (z : Direction). is_same_side z Down) e

rows_once : (w : World) → IsSound w → (rows : List GivenRow) → ((g : GivenRow) → Among g rows → IsDown g → (x : Allocation) × (Among x w.down × IsOfAllocation g x)) → HoldersDiffer rows → GivenOnce rows
rows_once w sound [] each differ = tt
rows_once w sound (g ∷ rows) each differ = (
  λ y i a b handset reference moment.
      let x = each g (inl refl) (is_down g.direction a) in
      let z = each y (inr i) (is_down y.direction b) in
      let same : x.0 ≡ z.0 =
      given_same w.down x.0 z.0 sound.given x.1.0 z.1.0 (x.1.1.handset ∙ handset ∙ sym z.1.1.handset) (x.1.1.reference ∙ reference ∙ sym z.1.1.reference) (x.1.1.moment ∙ moment ∙ sym z.1.1.moment) in
      differ.0 (is_down g.direction a) y i (is_down y.direction b) (sym x.1.1.holder ∙ ap (λ (v : Allocation). v.holder) same ∙ z.1.1.holder),
  rows_once w sound rows (λ y i. each y (inr i)) differ.1,
)

pub given_once : (c : PlayState) (w : World) → PlayRefines c w → GivenOnce c.given
given_once c w s = rows_once w (sound_there w s.reached) c.given s.down.each s.down.differ
