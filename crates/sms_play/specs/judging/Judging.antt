-- What a judge has seen of a script's course.
use Rattle.std.specs.Prelude.{◌≡◌, ℕ, zero, suc, List, [], ◌∷◌, length, slice_index, Option, None}
use Rattle.sms_play.specs.PlayState.{PlayState, Party}
use Rattle.sms_play.specs.Premises.{all_pairs, newest_first, part_allocations}
use Rattle.sms_script.specs.declared.report.Broken.{Broken}
use Rattle.sms_play.specs.growth.Growth.{HaveParts}
use Rattle.sms_play.specs.judging.Premises.{accepted_at}
use Rattle.sms_play.specs.judging.Watching.{Watches}
use Rattle.sms_play.specs.declared.judging.premises.Judge.{Judge}

-- so much that each handset accepted was looked at
abbrev pub AreCounts : List ℕ → List Party → Type 0
AreCounts counts ps = (place : ℕ) → slice_index counts place ≡ length (accepted_at place ps)

-- all that was given and accepted so far was looked at
pub record Knows (c : PlayState) (j : Judge) : Type 0 where
  pub given : j.given ≡ length c.given
  pub accepted : AreCounts j.accepted.items c.parties
  pub have_parts : HaveParts c.centre.rows.parts c.given
  pub watch : Watches c.given (newest_first [] (part_allocations c.centre.rows.parts c.given)) (all_pairs c.parties) j.watch

-- the handsets after an event up to a place, and from there on those before it
abbrev pub looked : ℕ → List Party → List Party → List Party
looked zero before after = before
looked (suc place) [] after = []
looked (suc place) (p ∷ before) [] = p ∷ before
looked (suc place) (p ∷ before) (q ∷ after) = q ∷ looked place before after

-- all that the event gave was looked at, and what the handsets up to a place accepted
pub record KnowsTo (place : ℕ) (before after : PlayState) (j : Judge) : Type 0 where
  pub given : j.given ≡ length after.given
  pub accepted : AreCounts j.accepted.items (looked place before.parties after.parties)
  pub have_parts : HaveParts after.centre.rows.parts after.given
  pub watch : Watches after.given (newest_first [] (part_allocations after.centre.rows.parts after.given))
      (all_pairs (looked place before.parties after.parties)) j.watch

-- That is the first event up to the course that broke a premise. While none did, all was looked at.
pub record Judged (broken : Option Broken) (c : PlayState) (j : Judge) : Type 0 where
  pub verdict : j.broken ≡ broken
  pub knows : broken ≡ None → Knows c j
