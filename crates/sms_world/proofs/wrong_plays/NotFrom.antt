-- Events that a message is not from.
use Rattle.std.proofs.Common.{arith, ◌≡◌, List, [], ◌∷◌, refl, sym, ◌∙◌, ap, subst}
use Rattle.std.specs.Prelude.{◌++◌}
use Rattle.sms_centre_spec.specs.MessageNumbers.{next_number}
use Rattle.sms_play.specs.PlayState.{PlayState}
use Rattle.sms_play.specs.Playing.{play_state_of}
use Rattle.sms_script.specs.declared.event.Act.TheVariants.{Submit}
use Rattle.sms_script.specs.declared.event.StopPoint.TheVariants.{Before}
use Rattle.sms_script.specs.declared.event.WorldEvent.{WorldEvent}
use Rattle.sms_script.specs.declared.event.WorldEvent.TheVariants.{Stopped}
use Rattle.sms_centre_rows.specs.declared.messages.message.MessageRow.{MessageRow}
use Rattle.sms_centre_rows.specs.declared.messages.part.PartRow.{PartRow}
use Rattle.sms_world.specs.headline.Origins.{IsFrom, MakesMessage}
use Rattle.sms_world.specs.wrong_plays.Happened.{FromQueryLaw, FromStoppedLaw, OtherIdLaw, OtherMomentLaw, queries}
use Rattle.sms_world.specs.wrong_plays.Plays.{first, from_application, part_one, setup}
use Rattle.sms_world.specs.wrong_reports.Literals.{asked, submits}
use Rattle.sms_world.proofs.wrong_plays.NoMessage.{no_events, inside, Leads}

-- one event is its list's first one, behind none
is_event : (e : WorldEvent) (some : List WorldEvent) (x : WorldEvent) (others : List WorldEvent) → e ∷ [] ≡ some ++ x ∷ others → e ≡ x
is_event e [] x others q = cc
is_event e (y ∷ ys) x others q = absurd (no_events ys x others tail)
  where
    tail : [] ≡ ys ++ x ∷ others
    tail = cc

is_first : (e : WorldEvent) (some : List WorldEvent) (x : WorldEvent) (others : List WorldEvent) → e ∷ [] ≡ some ++ x ∷ others → some ≡ []
is_first e [] x others q = refl
is_first e (y ∷ ys) x others q = absurd (no_events ys x others tail)
  where
    tail : [] ≡ ys ++ x ∷ others
    tail = cc

makes : (e : WorldEvent) (m : MessageRow) (parts : List PartRow) (o : IsFrom setup (e ∷ []) m parts) → MakesMessage e o.before m parts
makes e m parts o = subst (λ (x : WorldEvent). MakesMessage x o.before m parts) (sym (is_event e o.some o.event o.others o.among)) o.makes

begins : (e : WorldEvent) (m : MessageRow) (parts : List PartRow) (o : IsFrom setup (e ∷ []) m parts) → first ≡ o.before
begins e m parts o = inside first o.before (subst (λ (s : List WorldEvent). Leads (play_state_of setup s) o.before) (is_first e o.some o.event o.others o.among) o.leads)

pub from_query : FromQueryLaw
from_query o = makes queries from_application (part_one ∷ []) o

pub from_stopped : FromStoppedLaw
from_stopped o = makes (Stopped Before (Submit asked)) from_application (part_one ∷ []) o

pub other_moment : OtherMomentLaw
other_moment o =
    let q : 946684801 ≡ 946684800 = o.submitted ∙ ap (λ (c : PlayState). c.centre.moment) (sym (begins submits _ _ o)) in
    let l : ⊥ = omega (arith, q) in l

pub other_id : OtherIdLaw
other_id o =
    let q : 2 ≡ 1 = (makes submits _ _ o).number ∙ ap (λ (c : PlayState). next_number c.centre.rows) (sym (begins submits _ _ o)) in
    let l : ⊥ = omega (arith, q) in l
