-- A text that an event submitted, and that the centre split, is that text in the rows from then on.
use Rattle.sms_centre_rows.specs.messages.Messages.{message_at, message_key}
use Rattle.sms_centre_spec.specs.CentreEvent.{happened}
use Rattle.sms_centre_spec.specs.Draft.{Draft, messages_in, parts_in}
use Rattle.sms_centre_spec.specs.MessageNumbers.{next_number}
use Rattle.sms_centre_spec.specs.declared.event.CentreEvent.{CentreEvent}
use Rattle.sms_centre_spec.specs.declared.event.CentreEvent.TheVariants.{Submit as CentreSubmit}
use Rattle.sms_script.specs.Requests.{submit_of}
use Rattle.sms_play.specs.PlayedEvent.{played}
use Rattle.sms_rows.proofs.table.Tables.{found_key}
use Rattle.sms_world.proofs.headline.ScriptCourses.{course_of}
use Rattle.sms_world.proofs.scripts_are_runs.Courses.{first_of}
use Rattle.sms_world.proofs.headline.SplitPlays.{all_preserved}
use Rattle.sms_world.proofs.messages_have_origins.OriginClaims.{event_submits}
use Rattle.sms_world.proofs.messages_have_origins.Unmoved.{Rows, rows_in, rows_of}
use Rattle.sms_world.proofs.scripts_are_runs.Events.{event_leads}
use Rattle.sms_world.specs.headline.HeadlineLaws.{IsScript, SplitTextLaw}
use Rattle.sms_world.proofs.split_messages_stay.SplitTexts.{IsSplitAs, split_lasts, text_is_split}
use Rattle.sms_world.proofs.split_messages_stay.KeptMessages.{IsSaid, said_on}
use Rattle.std.proofs.Common.{ap, length, refl, subst, sym, ◌∙◌}
use Rattle.std.specs.Prelude.{Some, ℕ, ◌+◌, ◌∷◌, ◌≡◌}
use Rattle.sms_world.specs.headline.OneRun.{world_after}

pub split_text_is : SplitTextLaw
split_text_is script d typed ends some others e s c place account u content splits leads submits named at read whole long m there =
    let inside : IsScript script some (e ∷ others) = record { typed = typed; events = splits } in
    let n : ℕ = 1 + length some in
    let b = course_of script some (e ∷ others) c d inside (record { here = leads; there = ends }) in
    let f = first_of n e c d others (played n e c) refl b.then_octets.1 b.then_leads in
    let k = event_submits n e s c f.next submits f.is in
    let places : Some k.place ≡ Some place = sym k.named ∙ named in
    let one : k.place ≡ place = cc in
    let event : CentreEvent = CentreSubmit place (submit_of s) in
    let after : Draft = happened event c.centre in
    let rows : rows_of f.next ≡ rows_in after.store = k.rows ∙ ap (λ (p : ℕ). rows_in (happened (CentreSubmit p (submit_of s)) c.centre).store) one in
    let t = text_is_split place (submit_of s) c.centre account u content b.refines.sound at read whole long m there in
    let number : m.id ≡ next_number c.centre.rows = found_key message_key (next_number c.centre.rows) m (messages_in after.store) there in
    let made : IsSaid m.id (IsSplitAs content t.0) (messages_in after.store) (parts_in after.store) =
    (m, (subst (λ (k : ℕ). message_at k (messages_in after.store) ≡ Some m) (sym number) there, t.1.1)) in
    let l = event_leads n e c f.next b.world b.refines b.then_good.0 b.then_octets.0 f.is in
    let y = all_preserved (IsSaid m.id (IsSplitAs content t.0)) (said_on m.id (IsSplitAs content t.0) (split_lasts content t.0)) (n + 1) others f.next d (world_after b.world e c l.0) l.1.2
    (subst (λ (r : Rows). IsSaid m.id (IsSplitAs content t.0) r.0 r.1) (sym rows) made) b.then_good.1 f.octets f.leads in
    (y.0, t.0, y.1)
