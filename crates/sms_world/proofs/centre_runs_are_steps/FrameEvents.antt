-- The event of a frame that is handed to the centre.
use Rattle.std.proofs.Common.{◌≡◌, ℕ, List, sym, subst}
use Rattle.sms_centre_rows.specs.waiting.Links.{link_of}
use Rattle.sms_centre_rows.specs.declared.waiting.handset_link.HandsetLink.{HandsetLink}
use Rattle.sms_centre_spec.proofs.PduFits.{event_gives}
use Rattle.sms_centre_spec.proofs.SoundLinks.{SoundLinks, link_sound}
use Rattle.sms_centre_spec.proofs.SoundEvents.{event_after}
use Rattle.sms_centre_spec.specs.CentreEvent.{frame_taken, tag_of}
use Rattle.sms_centre_spec.specs.Draft.{Draft, draft_of}
use Rattle.sms_centre_spec.specs.declared.event.CentreEvent.TheVariants.{Frame}
use Rattle.sms_world.proofs.centres_refine_the_world.Offers.{link_refines}
use Rattle.sms_world.specs.centre_runs_are_steps.FrameLaws.{FrameLaw}
use Rattle.sms_world.specs.centre_runs_are_steps.Handing.{IsHandedUp}
use Rattle.sms_world.specs.centre_runs_are_steps.Stages.{Begins}
use Rattle.sms_world.proofs.centre_runs_are_steps.FrameArrives.{handed_law}
use Rattle.sms_world.proofs.centre_runs_are_steps.Stepping.{frame_leads}
use Rattle.sms_world.proofs.centres_refine_the_world.QuietEvents.{start}
use Rattle.sms_centre_rows.proofs.waiting.LinksRepresented.{link_of_handset}

pub frame_event : FrameLaw
frame_event number handset octets tag c w sound is are s handed =
    let d : Draft = draft_of c in
    let link : HandsetLink = link_of handset c.links in
    let own : link.handset ≡ handset = link_of_handset handset c.links in
    let links : SoundLinks c.rows d.links = record { each = sound.each_link; apart = sound.apart; sent = λ f among. absurd among } in
    let gives = event_gives (Frame handset octets tag) c sound (is, are) in
    let handed_there : IsHandedUp link.handset number octets (tag_of tag) w = subst (λ (h : List ℕ). IsHandedUp h number octets (tag_of tag) w) (sym own) handed in
    let begins : Begins number c.moment (frame_taken octets (tag_of tag) link d) w =
    handed_law number (tag_of tag) d w (start c sound) s link (link_refines w.bag handset c.links s.links) (link_sound c.rows handset d.links links is) octets handed_there gives in
    frame_leads number c.moment (frame_taken octets (tag_of tag) link d) w begins (event_after (Frame handset octets tag) c sound is gives).store.0
