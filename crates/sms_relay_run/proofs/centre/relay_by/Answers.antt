use Rattle.std.proofs.Common.{◌≡◌, List, ℕ, None, ap, ◌∙◌}
use Rattle.sms_base.specs.HandsetNumber.{own_address}
use Rattle.sms_centre_spec.specs.CentreEvent.{happened}
use Rattle.sms_centre_spec.specs.Draft.{Core}
use Rattle.sms_centre_spec.specs.declared.event.CentreEvent.TheVariants.{Frame}
use Rattle.sms_relay.specs.RelayReading.{up_at}
use Rattle.sms_relay_run.specs.relay_laws.Relaying.{centre_for, destination_of, frames_of, handsets_for, setup_for, outputs}
use Rattle.sms_centre_rows.specs.declared.waiting.handset_link.Sent.{Sent}
use Rattle.sms_relay_run.proofs.Relaying.{if_ok, relayed_as}
use Rattle.sms_relay_run.proofs.centre.relay_by.Goals as goal

pub returns : goal.returns
returns c = record {
  is = λ address now unit is same named relays.
      let core : Core = centre_for address c.args.from now unit in
      let of_event = c.in_ok-outputs.ensures (setup_for address now) (handsets_for c.args.from (destination_of (up_at unit))) is in
      let sent : outputs c.as_slice.result.now ≡ frames_of c.args.from relays.relayed =
      ap (λ (frames : List Sent). outputs frames) c.as_slice.ensures
      ∙ ap (λ (frames : List Sent). outputs frames) of_event.frames
      ∙ ap (λ (octets : List ℕ). outputs (happened (Frame c.args.from octets None) core).links.frames) (c.of.ensures ∙ same)
      ∙ relays.sent in
      if_ok c.units_in.result _ _ (λ x e. relayed_as address (own_address c.args.from) now unit relays.relayed x relays.is_relayed e)
      (c.units_in.ensures address c.args.from now unit relays.relayed relays.is_relayed sent named);
}
