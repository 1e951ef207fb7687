use Rattle.std.proofs.Common.{List, ℕ, Option, sym, ◌∙◌, subst}
use Rattle.std.specs.Prelude.{IfSome}
use Rattle.sms_base.specs.HandsetNumber.{own_address}
use Rattle.sms_base.specs.Msisdn.{IsMsisdn}
use Rattle.sms_base.specs.declared.address.Address.{Address}
use Rattle.sms_base.proofs.Msisdns.{is_number}
use Rattle.sms_centre_rows.specs.waiting.SoundAllocations.{IsNumber}
use Rattle.sms_relay_run.specs.relay_laws.Relay.{IsRelayed}
use Rattle.sms_relay_run.proofs.Relaying.{if_ok, own_number, relayed_from}
use Rattle.sms_relay_run.proofs.once.relay_carried.Goals as goal

pub relay_between-requires-clause-centre : goal.relay_between-requires-clause-centre
relay_between-requires-clause-centre c = c.requires.centre.valid

pub spelled_by-number-requires : goal.spelled_by-number-requires
spelled_by-number-requires c = is_number c.args.from.digits (own_number c.args.from c.requires.from)

pub relay_between-requires-clause-to : goal.relay_between-requires-clause-to
relay_between-requires-clause-to c =
    subst (λ (o : Option Address). IfSome o (λ address. IsMsisdn address.digits)) (sym c.destination_of-to.ensures) (c.handsets_can_have_links.ensures.named c.args.unit.now c.are_octets.ensures)

pub returns : goal.returns
returns c =
    let number = c.spelled_by-number.result in
    let is = subst (λ (n : List ℕ). IsNumber n) (sym c.spelled_by-number.ensures) (own_number c.args.from c.requires.from) in
    let relays = c.an_empty_centre_relays_a_unit.ensures c.args.centre number c.args.now c.args.unit.now is c.is_moment.ensures
    c.are_octets.ensures c.requires.some c.requires.fits in
    if_ok c.relay_between.result _ _ (λ x relayed. relayed_from c.args.centre c.args.from c.args.now c.args.unit.now x c.requires.from
    (subst (λ (n : List ℕ). IsRelayed c.args.centre (own_address n) c.args.now c.args.unit.now x) c.spelled_by-number.ensures relayed))
    (c.relay_between.ensures c.args.unit.now (c.as_slice.ensures ∙ c.in_ok-frame.ensures) c.destination_of-to.ensures relays)
