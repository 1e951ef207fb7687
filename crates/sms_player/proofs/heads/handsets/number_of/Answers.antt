use Rattle.std.proofs.Common.{List, ℕ, sym, subst}
use Rattle.sms_base.specs.Msisdn.{IsMsisdn}
use Rattle.sms_base.proofs.Msisdns.{is_number}
use Rattle.sms_player.proofs.heads.Beginnings.{handset_is, number_is}
use Rattle.sms_player.proofs.heads.handsets.number_of.Goals as goal

pub unreachable-requires : goal.unreachable-requires
unreachable-requires c =
    c.in-None.ensures (subst (λ (digits : List ℕ). IsMsisdn digits) (sym c.as_slice.ensures) (is_number c.args.handset.now.number (number_is c.args.handset.now.number (handset_is c.args.handset.now c.requires).number)))
