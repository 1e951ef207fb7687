use Rattle.std.proofs.Common.{refl, inl}
use Rattle.sms_tpdu.specs.MoreMessages.{compared}
use Rattle.sms_world.specs.wrong_reports.Tried.{TwiceLaw}

pub refused : TwiceLaw
unfolding compared
refused d = d.once.0 refl (inl refl)
