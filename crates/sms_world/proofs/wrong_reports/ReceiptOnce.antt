use Rattle.std.proofs.Common.{refl, inl}
use Rattle.sms_world.specs.wrong_reports.Literals.{receipt}
use Rattle.sms_world.specs.wrong_reports.Tried.{ReceiptsLaw}

pub refused : ReceiptsLaw
refused r = r.one.0 receipt (inl refl) refl
