use Rattle.std.proofs.Common.{refl, inl}
use Rattle.sms_world.specs.wrong_reports.Literals.{given}
use Rattle.sms_base.specs.declared.holder.Holder.TheVariants.{Part}
use Rattle.sms_world.specs.wrong_reports.Tried.{GivenLaw}

pub refused : GivenLaw
refused g = g.0 (record given { holder = Part 2 1 }) (inl refl) refl refl refl refl refl
