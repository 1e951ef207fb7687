use Rattle.std.proofs.Common.{[], ◌∷◌, refl, inl}
use Rattle.sms_world.specs.wrong_reports.Tried.{CommonLaw}

pub refused : CommonLaw
refused x h = h.0 (x ∷ []) x x (inl refl) (inl refl) (inl refl) refl refl
