use Rattle.std.proofs.Common.{subst}
use Rattle.sms_concat.specs.UserData.{AreUnits}
use Rattle.sms_concat.specs.declared.content.Content.{Content}
use Rattle.sms_intake.proofs.Texts.{form_units}
use Rattle.sms_intake.proofs.content_view.ContentView.fits_behind.Goals as goal

pub returns-in-Characters-clause-units : goal.returns-in-Characters-clause-units
returns-in-Characters-clause-units c =
    subst (λ (x : Content). AreUnits x.coding x.units) c.self.view_is (form_units c.self.inside.form c.self.inside.octets.now c.self.invariant)
