use Rattle.std.proofs.Common.{◌≡◌, sym, ap, ◌∙◌}
use Rattle.sms_concat.specs.declared.content.Content.{Content}
use Rattle.sms_intake.specs.declared.content_form.ContentForm.TheVariants.{Characters}
use Rattle.sms_intake.specs.Forms.{content_as}
use Rattle.sms_intake.specs.SmppIntake.{are_whole}
use Rattle.sms_intake.proofs.Texts.{text_whole}
use Rattle.sms_intake.proofs.content_view.ContentView.is_whole.Goals as goal

pub returns-in-Characters : goal.returns-in-Characters
returns-in-Characters c =
    let octets = c.self.inside.octets.now in
    let view = c.self.view_is in
    let form = c.in-Characters.is in
    let same : content_as Characters octets ≡ c.args.self.now = cc in
    sym (text_whole octets) ∙ ap (λ (x : Content). are_whole x.coding x.units) same
