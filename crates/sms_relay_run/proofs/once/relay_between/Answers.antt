use Rattle.std.proofs.Common.{List, ℕ, Option, sym, ◌∙◌, ap, subst}
use Rattle.sms_base.specs.declared.address.Address.{Address}
use Rattle.sms_centre_spec.specs.SoundCore.{AreDifferent}
use Rattle.sms_relay_run.specs.relay_laws.Relaying.{handsets_for}
use Rattle.sms_relay_run.proofs.once.relay_between.Goals as goal

pub relay_started-requires-clause-apart : goal.relay_started-requires-clause-apart
relay_started-requires-clause-apart c =
    subst (λ (ns : List (List ℕ)). AreDifferent ns) (sym (c.as_slice.ensures.value ∙ c.in_ok-handsets.ensures)) (c.handsets_can_have_links.ensures.apart c.args.from c.args.to)

pub returns : goal.returns
returns c = λ unit brings named relays.
    c.relay_started.ensures unit (c.as_slice.ensures.value ∙ c.in_ok-handsets.ensures ∙ ap (λ (o : Option Address). handsets_for c.args.from o) named) brings named relays
