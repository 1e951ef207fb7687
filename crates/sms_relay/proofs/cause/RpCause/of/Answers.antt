use Rattle.std.proofs.Common.{◌≡◌, ap, sym, ◌∙◌, eqb, Option, rules, tests}
use Rattle.std.specs.Option.{option_map, unwrap_or}
use Rattle.std.specs.List.{find}
use Rattle.std.proofs.lemmas.Iterator.{YieldsList-from_slice}
use Rattle.std.proofs.lemmas.Iterator.Adapters.{option_map_id}
use Rattle.std.proofs.lemmas.Iterator.Consumers.{YieldsList-from_copied}
use Rattle.std.proofs.lemmas.Iterator.Search.{find_from_yields_List}
use Rattle.sms_relay.specs.Cause.{number_of, named, cause_of}
use Rattle.sms_relay.specs.declared.cause.RpCause.{RpCause}
use Rattle.sms_relay.specs.declared.cause.RpCause.TheVariants.{Reserved}
use Rattle.sms_relay.proofs.cause.RpCause.of.Goals as goal

pub returns : goal.returns
unfolding cause_of
returns c =
    let found : option_map (λ x. x) c.find.result ≡ find (λ cause. eqb (number_of cause) c.args.number) named =
    find_from_yields_List (λ cause. eqb (number_of cause) c.args.number) _ _ _ c.find.ensures.ran (YieldsList-from_copied (YieldsList-from_slice named cc)) (λ x b q k. search (rules, tests)) in
    c.unwrap_or.ensures ∙ ap (λ (o : Option RpCause). unwrap_or o (Reserved c.args.number)) (sym (option_map_id c.find.result) ∙ found)
