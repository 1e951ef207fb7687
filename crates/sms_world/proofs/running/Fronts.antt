-- A run over a front that is enough to judge a text ends as one over the text.
use Rattle.std.proofs.Common.{◌≡◌, ℕ, List, Option, Some, None, Result, subst, ap, ◌∙◌}
use Rattle.std.specs.Prelude.{IfSome}
use Rattle.sms_play.specs.Running.{Ran, ran, run_of}
use Rattle.sms_script.specs.Limits.{IsEnoughOf}
use Rattle.sms_script.specs.declared.script.Script.{Script}
use Rattle.sms_script.proofs.Fronts.{front_judged}

pub runs_alike : (Ends : Ran → Type 0) (known : Option (List ℕ)) (front slice : List ℕ) → slice ≡ front → IfSome known (λ (text : List ℕ). IsEnoughOf text front) → Ends (run_of slice)
    → IfSome known (λ (text : List ℕ). Ends (run_of text))
runs_alike Ends None front slice same enough ends = tt
runs_alike Ends (Some text) front slice same enough ends =
    subst Ends (ap (λ (t : List ℕ). run_of t) same ∙ ap (λ (read : Result Script ℕ). ran read) (front_judged text front enough)) ends
