use Rattle.std.proofs.Common.{sym, ap, ◌∙◌, ◌+◌, arith, List, ℕ, Some}
use Rattle.std.proofs.lemmas.List.{take_all, length-drop}
use Rattle.sms_script.proofs.Pieces.{mark_found, no_mark_found}
use Rattle.sms_script.proofs.cutting.cut.Goals as goal

pub returns-in-Some-clause-front : goal.returns-in-Some-clause-front
returns-in-Some-clause-front c = (mark_found c.args.mark c.args.octets.now c.in-Some.place (sym c.in-Some.ensures.value)).0

pub returns-in-Some-clause-behind : goal.returns-in-Some-clause-behind
returns-in-Some-clause-behind c =
    ap (λ (xs : List ℕ). Some xs) (take_all _ _ (omega (arith, length-drop (c.in-Some.place + 1) c.args.octets.now)))
    ∙ (mark_found c.args.mark c.args.octets.now c.in-Some.place (sym c.in-Some.ensures.value)).1

pub returns-in-None-clause-front : goal.returns-in-None-clause-front
returns-in-None-clause-front c = (no_mark_found c.args.mark c.args.octets.now (sym c.in-None.ensures.value)).0

pub returns-in-None-clause-behind : goal.returns-in-None-clause-behind
returns-in-None-clause-behind c = (no_mark_found c.args.mark c.args.octets.now (sym c.in-None.ensures.value)).1
