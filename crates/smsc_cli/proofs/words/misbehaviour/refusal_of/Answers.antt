use Rattle.std.proofs.Common.{◌≡◌, None, Some}
use Rattle.smsc_cli.proofs.words.Decimals.{if_none}
use Rattle.smsc_cli.proofs.words.Refusals.{parts_spell, whole_spells}
use Rattle.smsc_cli.proofs.words.misbehaviour.refusal_of.Goals as goal

pub returns-in_err-cause-in-Some-clause-none : goal.returns-in_err-cause-in-Some-clause-none
returns-in_err-cause-in-Some-clause-none c = if_none c.from_residual.result (λ h.
    c.in_err-cause-in-Some.ensures.none (parts_spell c.args.text.now c.in-Some.before.now c.in-Some.behind.now c.in-Some.ensures.cut h).0)

pub returns-in_err-count-in-Some-clause-none : goal.returns-in_err-count-in-Some-clause-none
returns-in_err-count-in-Some-clause-none c = if_none c.from_residual-in_err-count-in-Some.result (λ h.
    let s = (parts_spell c.args.text.now c.in-Some.before.now c.in-Some.behind.now c.in-Some.ensures.cut h).1 in
    let gone : None ≡ Some s.0 = c.in_err-count-in-Some.ensures.only s.0 s.1 in
    absurd cc)

pub returns-in_err-cause-in-None-clause-none : goal.returns-in_err-cause-in-None-clause-none
returns-in_err-cause-in-None-clause-none c = if_none c.from_residual-in_err-cause-in-None.result (λ h.
    c.in_err-cause-in-None.ensures.none (whole_spells c.args.text.now c.in-None.ensures.none h))
