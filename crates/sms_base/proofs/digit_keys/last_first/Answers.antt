use Rattle.std.proofs.Common.{◌≡◌, ℕ, suc, ◌+◌, ◌-◌, ◌/◌, ◌<◌, List, [], ◌∷◌, ◌++◌, length, sym, ap, ◌∙◌, arith}
use Rattle.std.proofs.lemmas.List.{append-nil, append_assoc}
use Rattle.sms_base.specs.DigitsKey.{last_first as last_first_of}
use Rattle.sms_base.proofs.KeysOfDigits.{last_all, last_on, last_out, one_more}
use Rattle.sms_base.proofs.digit_keys.last_first.Goals as goal

pub loop-step-init : goal.loop-step-init
loop-step-init c =
    let all : 20 - 0 ≡ 20 = omega arith in
    record {
      same = ap (λ (ds : List ℕ). ds ++ last_first_of (20 - 0) c.args.key) c.new-digits.ensures ∙ ap (λ (n : ℕ). last_first_of n c.args.key) all;
      few = ap (λ (ds : List ℕ). length ds) c.new-digits.ensures;
    }

pub push-requires : goal.push-requires
push-requires c = omega (arith, c.loop-step-test.true, c.loop-step.invariant.few)

pub loop-step-preserved : goal.loop-step-preserved
loop-step-preserved c =
    let i = c.loop-step._step in
    let digits = c.loop-step.digits in
    let key = c.loop-step.rest in
    let digit = c.last_digit.result in
    let some : 0 < key = omega (arith, c.if-rest-eq0.false) in
    let on : 20 - i ≡ suc (20 - (i + 1)) = omega (arith, c.loop-step-test.true) in
    let tail : List ℕ = last_first_of (20 - (i + 1)) (key / 16) in
    record {
      same = ap (λ (ds : List ℕ). ds ++ tail) c.push.ensures
          ∙ append_assoc digits (digit ∷ []) tail
          ∙ ap (λ (d : ℕ). digits ++ (d ∷ tail)) c.last_digit.ensures
          ∙ ap (λ (ds : List ℕ). digits ++ ds) (sym (last_on (20 - i) (20 - (i + 1)) key on some))
          ∙ c.loop-step.invariant.same;
      few = ap (λ (ds : List ℕ). length ds) c.push.ensures ∙ one_more digits digit i c.loop-step.invariant.few;
    }

pub returns-then-rest-eq0 : goal.returns-then-rest-eq0
returns-then-rest-eq0 c =
    sym (append-nil c.loop-step.digits)
    ∙ ap (λ (ds : List ℕ). c.loop-step.digits ++ ds) (sym (last_out (20 - c.loop-step._step) c.loop-step.rest (omega (arith, c.if-rest-eq0.true))))
    ∙ c.loop-step.invariant.same

pub returns : goal.returns
returns c =
    sym (append-nil c.loop-step.digits)
    ∙ ap (λ (ds : List ℕ). c.loop-step.digits ++ ds) (sym (last_all (20 - c.loop-step._step) c.loop-step.rest (omega (arith, c.loop-step-test.false))))
    ∙ c.loop-step.invariant.same
