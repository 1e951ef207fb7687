use Rattle.std.proofs.Common.{◌≡◌, List, ℕ, [], ◌∷◌, ◌++◌, append-nil, Bool, sym, ◌∙◌, ap}
use Rattle.std.specs.Prelude.{if◌then◌else◌}
use Rattle.sms_centre.proofs.forgetting.note_message.Goals as goal

pub returns-then-not-goes : goal.returns-then-not-goes
returns-then-not-goes c = λ core represents stands there.
    let old : List ℕ = c.args.ids.now.items in
    sym (append-nil old) ∙ ap (λ (b : Bool). old ++ (if b then c.args.message.id ∷ [] else [])) (sym (sym (c.may_go_now-goes.ensures core represents stands there) ∙ c.if-not-goes.true))

pub returns : goal.returns
returns c = λ core represents stands there.
    let old : List ℕ = c.args.ids.now.items in
    c.in_ok-push.ensures.items ∙ ap (λ (b : Bool). old ++ (if b then c.args.message.id ∷ [] else [])) (sym (sym (c.may_go_now-goes.ensures core represents stands there) ∙ c.if-not-goes.false))
