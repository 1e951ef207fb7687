use Rattle.std.proofs.Common.{◌≡◌, ℕ, ◌+◌, List, ◌∷◌, ◌++◌, append-nil, append_assoc, drop, refl, sym, ◌∙◌, ap, arith}
use Rattle.std.proofs.lemmas.List.{drop_all, drop_more}
use Rattle.sms_centre_rows.specs.declared.messages.message.MessageRow.{MessageRow}
use Rattle.sms_centre_rows.specs.declared.messages.part.PartRow.{PartRow}
use Rattle.sms_centre_rows.specs.declared.messages.claim.Claim.{Claim}
use Rattle.sms_centre_rows.specs.messages.Messages.{message_at}
use Rattle.sms_centre_spec.specs.forgetting.Forget.{claims_at, claims_by}
use Rattle.sms_centre.proofs.barring.add_each.Goals as goal

pub loop-id-init : goal.loop-id-init
loop-id-init c = λ core stands. refl

pub loop-id-preserved : goal.loop-id-preserved
loop-id-preserved c = λ core stands.
    let ms : List MessageRow = core.rows.messages in
    let ps : List PartRow = core.rows.parts in
    let x : ℕ = c.id-item.result in
    let left : List ℕ = drop (c.loop-id.id-index + 1) c.args.ids.now in
    let next : drop c.loop-id.id-index c.args.ids.now ≡ x ∷ left =
    drop_more c.args.ids.now c.loop-id.id-index x c.loop-id-test.true ∙ ap (λ (n : ℕ). n ∷ left) (sym c.id-item.is) in
    ap (λ (l : List Claim). l ++ claims_by left ms ps) (c.in_ok-add.ensures core stands)
    ∙ append_assoc c.loop-id.claims.items (claims_at (message_at x ms) ps) (claims_by left ms ps)
    ∙ ap (λ (l : List ℕ). c.loop-id.claims.items ++ claims_by l ms ps) (sym next)
    ∙ c.loop-id.invariant core stands

pub returns : goal.returns
returns c = λ core stands.
    let ms : List MessageRow = core.rows.messages in
    let ps : List PartRow = core.rows.parts in
    sym (append-nil c.loop-id.claims.items)
    ∙ ap (λ (l : List ℕ). c.loop-id.claims.items ++ claims_by l ms ps) (sym (drop_all c.loop-id.id-index c.args.ids.now (omega (arith, c.loop-id-test.false))))
    ∙ c.loop-id.invariant core stands
