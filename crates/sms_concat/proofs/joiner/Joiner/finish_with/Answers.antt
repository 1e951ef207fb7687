use Rattle.std.proofs.Common.{◌≡◌, List, IfOk, OnErr, Some, subst}
use Rattle.sms_concat.specs.declared.content.Content.{Content}
use Rattle.sms_concat.specs.declared.content.Part.{Part}
use Rattle.sms_concat.specs.Joining.{content_joined}
use Rattle.sms_concat.proofs.joiner.Stepwise.{inserted_between}
use Rattle.sms_concat.proofs.joiner.Joiner.finish_with.Goals as goal

pub returns-clause-ok : goal.returns-clause-ok
returns-clause-ok c =
    subst (λ (l : List Part). IfOk c.join_around.result (λ content. content ≡ content_joined l))
    (inserted_between c.args.part.now c.args.self.now.parts c.parts-parts.result.now c.split_at.result.0.now c.split_at.result.1.now c.place_of.result c.number_of.result
    c.number_of.ensures c.parts-parts.ensures.parts c.place_of.ensures c.split_at.ensures.front c.split_at.ensures.back)
    c.join_around.ensures.ok

pub returns-clause-err : goal.returns-clause-err
returns-clause-err c =
    subst (λ (l : List Part). OnErr c.join_around.result ((content : Content) × (content_joined l ≡ Some content)))
    (inserted_between c.args.part.now c.args.self.now.parts c.parts-parts.result.now c.split_at.result.0.now c.split_at.result.1.now c.place_of.result c.number_of.result
    c.number_of.ensures c.parts-parts.ensures.parts c.place_of.ensures c.split_at.ensures.front c.split_at.ensures.back)
    c.join_around.ensures.err
