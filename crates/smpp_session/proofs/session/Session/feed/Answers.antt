use Rattle.std.proofs.Common.{◌≡◌, ap, ◌∙◌}
use Rattle.smpp_session.specs.declared.front.Front.TheVariants.{Waiting}
use Rattle.smpp_session.specs.Sessions.{SessionView}
use Rattle.smpp_session.specs.Stream.{front_of}
use Rattle.smpp_session.proofs.Cuts.{feed_waits}
use Rattle.smpp_session.proofs.session.Session.feed.Goals as goal

pub returns-in-Waiting-clause-actions : goal.returns-in-Waiting-clause-actions
returns-in-Waiting-clause-actions c =
    let waits : Waiting ≡ front_of c.self-2.inside.conversation.state c.self-2.inside.input.items = c.in-Waiting.ensures ∙ ap (front_of c.self-2.inside.conversation.state) c.as_slice.ensures in
    feed_waits c.args.self.now c.take_in.new.self c.args.octets.now c.new.result c.in_ok-take_in.ensures.ok
    (waits ∙ ap (λ (s : SessionView). front_of s.conversation.state s.buffered) c.self-2.view_is) c.new.ensures
