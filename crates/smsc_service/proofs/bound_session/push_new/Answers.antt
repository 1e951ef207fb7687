use Rattle.std.proofs.Common.{List, ℕ, sym, ◌∙◌, ap}
use Rattle.smsc_service.specs.BoundSession.{is_among}
use Rattle.smsc_service.proofs.Sittings.{apart_snoc, not_among}
use Rattle.smsc_service.proofs.bound_session.push_new.Goals as goal

pub returns-clause-apart : goal.returns-clause-apart
returns-clause-apart c =
    apart_snoc c.args.handsets.now.items c.args.handset c.push.new.self.items c.in_ok-push.ensures.items c.requires.apart
    (not_among c.args.handset c.args.handsets.now.items (ap (λ (hs : List (List ℕ)). is_among c.args.handset hs) (sym c.as_slice.ensures.value) ∙ sym c.is_among.ensures ∙ c.if-is_among.false))
