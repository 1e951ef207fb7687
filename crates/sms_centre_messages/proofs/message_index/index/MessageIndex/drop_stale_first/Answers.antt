use Rattle.std.proofs.Common.{sym, subst}
use Rattle.sms_centre_messages.specs.message_index.MessageIndex.{Represents, IsStaleFirst, MessageIndexOf}
use Rattle.sms_centre_messages.proofs.message_index.IndexRepresents.{holds_stale}
use Rattle.sms_centre_messages.proofs.message_index.index.MessageIndex.drop_stale_first.Goals as goal

pub returns-then-has_stale_first : goal.returns-then-has_stale_first
returns-then-has_stale_first c = λ ms ps h.
    holds_stale (record { names = c.self.inside.names; messages = c.self.inside.messages; parts = c.self.inside.parts; deadlines = c.self.inside.deadlines }) c.drop_first.new.self ms ps (subst (λ (k : MessageIndexOf). Represents k ms ps) (sym c.self.view_is) h)
    (subst (λ (k : MessageIndexOf). IsStaleFirst ms k) (sym c.self.view_is) (c.has_stale_first.ensures ms ps h c.if-has_stale_first.true))
    c.drop_first.ensures.others
