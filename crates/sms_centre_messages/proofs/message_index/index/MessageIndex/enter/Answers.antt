use Rattle.std.proofs.Common.{sym, subst}
use Rattle.sms_centre_messages.specs.message_index.MessageIndex.{MessageIndexOf, Notes}
use Rattle.sms_centre_messages.proofs.message_index.IndexRepresents.{holds_put}
use Rattle.sms_centre_messages.proofs.message_index.index.MessageIndex.enter.Goals as goal

pub returns : goal.returns
returns c = λ ms ps h.
    holds_put c.args.row c.in_ok-entry.entry c.entry.new.self c.put.new.self c.args.self.now (record { names = c.self.inside.names; messages = c.self.inside.messages; parts = c.self.inside.parts; deadlines = c.self.inside.deadlines })
    (subst (λ (k : MessageIndexOf). Notes c.args.row c.args.self.now k) (sym c.self.view_is) c.in_ok-note_taking.ensures)
    c.in_ok-entry.ensures.others c.in_ok-entry.ensures.own c.in_ok-put.ensures.ok ms ps h
