use Rattle.sms_centre_messages.proofs.message_index.IndexRepresents.{holds_nothing}
use Rattle.sms_centre_messages.proofs.message_index.index.MessageIndex.new.Goals as goal

pub returns : goal.returns
returns c =
    holds_nothing (record { names = c.new-names.result; messages = c.new-messages.result; parts = c.new-parts.result; deadlines = c.new-deadlines.result })
    c.new-messages.ensures c.new-parts.ensures
