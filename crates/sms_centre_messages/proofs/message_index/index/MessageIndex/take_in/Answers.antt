use Rattle.std.proofs.Common.{subst}
use Rattle.sms_centre_messages.specs.message_index.MessageIndex.{MessageIndexOf, MessageIndexReserveOf, TakesInMessages}
use Rattle.sms_centre_messages.proofs.message_index.index.MessageIndex.take_in.Goals as goal

pub returns : goal.returns
returns c =
    subst (λ (s : MessageIndexReserveOf). TakesInMessages s c.args.self.now (record { names = c.use_reserve.new.self; messages = c.use_reserve-2.new.self; parts = c.adopt_parts.new.table; deadlines = c.use_reserve-3.new.self })) c.reserve.view_is
    (subst (λ (k : MessageIndexOf). TakesInMessages (record { parts = c.reserve.inside.parts; messages = c.reserve.inside.rows.messages; numbers = c.reserve.inside.names.numbers; accounts = c.reserve.inside.names.accounts; deadlines = c.reserve.inside.rows.deadlines }) k (record { names = c.use_reserve.new.self; messages = c.use_reserve-2.new.self; parts = c.adopt_parts.new.table; deadlines = c.use_reserve-3.new.self })) c.self.view_is
    (record {
      numbers = c.use_reserve.ensures.numbers;
      numbers_room = c.use_reserve.ensures.numbers_room;
      accounts = c.use_reserve.ensures.accounts;
      accounts_room = c.use_reserve.ensures.accounts_room;
      messages = c.use_reserve-2.ensures.rows;
      messages_room = c.use_reserve-2.ensures.capacity;
      deadlines = c.use_reserve-3.ensures.items;
      deadlines_len = c.use_reserve-3.ensures.len;
      deadlines_room = c.use_reserve-3.ensures.capacity;
      parts = c.adopt_parts.ensures;
    }))
