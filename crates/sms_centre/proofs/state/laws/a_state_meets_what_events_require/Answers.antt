use Rattle.sms_centre.proofs.state.laws.a_state_meets_what_events_require.Goals as goal

pub returns : goal.returns
returns c = record {
  sound = λ core s h. h.centre.sound;
  messages = λ core s h. h.centre.messages_are;
  reference_index = λ core s h. h.reference_index;
  awaited = λ core s h. h.awaited;
  message_order = λ core s h. h.centre.messages_are.message_keys;
  part_order = λ core s h. h.centre.messages_are.part_keys;
}
