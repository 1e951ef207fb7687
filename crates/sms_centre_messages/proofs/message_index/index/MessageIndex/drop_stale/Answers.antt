use Rattle.sms_centre_messages.proofs.message_index.index.MessageIndex.drop_stale.Goals as goal

pub returns-then-not-drop_stale_first : goal.returns-then-not-drop_stale_first
returns-then-not-drop_stale_first c = λ ms ps h. c.drop_stale_first.ensures ms ps (c.loop-turn.invariant ms ps h)

pub loop-turn-preserved : goal.loop-turn-preserved
loop-turn-preserved c = λ ms ps h. c.drop_stale_first.ensures ms ps (c.loop-turn.invariant ms ps h)
