use Rattle.sms_world.proofs.wrong_plays.SplitTried.{mixed_round, no_place, other_content, other_row, other_words, right_split}
use Rattle.sms_world.proofs.wrong_plays.other_splits_are_refused.Goals as goal

pub returns : goal.returns
returns c = record { right = right_split; text = other_content; placed = no_place; words = other_words; whole = mixed_round; said = other_row }
