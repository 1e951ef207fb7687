use Rattle.std.proofs.Common.{◌≡◌}
use Rattle.std.specs.Str.{chars, IsUtf8}
use Rattle.sms_concat.specs.Counting.{text_begun, with_text}
use Rattle.sms_concat.proofs.counting.tally_text.Given as goal

-- the rest of the text leads where the whole does
abbrev pub invariant-loop-character : goal.invariant-loop-character
invariant-loop-character l = IsUtf8 l.character-iterator.rest.now × (with_text l.tally (chars l.character-iterator.rest.now) ≡ with_text text_begun (chars l.text))
