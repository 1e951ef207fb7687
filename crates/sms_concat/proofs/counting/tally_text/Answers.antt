use Rattle.std.proofs.Common.{sym, ap, ◌∙◌}
use Rattle.std.proofs.lemmas.Str.{chars_past_char, IsUtf8-past_char}
use Rattle.sms_concat.specs.Counting.{with_text, text_outcome}
use Rattle.sms_concat.proofs.Tallies.{text_ended}
use Rattle.sms_concat.proofs.counting.tally_text.Goals as goal

pub loop-character-preserved : goal.loop-character-preserved
loop-character-preserved c =
    let l = c.loop-character in
    let rest = l.character-iterator.rest.now in
    let later = c.next.new.self.rest.now in
    let split = chars_past_char rest later c.in-Some.character l.invariant.0 c.in-Some.ensures.steps.0 in (
      IsUtf8-past_char rest later c.in-Some.character l.invariant.0 c.in-Some.ensures.steps.0,
      rw c.with-tally.ensures (sym (ap (with_text l.tally) split) ∙ l.invariant.1),
    )

pub returns : goal.returns
returns c =
    let l = c.loop-character in
    c.parts.ensures ∙ ap text_outcome (text_ended l.tally l.character-iterator.rest.now c.in-None.ensures.steps.0.0 ∙ l.invariant.1)
