use Rattle.std.proofs.Common.{sym, ap, ◌∙◌, ◌++◌, append_assoc}
use Rattle.std.proofs.lemmas.Str.{chars_past_char, IsUtf8-past_char}
use Rattle.smsc_cli.specs.columns.Columns.{on_line, character_on_line}
use Rattle.smsc_cli.proofs.columns.Texts.{text_ended}
use Rattle.smsc_cli.proofs.columns.cells.put_text.Goals as goal

pub loop-character-preserved : goal.loop-character-preserved
loop-character-preserved c =
    let l = c.loop-character in
    let rest = l.character-iterator.rest.now in
    let later = c.next.new.self.rest.now in
    let split = chars_past_char rest later c.in-Some.character l.invariant.0 c.in-Some.ensures.steps.0 in (
      IsUtf8-past_char rest later c.in-Some.character l.invariant.0 c.in-Some.ensures.steps.0,
      rw c.in_ok-put_shown.ensures
          (append_assoc l.out (character_on_line c.in-Some.character) _ ∙ (sym (ap (λ text. l.out ++ on_line text) split) ∙ l.invariant.1)),
    )

pub returns : goal.returns
returns c =
    let l = c.loop-character in
    text_ended l.out l.character-iterator.rest.now c.in-None.ensures.steps.0.0 ∙ l.invariant.1
