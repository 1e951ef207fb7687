use Rattle.std.proofs.Common.{◌≡◌, ◌++◌}
use Rattle.std.specs.Str.{chars, IsUtf8}
use Rattle.smsc_cli.specs.columns.Columns.{on_line}
use Rattle.smsc_cli.proofs.columns.cells.put_text.Given as goal

-- what was put, and the rest of the text, are the whole
abbrev pub invariant-loop-character : goal.invariant-loop-character
invariant-loop-character l =
    IsUtf8 l.character-iterator.rest.now
    × (l.out ++ on_line (chars l.character-iterator.rest.now) ≡ l.fn.out ++ on_line (chars l.text))
