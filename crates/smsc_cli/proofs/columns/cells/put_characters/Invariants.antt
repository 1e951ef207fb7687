use Rattle.std.proofs.Common.{◌≡◌, ◌++◌, drop}
use Rattle.smsc_cli.specs.columns.Columns.{on_line}
use Rattle.smsc_cli.proofs.columns.cells.put_characters.Given as goal

abbrev pub invariant-loop-character : goal.invariant-loop-character
invariant-loop-character l = l.out ++ on_line (drop l.character-index l.characters) ≡ l.fn.out ++ on_line l.characters
