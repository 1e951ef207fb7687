-- The table of what waits: a line for each handset.
use Rattle.std.specs.Prelude.{ℕ, List, ◌++◌, None, codes, decimal}
use Rattle.smsc_cli.specs.declared.centre_table.stuck.StuckLine.{StuckLine}
use Rattle.smsc_cli.specs.centre_table.CentreTable.{due_word, time_of}
use Rattle.smsc_cli.specs.columns.Columns.{cell, lines, name_cell}

-- for whom how much waits, and since when
unfoldable pub what_waits : StuckLine → List ℕ
what_waits l = name_cell 22 l.handset ++ (cell 8 (decimal l.waiting) ++ (time_of l.since ++ codes " "))

-- how often it failed, and when the next attempt is
unfoldable pub attempts : StuckLine → List ℕ
attempts l = cell 7 (decimal l.failed) ++ (due_word None l.due ++ codes "\n")

abbrev pub stuck_line : StuckLine → List ℕ
stuck_line l = what_waits l ++ attempts l

abbrev pub stuck_head : List ℕ
stuck_head = codes "TO                    WAITING SINCE        FAILED DUE\n"

unfoldable pub stuck_table : List StuckLine → List ℕ
stuck_table rows = stuck_head ++ lines stuck_line rows
