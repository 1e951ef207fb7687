-- Whether a run may start over a store whose file has this mark and whose log says this.
use Rattle.sms_store_files.specs.declared.judging.LogFinding.{LogFinding}
use Rattle.sms_store_files.specs.declared.judging.LogFinding.TheVariants.{Missing, Emptied, Emptying, Unsigned, Whole, Torn, Damaged}
use Rattle.sms_store_files.specs.declared.marking.Mark.{Mark}
use Rattle.sms_store_files.specs.declared.marking.Mark.TheVariants.{Unmarked, Closed, Open}
use Rattle.sms_store_files.specs.declared.verdicts.StartVerdict.{StartVerdict}
use Rattle.sms_store_files.specs.declared.verdicts.StartVerdict.TheVariants.{Taken, TakenTorn, NoLog, HasNoHead, OtherFiles, IsDamaged}

-- No run has the file open, so it has all, and a log with frames is another file's.
abbrev pub verdict_closed : LogFinding → StartVerdict
verdict_closed Missing = Taken
verdict_closed Emptied = Taken
verdict_closed Emptying = Taken
verdict_closed Unsigned = HasNoHead
verdict_closed Whole = OtherFiles
verdict_closed Torn = OtherFiles
verdict_closed Damaged = OtherFiles

-- A run had it open, whose log has what it confirmed: a log that is gone took that with it.
abbrev pub verdict_open : LogFinding → StartVerdict
verdict_open Missing = NoLog
verdict_open Emptied = Taken
verdict_open Emptying = Taken
verdict_open Unsigned = HasNoHead
verdict_open Whole = Taken
verdict_open Torn = TakenTorn
verdict_open Damaged = IsDamaged

-- Nothing is known of it. It is a store of before there were marks, or a new one.
abbrev pub verdict_unmarked : LogFinding → StartVerdict
verdict_unmarked Missing = Taken
verdict_unmarked Emptied = Taken
verdict_unmarked Emptying = Taken
verdict_unmarked Unsigned = HasNoHead
verdict_unmarked Whole = Taken
verdict_unmarked Torn = TakenTorn
verdict_unmarked Damaged = IsDamaged

abbrev pub verdict_of : Mark → LogFinding → StartVerdict
verdict_of Unmarked finding = verdict_unmarked finding
verdict_of (Closed step) finding = verdict_closed finding
verdict_of (Open step) finding = verdict_open finding
