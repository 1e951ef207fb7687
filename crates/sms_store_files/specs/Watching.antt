-- A store's two files in a run.
use Rattle.std.specs.Prelude.{◌≡◌, ◌≤◌, ℕ, Option, Some, None}
use Rattle.sms_store_files.specs.declared.watching.FileNumber.{FileNumber}
use Rattle.sms_store_files.specs.declared.watching.FilesLook.{FilesLook}
use Rattle.sms_store_files.specs.declared.watching.OpenedFiles.{OpenedFiles}

-- A file that was looked at before and after an open was opened if it is there after, and is the one that was there before, if one was.
abbrev pub IsOpened : Option FileNumber → Option FileNumber → FileNumber → Type 0
IsOpened None None opened = ⊥
IsOpened None (Some after) opened = after ≡ opened
IsOpened (Some before) None opened = ⊥
IsOpened (Some before) (Some after) opened = (before ≡ opened) × (after ≡ opened)

abbrev pub AreOpened : FilesLook → FilesLook → OpenedFiles → Type 0
AreOpened before after opened = IsOpened before.file after.file opened.file × IsOpened before.log after.log opened.log

-- Both are still the files that were opened, and the log has not become shorter than it was seen to be.
pub record AreStill (opened : OpenedFiles) (least : ℕ) (look : FilesLook) : Type 0 where
  pub file : look.file ≡ Some opened.file
  pub log : look.log ≡ Some opened.log
  pub long : least ≤ look.log_octets
