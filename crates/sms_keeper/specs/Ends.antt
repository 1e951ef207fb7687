-- Why a term ended.
use Rattle.sms_keeper.specs.declared.keeper.End.{End}
use Rattle.sms_keeper.specs.declared.keeper.End.TheVariants.{AllClosed, Refused}

-- the first fact where the machine can continue, the second where it has to be opened again
abbrev pub MatchEnd : End → Type 0 → Type 0 → Type 0
MatchEnd AllClosed went ended = went
MatchEnd Refused went ended = ended
