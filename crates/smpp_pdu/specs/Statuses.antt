-- The statuses of responses and their numbers.
use Rattle.std.specs.Prelude.{ℕ, List, [], ◌∷◌, Option, find, ◌==◌}
use Rattle.smpp_pdu.specs.declared.status.CommandStatus.{CommandStatus}
use Rattle.smpp_pdu.specs.declared.status.CommandStatus.TheVariants.{ESME_ROK, ESME_RINVMSGLEN, ESME_RINVCMDLEN, ESME_RINVCMDID, ESME_RINVBNDSTS, ESME_RALYBND}
use Rattle.smpp_pdu.specs.declared.status.CommandStatus.TheVariants.{ESME_RSYSERR, ESME_RINVSRCADR, ESME_RINVDSTADR, ESME_RINVMSGID, ESME_RBINDFAIL}
use Rattle.smpp_pdu.specs.declared.status.CommandStatus.TheVariants.{ESME_RINVPASWD, ESME_RINVSYSID, ESME_RCANCELFAIL, ESME_RMSGQFUL, ESME_RINVESMCLASS}
use Rattle.smpp_pdu.specs.declared.status.CommandStatus.TheVariants.{ESME_RSUBMITFAIL, ESME_RTHROTTLED, ESME_RINVSCHED, ESME_RINVEXPIRY, ESME_RINVOPTPARSTREAM}
use Rattle.smpp_pdu.specs.declared.status.CommandStatus.TheVariants.{ESME_ROPTPARNOTALLWD, ESME_RINVPARLEN}

-- the command_status (SMPP v3.4 5.1.3)
abbrev pub status_number : CommandStatus → ℕ
status_number ESME_ROK = 0x00000000
status_number ESME_RINVMSGLEN = 0x00000001
status_number ESME_RINVCMDLEN = 0x00000002
status_number ESME_RINVCMDID = 0x00000003
status_number ESME_RINVBNDSTS = 0x00000004
status_number ESME_RALYBND = 0x00000005
status_number ESME_RSYSERR = 0x00000008
status_number ESME_RINVSRCADR = 0x0000000A
status_number ESME_RINVDSTADR = 0x0000000B
status_number ESME_RINVMSGID = 0x0000000C
status_number ESME_RBINDFAIL = 0x0000000D
status_number ESME_RINVPASWD = 0x0000000E
status_number ESME_RINVSYSID = 0x0000000F
status_number ESME_RCANCELFAIL = 0x00000011
status_number ESME_RMSGQFUL = 0x00000014
status_number ESME_RINVESMCLASS = 0x00000043
status_number ESME_RSUBMITFAIL = 0x00000045
status_number ESME_RTHROTTLED = 0x00000058
status_number ESME_RINVSCHED = 0x00000061
status_number ESME_RINVEXPIRY = 0x00000062
status_number ESME_RINVOPTPARSTREAM = 0x000000C0
status_number ESME_ROPTPARNOTALLWD = 0x000000C1
status_number ESME_RINVPARLEN = 0x000000C2

-- every status that is used
abbrev pub statuses : List CommandStatus
statuses =
    ESME_ROK ∷ ESME_RINVMSGLEN ∷ ESME_RINVCMDLEN ∷ ESME_RINVCMDID ∷ ESME_RINVBNDSTS ∷ ESME_RALYBND ∷ ESME_RSYSERR ∷ ESME_RINVSRCADR ∷ ESME_RINVDSTADR
    ∷ ESME_RINVMSGID ∷ ESME_RBINDFAIL ∷ ESME_RINVPASWD
    ∷ ESME_RINVSYSID ∷ ESME_RCANCELFAIL ∷ ESME_RMSGQFUL ∷ ESME_RINVESMCLASS ∷ ESME_RSUBMITFAIL ∷ ESME_RTHROTTLED ∷ ESME_RINVSCHED ∷ ESME_RINVEXPIRY
    ∷ ESME_RINVOPTPARSTREAM ∷ ESME_ROPTPARNOTALLWD ∷ ESME_RINVPARLEN ∷ []

-- the status with that number
unfoldable pub status_of : ℕ → Option CommandStatus
status_of number = find (λ (status : CommandStatus). status_number status == number) statuses
