-- The commands and their numbers.
use Rattle.std.specs.Prelude.{ℕ, List, [], ◌∷◌, Option, find, ◌==◌}
use Rattle.smpp_pdu.specs.declared.command.CommandId.{CommandId}
use Rattle.smpp_pdu.specs.declared.command.CommandId.TheVariants.{BindReceiver, BindTransmitter, QuerySm, SubmitSm, DeliverSm, Unbind, CancelSm}
use Rattle.smpp_pdu.specs.declared.command.CommandId.TheVariants.{BindTransceiver, EnquireLink, GenericNack, BindReceiverResp, BindTransmitterResp, QuerySmResp}
use Rattle.smpp_pdu.specs.declared.command.CommandId.TheVariants.{SubmitSmResp, DeliverSmResp, UnbindResp, CancelSmResp, BindTransceiverResp, EnquireLinkResp}

-- the command_id (SMPP v3.4 5.1.2.1)
abbrev pub command_number : CommandId → ℕ
command_number BindReceiver = 0x00000001
command_number BindTransmitter = 0x00000002
command_number QuerySm = 0x00000003
command_number SubmitSm = 0x00000004
command_number DeliverSm = 0x00000005
command_number Unbind = 0x00000006
command_number CancelSm = 0x00000008
command_number BindTransceiver = 0x00000009
command_number EnquireLink = 0x00000015
command_number GenericNack = 0x80000000
command_number BindReceiverResp = 0x80000001
command_number BindTransmitterResp = 0x80000002
command_number QuerySmResp = 0x80000003
command_number SubmitSmResp = 0x80000004
command_number DeliverSmResp = 0x80000005
command_number UnbindResp = 0x80000006
command_number CancelSmResp = 0x80000008
command_number BindTransceiverResp = 0x80000009
command_number EnquireLinkResp = 0x80000015

-- every command
abbrev pub commands : List CommandId
commands =
    BindReceiver ∷ BindTransmitter ∷ QuerySm ∷ SubmitSm ∷ DeliverSm ∷ Unbind ∷ CancelSm ∷ BindTransceiver ∷ EnquireLink ∷ GenericNack
    ∷ BindReceiverResp ∷ BindTransmitterResp ∷ QuerySmResp ∷ SubmitSmResp ∷ DeliverSmResp ∷ UnbindResp ∷ CancelSmResp ∷ BindTransceiverResp ∷ EnquireLinkResp
    ∷ []

-- the command with that command_id
unfoldable pub command_of : ℕ → Option CommandId
command_of number = find (λ (command : CommandId). command_number command == number) commands
