-- The words of sessions.
use Rattle.std.specs.Prelude.{ℕ, List, codes}
use Rattle.smsc_status.specs.declared.figures.SessionKind.{SessionKind}
use Rattle.smsc_status.specs.declared.figures.SessionKind.TheVariants.{Transmitter, Receiver, Transceiver}

abbrev pub kind_word : SessionKind → List ℕ
kind_word Transmitter = codes "transmitter"
kind_word Receiver = codes "receiver"
kind_word Transceiver = codes "transceiver"
