use Rattle.smsc_server.proofs.ReceiptsGo.{receipts_go}
use Rattle.smsc_server.proofs.run_laws.receipts_go_to_their_accounts.Goals as goal

pub returns : goal.returns
returns c = receipts_go
