-- The words of final states (SMPP v3.4 appendix B).
use Rattle.std.specs.Prelude.{ℕ, List, codes}
use Rattle.sms_base.specs.declared.final_state.FinalState.{FinalState}
use Rattle.sms_base.specs.declared.final_state.FinalState.TheVariants.{Delivered, Expired, Deleted, Undeliverable}

abbrev pub final_word : FinalState → List ℕ
final_word Delivered = codes "DELIVRD"
final_word Expired = codes "EXPIRED"
final_word Deleted = codes "DELETED"
final_word Undeliverable = codes "UNDELIV"
