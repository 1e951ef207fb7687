-- The digits of a number are its text.
use Rattle.std.proofs.Common.{◌≡◌, ℕ, List, ◌++◌, Result, ap, ◌∙◌}
use Rattle.std.specs.Result.{OnOk}
use Rattle.std.proofs.lemmas.Result.{on_ok_weaker}
use Rattle.sms_base.specs.MessageId.{IsIdText, IsMessageId, id_text}
use Rattle.sms_base.proofs.MessageIds.{one_text, text_writes}
use Rattle.smsc_cli.specs.columns.Columns.{cell}

pub id_put : {E : Type 0} (r : Result (Unit {0}) E) (before after text : List ℕ) (n : ℕ) → IsMessageId n → IsIdText text n → OnOk r (after ≡ before ++ cell 11 text)
    → OnOk r (after ≡ before ++ cell 11 (id_text n))
id_put r before after text n h t ok =
    on_ok_weaker r (λ (e : after ≡ before ++ cell 11 text). e ∙ ap (λ (l : List ℕ). before ++ cell 11 l) (one_text text (id_text n) n t (text_writes n h))) ok
