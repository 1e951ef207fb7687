-- Stages of a turn.
use Rattle.std.proofs.Common.{◌≡◌, ℕ, Bool, false, List, refl, sym, ap, ◌∙◌}
use Rattle.smpp_session.specs.declared.turn.SessionStep.{SessionStep}
use Rattle.smpp_session.specs.Windows.{is_among}
use Rattle.smpp_session.specs.SessionTable.{delivered}

pub delivered_not : (number : ℕ) (accepted : Bool) (turn : SessionStep) (waiting : List ℕ) → is_among number turn.conversation.unanswered ≡ false → waiting ≡ turn.conversation.unanswered
    → (let next : SessionStep = record { conversation = record turn.conversation { unanswered = waiting }; actions = turn.actions } in next ≡ delivered number accepted turn)
delivered_not number accepted turn waiting none is =
    let same : delivered number accepted turn ≡ turn = rw none refl in
    ap (λ (u : List ℕ). with_waiting u) is ∙ sym same where
      with_waiting : List ℕ → SessionStep
      with_waiting u = record { conversation = record turn.conversation { unanswered = u }; actions = turn.actions }
