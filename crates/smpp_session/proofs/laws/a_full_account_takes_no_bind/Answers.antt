use Rattle.std.proofs.Common.{refl}
use Rattle.smpp_session.specs.declared.account.Login.TheVariants.{Known, UnknownName, WrongPassword, Full}
use Rattle.smpp_session.proofs.Rooms.{bind_by, full_is_refused}
use Rattle.smpp_session.proofs.laws.a_full_account_takes_no_bind.Goals as goal

pub returns-clause-refused : goal.returns-clause-refused
returns-clause-refused c = λ accounts kind number place bind turn known full.
    bind_by accounts kind number bind turn (Known place) Full known (full_is_refused turn.conversation.full place full)

pub returns-clause-unknown : goal.returns-clause-unknown
returns-clause-unknown c = λ accounts kind number bind turn unknown. bind_by accounts kind number bind turn UnknownName UnknownName unknown refl

pub returns-clause-wrong : goal.returns-clause-wrong
returns-clause-wrong c = λ accounts kind number bind turn wrong. bind_by accounts kind number bind turn WrongPassword WrongPassword wrong refl
