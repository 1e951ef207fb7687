use Rattle.std.proofs.Common.{◌≤◌, ◌∙◌, ap, length, List, sym, subst}
use Rattle.sms_store_memory.specs.centre.RowsInKeep.{rows_in}
use Rattle.sms_centre_spec.specs.CentreEvent.{moment_of, recovered}
use Rattle.sms_centre_spec.specs.declared.rows.Rows.{Rows}
use Rattle.sms_centre_spec.specs.declared.setup.Setup.{Setup}
use Rattle.sms_centre.specs.state.CentreState.{Represents, CentreStateOf}
use Rattle.sms_intake.specs.declared.submission.CentreAccount.{CentreAccount}
use Rattle.sms_play.specs.PlayedEvent.{sessions_from}
use Rattle.sms_player.proofs.centre.Plans.{again_is, recovered_as}
use Rattle.sms_player.proofs.centre.starting.restart.Goals as goal

pub sessions_of-requires : goal.sessions_of-requires
sessions_of-requires c = let was = c.requires.consistent.1 in
    subst (λ (accounts : List CentreAccount). length accounts ≤ 32) (sym (c.as_slice.ensures ∙ ap (λ (s : Setup). s.accounts) c.setup.ensures ∙ ap (λ (r : Rows). r.setup.accounts) was.same_rows)) was.accounts

pub returns-in-Ok-clause-played : goal.returns-in-Ok-clause-played
returns-in-Ok-clause-played c = λ core was.
    let seats = c.in_ok-sessions.ensures.sessions ∙ ap (λ (accounts : List CentreAccount). sessions_from 0 accounts) (c.as_slice.ensures ∙ ap (λ (s : Setup). s.accounts) c.setup.ensures ∙ ap (λ (r : Rows). r.setup.accounts) was.same_rows) in
    again_is core c.args.handsets.now c.start_again.new.self (rows_in c.args.keep.now)
    (recovered_as core.rows c.args.handsets.now _ _ c.start_again.new.self seats
    (c.in-Ok.ensures.centre_state core was.centre (c.moment_of-moment.ensures ∙ ap (λ (r : Rows). moment_of r) was.same_rows)))
    was.same_rows was.accounts

pub returns-in-Ok-clause-consistent : goal.returns-in-Ok-clause-consistent
returns-in-Ok-clause-consistent c =
    let core = c.requires.consistent.0 in
    (recovered core.rows c.args.handsets.now (sessions_from 0 core.rows.setup.accounts), returns-in-Ok-clause-played c core c.requires.consistent.1)

pub returns-in-Err-clause-consistent : goal.returns-in-Err-clause-consistent
returns-in-Err-clause-consistent c =
    let core = c.requires.consistent.0 in
    let was = c.requires.consistent.1 in
    (core, record { centre = subst (λ (s : CentreStateOf). Represents core s) (sym c.in-Err.ensures.same) was.centre; same_rows = was.same_rows; accounts = was.accounts })
