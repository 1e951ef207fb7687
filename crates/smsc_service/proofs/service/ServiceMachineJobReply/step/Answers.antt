use Rattle.std.proofs.Common.{◌≡◌, ◌⊎◌, ◌∙◌, ◌++◌, ℕ, length, ap, sym, subst}
use Rattle.sms_centre.specs.Archiving.{Stays}
use Rattle.sms_centre_rows.specs.declared.messages.message.MessageRow.{MessageRow}
use Rattle.sms_centre_group.specs.Grouping.{store_of}
use Rattle.sms_centre_spec.specs.SoundRows.{IsSound}
use Rattle.sms_centre_spec.specs.declared.rows.Rows.{Rows}
use Rattle.sms_keeper.specs.declared.machine.Fate.TheVariants.{Refused}
use Rattle.smsc_service.specs.Asking.{asked_by}
use Rattle.smsc_service.specs.declared.asking.SeatRequest.{SeatRequest}
use Rattle.smsc_service.specs.Accounts.{ComeBehind, bare}
use Rattle.smsc_service.specs.InSeated.{IsMadeBy, accounts_in, held_by}
use Rattle.smsc_service.specs.Seats.{Seats}
use Rattle.smsc_service.specs.Serving.{after_for, outs_for}
use Rattle.smsc_service.specs.Course.{went_for}
use Rattle.smsc_service.proofs.AccountsCome.{bare_sound, come_still}
use Rattle.smsc_service.proofs.Archived.{AreHad, archived_more, archived_still, forgets_to}
use Rattle.smsc_service.proofs.Standing.{IsAgain, after_rows, again_more, again_refused, by_fate}
use Rattle.smsc_service.proofs.service.ServiceMachineJobReply.step.Goals as goal

pub returns-clause-gives : goal.returns-clause-gives
returns-clause-gives g c = λ honest from left running.
    let stimulus = c.args.stimulus.now in
    let s = from.serving in
    let r = left.serving in
    let standing = running.standing in
    let asked = c.asked_by-asked.result in
    let other = asked_by r.seats stimulus in
    let fate = c.answer-fate.result.fate in
    let seated = c.answer-fate.new.self in
    let is : asked ≡ asked_by s.seats stimulus = c.asked_by-asked.ensures.asked ∙ ap (λ (q : Seats). asked_by q stimulus) standing.made.seats in
    let alike : s.seats ≡ r.seats → asked ≡ other = λ same. is ∙ ap (λ (q : Seats). asked_by q stimulus) same in
    let base = bare r.core.rows in
    let sound = bare_sound r.core.rows standing.sound in
    let step = c.answer-fate.ensures.gives s base honest sound standing.made in
    let has : MessageRow → ℕ → Type 0 = g.A.Archive.keeps c.note.new.self.archive in
    let kept : Stays (g.A.Archive.keeps c.answer-fate.new.archive) has = λ m parts k. subst (λ (a : g.row.A.Denot). g.A.Archive.keeps a m parts) (sym c.note.ensures.archive) k in
    let old : AreHad has from.gone = λ x k. kept x.message x.parts (c.answer-fate.ensures.kept x.message x.parts (running.archived x k)) in
    let stays : AreHad has left.gone = λ x k. kept x.message x.parts (c.answer-fate.ensures.kept x.message x.parts (running.left x k)) in
    let new : AreHad has (went_for asked fate s ++ from.gone) = archived_more has asked fate s from.gone
    (λ e. forgets_to (g.A.Archive.keeps c.answer-fate.new.archive) has kept asked s (c.answer-fate.ensures.archived s base honest sound standing.made e)) old in
    let went : AreHad has (went_for (asked_by s.seats stimulus) fate s ++ from.gone) = subst (λ (a : SeatRequest). AreHad has (went_for a fate s ++ from.gone)) is new in
    let still : AreHad has (went_for other Refused r ++ left.gone) = archived_still has other r left.gone stays in
    let rows = after_rows other r stimulus in
    let counted = standing.accounts.count ∙ ap (λ (x : Rows). length x.setup.accounts) (sym rows) in (
      step.0 ∙ ap (λ (a : SeatRequest). outs_for a fate s stimulus) is,
      c.refused_with_group-if_refused.ensures.outs r standing.seats,
      by_fate fate step.1
          (λ made. record {
            standing = record {
              made = subst (λ (x : Rows). IsMadeBy g.K.RowStore.state (bare x) seated (after_for (asked_by s.seats stimulus) fate s stimulus)) (sym rows)
                  (subst (λ (a : SeatRequest). IsMadeBy g.K.RowStore.state base seated (after_for a fate s stimulus)) is made);
              sound = subst IsSound (sym rows) standing.sound;
              seats = c.refused_with_group-if_refused.ensures.seats r standing.seats;
              again = subst (λ (a : SeatRequest). IsAgain (held_by seated) (after_for a fate s stimulus) (after_for other Refused r stimulus)) is
                  (again_more asked other s r stimulus fate (held_by c.args.self.now.seated) (held_by seated) alike c.answer-fate.ensures.quiet standing.again);
              accounts = record {
                come = subst (λ (x : Rows). ComeBehind x.setup.accounts (accounts_in seated)) (sym rows)
                    (come_still asked fate s stimulus r.core.rows.setup.accounts c.args.self.now.seated.machine.centre seated.machine.centre standing.accounts.come standing.made.centre made.centre);
                count = counted;
              };
            };
            archived = went;
            left = still;
            kept = (c.note.ensures.keep ∙ running.kept.0, c.note.ensures.keep ∙ running.kept.1);
          })
          (λ refused left_so. (
            record {
              waiting = record {
                rows = subst (λ (x : Rows). (g.K.RowStore.state (store_of seated.machine.keep)).holds (bare x) ⊎ (g.K.RowStore.state (store_of seated.machine.keep)).is_closed) (sym rows) left_so;
                again = again_refused asked other s r stimulus fate (held_by c.args.self.now.seated) (held_by seated) alike c.answer-fate.ensures.quiet refused standing.again;
                seats = c.refused_with_group-if_refused.ensures.seats r standing.seats;
              };
              accounts = record {
                come = subst (λ (x : Rows). ComeBehind x.setup.accounts (accounts_in seated)) (sym rows)
                    (standing.accounts.come.0, (c.answer-fate.ensures.refused s base honest sound standing.made refused).1 ∙ standing.accounts.come.1);
                count = counted;
              };
            },
            still,
            c.note.ensures.keep ∙ running.kept.1,
          )),
    )

pub returns-clause-refused : goal.returns-clause-refused
returns-clause-refused g c = λ honest s r running is.
    let standing = running.standing in
    let refused = c.answer-fate.ensures.refused s.serving (bare r.serving.core.rows) honest (bare_sound r.serving.core.rows standing.sound) standing.made is in refused.0
