use Rattle.std.proofs.Common.{List, length, ◌∙◌, ap, inl, inr, refl, subst, sym}
use Rattle.sms_rows.specs.declared.keep.refusals.Refusals.{Refusals}
use Rattle.sms_centre.specs.Enrolling.{accounts_of}
use Rattle.sms_centre.specs.state.CentreState.{Represents, CentreStateOf}
use Rattle.sms_intake.specs.declared.submission.CentreAccount.{CentreAccount}
use Rattle.smsc_service.specs.Accounts.{bare}
use Rattle.smsc_service.specs.InSeated.{held_by}
use Rattle.smsc_service.proofs.AccountsCome.{accounts_are, none_come}
use Rattle.smsc_service.proofs.Archived.{AreHad}
use Rattle.smsc_service.proofs.Standing.{again_of}
use Rattle.smsc_service.proofs.service.ServiceMachineJobReply.settle.Goals as goal

pub returns-in-Ok-clause-settled : goal.returns-in-Ok-clause-settled
returns-in-Ok-clause-settled g c = λ honest s r running.
    let standing = running.standing in
    let centre = subst (λ (x : CentreStateOf). Represents s.serving.core x) (sym c.in-Ok.ensures.same) standing.made.centre in
    let archived : AreHad (g.A.Archive.keeps c.tell.new.self.archive) s.gone = λ x k.
    subst (λ (a : g.row.A.Denot). g.A.Archive.keeps a x.message x.parts) (sym c.tell.ensures.archive) (running.archived x k) in
    record {
      standing = record {
        made = record {
          rows = c.in-Ok.ensures.outcome (bare r.serving.core.rows) (bare s.serving.core.rows) honest standing.made.rows;
          centre = centre;
          seats = standing.made.seats;
        };
        sound = standing.made.centre.centre.sound.rows;
        seats = c.copy_from.ensures ∙ standing.made.seats;
        again = inl (c.in-Ok.ensures.closed, refl);
        accounts = record {
          come = none_come s.serving.core.rows.setup.accounts _ (accounts_are s.serving.core _ centre);
          count = c.account_count-self.ensures ∙ ap (λ (l : List CentreAccount). length l) (accounts_are s.serving.core _ centre);
        };
      };
      archived = archived;
      left = archived;
      kept = let is = c.tell.ensures.keep ∙ running.kept.0 in (is, is);
    }

pub returns-in-Err-clause-settled : goal.returns-in-Err-clause-settled
returns-in-Err-clause-settled g c = λ honest s r running.
    let standing = running.standing in (
      record {
        waiting = record {
          rows = elim (c.in-Err.ensures.outcome (bare r.serving.core.rows) (bare s.serving.core.rows) honest standing.made.rows) [
            | inl spans ↦ inl spans.0
            | inr closed ↦ inr closed
          ];
          again = again_of (held_by c.args.self.now.seated) s.serving r.serving c.in-Err.ensures.asked standing.again;
          seats = standing.seats;
        };
        accounts = record {
          come = (standing.accounts.come.0, ap accounts_of c.in-Err.ensures.same ∙ standing.accounts.come.1);
          count = standing.accounts.count;
        };
      },
      running.left,
      running.kept.1,
    )

pub returns-in-Err-clause-refused : goal.returns-in-Err-clause-refused
returns-in-Err-clause-refused g c = ap (λ (r : Refusals). r.calls) c.in-Err.ensures.counted
