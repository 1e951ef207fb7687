use Rattle.std.proofs.Common.{◌∙◌, ap, drop, length, List, []}
use Rattle.sms_play.specs.Premises.{all_pairs, newest_first, part_allocations}
use Rattle.sms_script.specs.declared.report.rows.GivenRow.{GivenRow}
use Rattle.sms_play.proofs.judging.Verdicts.{rows_behind, given_have_parts, verdict_given, watch_given}
use Rattle.sms_play.proofs.judging.premises.Judge.take_given.Goals as goal

pub returns-clause-begins : goal.returns-clause-begins
returns-clause-begins g c = λ before after represents goes knows.
    let all = c.given-all.ensures after represents in
    let rows = c.behind-rows.ensures ∙ ap (λ (z : List GivenRow). drop c.args.self.now.given z) all ∙ rows_behind before after c.args.self.now goes knows in
    verdict_given before after c.args.self.now goes knows c.in_ok-fresh.fresh c.behind-rows.result.now rows
    (c.in_ok-fresh.ensures.begins after before.given (newest_first [] (part_allocations before.centre.rows.parts before.given)) (all_pairs before.parties) represents knows.watch)

pub returns-clause-knows : goal.returns-clause-knows
returns-clause-knows g c = λ before after represents goes knows.
    let all = c.given-all.ensures after represents in
    let rows = c.behind-rows.ensures ∙ ap (λ (z : List GivenRow). drop c.args.self.now.given z) all ∙ rows_behind before after c.args.self.now goes knows in
    record {
      given = ap (λ (z : List GivenRow). length z) all;
      accepted = knows.accepted;
      have_parts = given_have_parts before after c.args.self.now goes knows;
      watch = watch_given before after c.args.self.now goes knows c.look_at_given.new.watch c.behind-rows.result.now rows
          (c.in_ok-fresh.ensures.watch after before.given (newest_first [] (part_allocations before.centre.rows.parts before.given)) (all_pairs before.parties) represents knows.watch);
    }
