use Rattle.std.proofs.Common.{◌≡◌, rules, sym, ◌∙◌}
use Rattle.sqlite.proofs.StateLemmas.{survives_weaker}
use Rattle.sms_store_sql.proofs.listing.Steps.{if_ok}
use Rattle.sms_store.proofs.keeping.keep.AllSurvey.survey.Goals as goal

pub returns-clause-ok : goal.returns-clause-ok
returns-clause-ok g c clean ours =
    if_ok c.read.result (λ found h. (
      record {
        was_open = h.0.0.was_open;
        is_open = h.0.0.is_open;
        now_is = h.0.0.now_is;
        committed_is = h.0.0.committed_is ∙ sym (c.is_autocommit.ensures.settled c.if-not-is_autocommit.false h.0.0.was_open);
        mode = search (rules, h.0.0.mode);
      },
      h.1,
    )) (c.read.ensures.found clean ours)

pub returns-clause-err : goal.returns-clause-err
returns-clause-err g c clean ours live =
    let it = c.read.ensures.stays clean ours in
    let pair = it.same (c.is_autocommit.ensures.settled c.if-not-is_autocommit.false (it.was_open live)) live in
    search (rules, pair)

pub returns-clause-stop : goal.returns-clause-stop
returns-clause-stop g c = survives_weaker _ _ _ _ (λ _ db none ours. absurd (none ours)) c.read.ensures.survives
