use Rattle.std.proofs.lemmas.Result.{on_ok_weaker}
use Rattle.std.specs.Prelude.{codes, string_bytes}
use Rattle.smsc_status.specs.Json.{account_text, array_text, commits_text, counts_text, json_text, lists_text, lost_text, messages_text, refusals_text, run_text, stuck_text}
use Rattle.smsc_status.specs.Quoting.{string}
use Rattle.smsc_status.proofs.Chains.{chain10}
use Rattle.smsc_status.proofs.json.put_json.Goals as goal

pub returns : goal.returns
unfolding json_text
returns c =
    let v = c.args.view.now in
    on_ok_weaker c.put_lost.result
    (λ e. chain10 c.args.out.now
    (run_text v) (messages_text v.messages) (counts_text v.counts) (lists_text v) (stuck_text v) (array_text (codes "accounts") account_text v.accounts.now) (refusals_text v)
    (commits_text v.store v.commits c.args.median c.args.most) (array_text (codes "events") (λ event. string (string_bytes event)) v.events.now)
    (lost_text v.lost_events v.lost_lines)
    c.in_ok-put_run.ensures c.in_ok-put_messages.ensures c.in_ok-put_counts.ensures c.in_ok-put_lists.ensures c.in_ok-put_stuck.ensures c.in_ok-put_array.ensures c.in_ok-put_refusals.ensures
    c.in_ok-put_commits.ensures c.in_ok-put_array-2.ensures e)
    c.put_lost.ensures
