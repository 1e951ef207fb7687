use Rattle.std.proofs.Common.{length, map}
use Rattle.std.proofs.lemmas.Result.{on_ok_weaker}
use Rattle.std.specs.Prelude.{codes}
use Rattle.std.specs.Str.{trim_end}
use Rattle.smsc_status.specs.declared.figures.Sample.{Sample}
use Rattle.smsc_status.specs.declared.page.TheConstants.{HEAD, SESSIONS_HEAD, LINKS_HEAD, ACCOUNTS_HEAD}
use Rattle.smsc_status.specs.Page.{account_row, charts_text, events_list, foot_text, groups_tiles, heading_text, link_row, messages_tiles, page_text, refusals_table, seats_tiles, session_row, store_tiles, stuck_text, table_text}
use Rattle.smsc_status.proofs.Chains.{chain14}
use Rattle.smsc_status.proofs.page.put_page.Goals as goal

pub returns : goal.returns
unfolding page_text
returns c =
    let v = c.args.view.now in
    on_ok_weaker c.put_foot.result
    (λ e. chain14 c.args.out.now
    HEAD.now (heading_text v) (messages_tiles v.messages)
    (charts_text (map (λ (s : Sample). s.submissions) v.samples.now) (map (λ (s : Sample). s.deliveries) v.samples.now))
    (seats_tiles (length v.sessions.now) (length v.links.now)) (table_text SESSIONS_HEAD.now session_row v.sessions.now (codes "7"))
    (table_text LINKS_HEAD.now link_row v.links.now (codes "6")) (stuck_text v) (table_text ACCOUNTS_HEAD.now account_row v.accounts.now (codes "3")) (refusals_table v)
    (store_tiles v.store v.commits v.samples.now c.args.median c.args.most) (groups_tiles v.groups) (events_list v) (foot_text (trim_end v.version.now))
    c.in_ok-append.ensures.ok c.in_ok-put_heading.ensures c.in_ok-put_messages.ensures c.in_ok-put_charts.ensures
    c.in_ok-put_seats.ensures c.in_ok-put_table.ensures c.in_ok-put_table-2.ensures c.in_ok-put_stuck.ensures c.in_ok-put_table-3.ensures c.in_ok-put_refusals.ensures c.in_ok-put_store.ensures c.in_ok-put_groups.ensures c.in_ok-put_events.ensures e)
    c.put_foot.ensures
