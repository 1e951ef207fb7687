-- The samples of metrics in Prometheus' text format.
use Rattle.std.specs.Prelude.{ℕ, zero, suc, List, [], ◌∷◌, ◌++◌, Option, Some, None, codes, decimal, flat_map, get_or, if◌then◌else◌, length, string_bytes, take}
use Rattle.std.specs.Str.{trim_end}
use Rattle.smsc_status.specs.declared.commits.CommitFigures.{CommitFigures}
use Rattle.smsc_status.specs.declared.commits.TheConstants.{LIMITS}
use Rattle.smsc_status.specs.declared.figures.AccountLine.{AccountLine}
use Rattle.smsc_status.specs.declared.figures.LinkLine.{LinkLine}
use Rattle.smsc_status.specs.declared.figures.MessageCounts.{MessageCounts}
use Rattle.smsc_status.specs.declared.figures.MessageFigures.{MessageFigures}
use Rattle.smsc_status.specs.declared.figures.PendingMessage.{PendingMessage}
use Rattle.smsc_status.specs.declared.figures.RefusedBinds.{RefusedBinds}
use Rattle.smsc_status.specs.declared.figures.RefusedDeliveries.{RefusedDeliveries}
use Rattle.smsc_status.specs.declared.figures.RefusedSubmits.{RefusedSubmits}
use Rattle.smsc_status.specs.declared.figures.SessionLine.{SessionLine}
use Rattle.smsc_status.specs.declared.figures.StatusView.{StatusView}
use Rattle.smsc_status.specs.declared.figures.StoreFigures.{StoreFigures}
use Rattle.smsc_status.specs.declared.groups.GroupFigures.{GroupFigures}
use Rattle.smsc_status.specs.declared.metrics.Line.{Line}
use Rattle.smsc_status.specs.declared.metrics.Line.TheVariants.{Head, Plain, Labelled}
use Rattle.smsc_status.specs.declared.metrics.LinkMetric.{LinkMetric}
use Rattle.smsc_status.specs.declared.metrics.LinkMetric.TheVariants.{Waiting, Full, UnderWay}
use Rattle.smsc_status.specs.declared.metrics.SessionMetric.{SessionMetric}
use Rattle.smsc_status.specs.declared.metrics.SessionMetric.TheVariants.{Submits, Receipts, Window}
use Rattle.smsc_status.specs.Commits.{counted}
use Rattle.smsc_status.specs.Kinds.{kind_word}
use Rattle.smsc_status.specs.Numbers.{millionths_text}
use Rattle.smsc_status.specs.Quoting.{string}

-- what precedes the samples of a metric
unfoldable pub metric : List ℕ → List ℕ → List ℕ → List ℕ
metric name kind help =
    codes "# HELP " ++ (name ++ (codes " " ++ (help ++ (codes "\n# TYPE " ++ (name ++ (codes " " ++ (kind ++ codes "\n")))))))

-- a sample without labels
unfoldable pub plain_sample : List ℕ → ℕ → List ℕ
plain_sample name value = name ++ (codes " " ++ (decimal value ++ codes "\n"))

-- a sample with a label, whose value is a text between quotation marks
unfoldable pub labelled_sample : List ℕ → List ℕ → List ℕ → ℕ → List ℕ
labelled_sample name label text value =
    name ++ (codes "{" ++ (label ++ (codes "=" ++ (string text ++ (codes "} " ++ (decimal value ++ codes "\n"))))))

abbrev pub line_text : Line → List ℕ
line_text (Head name kind help) = metric name.now kind.now help.now
line_text (Plain name value) = plain_sample name.now value
line_text (Labelled name label text value) = labelled_sample name.now label.now text.now value

-- a text, and the lines behind it
abbrev pub behind : List ℕ → List Line → List ℕ
behind text [] = text
behind text (line ∷ lines) = text ++ behind (line_text line) lines

abbrev pub lines_text : List Line → List ℕ
lines_text [] = []
lines_text (line ∷ lines) = behind (line_text line) lines

-- ---- messages

unfoldable pub counts_metric : MessageCounts → List ℕ
counts_metric c =
    metric (codes "smsc_messages_total") (codes "counter") (codes "Messages that reached this state since the run began.")
    ++ (labelled_sample (codes "smsc_messages_total") (codes "state") (codes "accepted") c.accepted
    ++ (labelled_sample (codes "smsc_messages_total") (codes "state") (codes "delivered") c.delivered
    ++ (labelled_sample (codes "smsc_messages_total") (codes "state") (codes "expired") c.expired
    ++ (labelled_sample (codes "smsc_messages_total") (codes "state") (codes "deleted") c.deleted
    ++ labelled_sample (codes "smsc_messages_total") (codes "state") (codes "undeliverable") c.undeliverable))))

unfoldable pub messages_metric : MessageFigures → List ℕ
messages_metric m =
    metric (codes "smsc_store_messages") (codes "gauge") (codes "Messages of the store that are in this state.")
    ++ (labelled_sample (codes "smsc_store_messages") (codes "state") (codes "enroute") m.enroute
    ++ (labelled_sample (codes "smsc_store_messages") (codes "state") (codes "delivered") m.delivered
    ++ (labelled_sample (codes "smsc_store_messages") (codes "state") (codes "expired") m.expired
    ++ (labelled_sample (codes "smsc_store_messages") (codes "state") (codes "deleted") m.deleted
    ++ labelled_sample (codes "smsc_store_messages") (codes "state") (codes "undeliverable") m.undeliverable))))

-- ---- sessions and links

abbrev pub session_number : SessionMetric → SessionLine → ℕ
session_number Submits s = s.submits
session_number Receipts s = s.receipts
session_number Window s = s.window

unfoldable pub session_sample : List ℕ → SessionMetric → SessionLine → List ℕ
session_sample name asked s =
    name ++ (codes "{account=" ++ (string (string_bytes s.account) ++ (codes ",kind=\"" ++ (kind_word s.kind ++ (codes "\",seat=\"" ++ (decimal s.seat
    ++ (codes "\"} " ++ (decimal (session_number asked s) ++ codes "\n"))))))))

abbrev pub session_samples : List ℕ → SessionMetric → List SessionLine → List ℕ
session_samples name asked sessions = flat_map (λ session. session_sample name asked session) sessions

unfoldable pub sessions_metrics : List SessionLine → List ℕ
sessions_metrics sessions =
    metric (codes "smsc_sessions") (codes "gauge") (codes "Sessions that are bound.")
    ++ (plain_sample (codes "smsc_sessions") (length sessions)
    ++ (metric (codes "smsc_session_submits_total") (codes "counter") (codes "Requests submit_sm of a session.")
    ++ (session_samples (codes "smsc_session_submits_total") Submits sessions
    ++ (metric (codes "smsc_session_receipts_total") (codes "counter") (codes "Receipts that a session was sent.")
    ++ (session_samples (codes "smsc_session_receipts_total") Receipts sessions
    ++ (metric (codes "smsc_session_window") (codes "gauge") (codes "Requests of a session that have no answer yet.")
    ++ session_samples (codes "smsc_session_window") Window sessions))))))

abbrev pub link_number : LinkMetric → LinkLine → ℕ
link_number Waiting l = l.waiting
link_number Full l = if l.is_full then 1 else 0
link_number UnderWay l = if l.is_under_way then 1 else 0

abbrev pub link_samples : List ℕ → LinkMetric → List LinkLine → List ℕ
link_samples name asked links = flat_map (λ link. labelled_sample name (codes "handset") (string_bytes link.handset) (link_number asked link)) links

unfoldable pub links_metrics : List LinkLine → List ℕ
links_metrics links =
    metric (codes "smsc_links") (codes "gauge") (codes "Handsets with a link.")
    ++ (plain_sample (codes "smsc_links") (length links)
    ++ (metric (codes "smsc_link_waiting") (codes "gauge") (codes "Parts and status reports that wait for a handset.")
    ++ (link_samples (codes "smsc_link_waiting") Waiting links
    ++ (metric (codes "smsc_link_full") (codes "gauge") (codes "Whether a handset said that it has no memory.")
    ++ (link_samples (codes "smsc_link_full") Full links
    ++ (metric (codes "smsc_link_under_way") (codes "gauge") (codes "Whether something to a handset is under way.")
    ++ link_samples (codes "smsc_link_under_way") UnderWay links))))))

-- ---- accounts

abbrev pub account_submits : List ℕ → List AccountLine → List ℕ
account_submits name accounts = flat_map (λ a. labelled_sample name (codes "account") (string_bytes a.account) a.submits) accounts

abbrev pub account_receipts : List ℕ → List AccountLine → List ℕ
account_receipts name accounts = flat_map (λ a. labelled_sample name (codes "account") (string_bytes a.account) a.receipts) accounts

unfoldable pub accounts_metrics : List AccountLine → List ℕ
accounts_metrics accounts =
    metric (codes "smsc_account_submits_total") (codes "counter") (codes "Requests submit_sm of an account since the run began.")
    ++ (account_submits (codes "smsc_account_submits_total") accounts
    ++ (metric (codes "smsc_account_receipts_total") (codes "counter") (codes "Receipts that an account was sent since the run began.")
    ++ account_receipts (codes "smsc_account_receipts_total") accounts))

-- ---- what was refused

unfoldable pub submits_sample : RefusedSubmits → List ℕ
submits_sample r =
    codes "smsc_submits_refused_total{account=" ++ (string (string_bytes r.account) ++ (codes ",status=\"" ++ (decimal r.status
    ++ (codes "\"} " ++ (decimal r.count ++ codes "\n")))))

unfoldable pub binds_sample : RefusedBinds → List ℕ
binds_sample r = codes "smsc_binds_refused_total{reason=\"" ++ (r.reason.now ++ (codes "\"} " ++ (decimal r.count ++ codes "\n")))

unfoldable pub deliveries_sample : RefusedDeliveries → List ℕ
deliveries_sample r = codes "smsc_deliver_attempts_failed_total{cause=\"" ++ (decimal r.cause ++ (codes "\"} " ++ (decimal r.count ++ codes "\n")))

unfoldable pub refusals_metrics : StatusView → List ℕ
refusals_metrics v =
    metric (codes "smsc_submits_refused_total") (codes "counter") (codes "Requests submit_sm of an account that were refused with this command_status.")
    ++ (flat_map submits_sample v.refused_submits.now
    ++ (metric (codes "smsc_binds_refused_total") (codes "counter") (codes "Binds that were refused for this reason.")
    ++ (flat_map binds_sample v.refused_binds.now
    ++ (metric (codes "smsc_deliver_attempts_failed_total") (codes "counter") (codes "What handsets refused with this RP cause of what was delivered to them.")
    ++ flat_map deliveries_sample v.refused_deliveries.now))))

-- ---- the store

-- the commits that took no longer than a limit: those of its place and of the places before
unfoldable pub bucket : ℕ → ℕ → List ℕ
bucket limit so_far = codes "smsc_commit_seconds_bucket{le=\"" ++ (millionths_text limit ++ (codes "\"} " ++ (decimal so_far ++ codes "\n")))

unfoldable pub first_buckets : List ℕ → ℕ → List ℕ
first_buckets counts zero = []
first_buckets counts (suc place) = first_buckets counts place ++ bucket (get_or LIMITS place 0) (counted (take (suc place) counts))

unfoldable pub totals : CommitFigures → List ℕ
totals c =
    codes "smsc_commit_seconds_bucket{le=\"+Inf\"} " ++ (decimal (counted c.counts) ++ (codes "\nsmsc_commit_seconds_sum " ++ (millionths_text c.micros
    ++ (codes "\nsmsc_commit_seconds_count " ++ (decimal (counted c.counts) ++ codes "\n")))))

unfoldable pub commits_metrics : CommitFigures → List ℕ
commits_metrics c =
    metric (codes "smsc_commit_seconds") (codes "histogram") (codes "How long a commit took.")
    ++ (first_buckets c.counts 13 ++ (totals c
    ++ (metric (codes "smsc_commits_refused_total") (codes "counter") (codes "Commits that the store refused.")
    ++ plain_sample (codes "smsc_commits_refused_total") c.refused)))

unfoldable pub store_metrics : StoreFigures → List ℕ
store_metrics s =
    metric (codes "smsc_store_bytes") (codes "gauge") (codes "Octets of the store's file.")
    ++ (plain_sample (codes "smsc_store_bytes") s.file
    ++ (metric (codes "smsc_store_log_bytes") (codes "gauge") (codes "Octets of the store's log.")
    ++ plain_sample (codes "smsc_store_log_bytes") s.log))

-- the groups that are no larger than a limit
abbrev pub group_bucket : List ℕ → ℕ → List ℕ
group_bucket limit groups = labelled_sample (codes "smsc_group_items_bucket") (codes "le") limit groups

unfoldable pub groups_metrics : GroupFigures → List ℕ
groups_metrics g =
    metric (codes "smsc_group_items") (codes "histogram") (codes "How many items were committed at once.")
    ++ (group_bucket (codes "1") g.of_1 ++ (group_bucket (codes "2") g.up_to_2 ++ (group_bucket (codes "4") g.up_to_4
    ++ (group_bucket (codes "8") g.up_to_8 ++ (group_bucket (codes "16") g.up_to_16 ++ (group_bucket (codes "32") g.up_to_32
    ++ (group_bucket (codes "64") g.up_to_64 ++ (group_bucket (codes "+Inf") g.up_to_64
    ++ (plain_sample (codes "smsc_group_items_sum") g.items ++ plain_sample (codes "smsc_group_items_count") g.up_to_64)))))))))

-- ---- the run

unfoldable pub run_metrics : StatusView → List ℕ
run_metrics v =
    metric (codes "smsc_build_info") (codes "gauge") (codes "What proves the program's sources, and which builds are proved.")
    ++ (labelled_sample (codes "smsc_build_info") (codes "proof") (trim_end v.version.now) 1
    ++ (metric (codes "smsc_start_time_seconds") (codes "gauge") (codes "When the run began, since 1970.")
    ++ plain_sample (codes "smsc_start_time_seconds") v.start))

-- no sample where no message is pending
abbrev pub oldest_sample : List ℕ → Option PendingMessage → List ℕ
oldest_sample name None = []
oldest_sample name (Some message) = plain_sample name message.submitted

unfoldable pub oldest_metric : Option PendingMessage → List ℕ
oldest_metric oldest =
    metric (codes "smsc_oldest_pending_time_seconds") (codes "gauge") (codes "When the oldest message that is pending was submitted, since 1970.")
    ++ oldest_sample (codes "smsc_oldest_pending_time_seconds") oldest

unfoldable pub lost_metrics : ℕ → ℕ → List ℕ
lost_metrics events lines =
    metric (codes "smsc_status_events_lost_total") (codes "counter") (codes "Events that found no room in the status page's list.")
    ++ (plain_sample (codes "smsc_status_events_lost_total") events
    ++ (metric (codes "smsc_log_lines_lost_total") (codes "counter") (codes "Lines of the log that found no room or could not be written.")
    ++ plain_sample (codes "smsc_log_lines_lost_total") lines))

unfoldable pub metrics_text : StatusView → List ℕ
metrics_text v =
    run_metrics v ++ (lost_metrics v.lost_events v.lost_lines ++ (counts_metric v.counts ++ (messages_metric v.messages ++ (oldest_metric v.oldest
    ++ (sessions_metrics v.sessions.now ++ (links_metrics v.links.now ++ (accounts_metrics v.accounts.now ++ (refusals_metrics v ++ (store_metrics v.store
    ++ (commits_metrics v.commits ++ groups_metrics v.groups))))))))))
