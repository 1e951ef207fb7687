-- The figures in JSON (RFC 8259).
use Rattle.std.specs.Prelude.{ℕ, zero, suc, Bool, List, [], ◌∷◌, ◌++◌, Option, Some, None, codes, decimal, flat_map, get_or, if◌then◌else◌, string_bytes}
use Rattle.std.specs.Str.{trim_end}
use Rattle.smsc_status.specs.declared.commits.CommitFigures.{CommitFigures}
use Rattle.smsc_status.specs.declared.commits.Quantile.{Quantile}
use Rattle.smsc_status.specs.declared.commits.TheConstants.{LIMITS}
use Rattle.smsc_status.specs.declared.figures.AccountLine.{AccountLine}
use Rattle.smsc_status.specs.declared.figures.LastCause.{LastCause}
use Rattle.smsc_status.specs.declared.figures.LinkLine.{LinkLine}
use Rattle.smsc_status.specs.declared.figures.MessageCounts.{MessageCounts}
use Rattle.smsc_status.specs.declared.figures.MessageFigures.{MessageFigures}
use Rattle.smsc_status.specs.declared.figures.PendingMessage.{PendingMessage}
use Rattle.smsc_status.specs.declared.figures.RefusedBinds.{RefusedBinds}
use Rattle.smsc_status.specs.declared.figures.RefusedDeliveries.{RefusedDeliveries}
use Rattle.smsc_status.specs.declared.figures.RefusedSubmits.{RefusedSubmits}
use Rattle.smsc_status.specs.declared.figures.Sample.{Sample}
use Rattle.smsc_status.specs.declared.figures.SessionLine.{SessionLine}
use Rattle.smsc_status.specs.declared.figures.StatusView.{StatusView}
use Rattle.smsc_status.specs.declared.figures.StoreFigures.{StoreFigures}
use Rattle.smsc_status.specs.declared.figures.StuckLine.{StuckLine}
use Rattle.sms_base.specs.MessageId.{id_text}
use Rattle.smsc_status.specs.Commits.{counted}
use Rattle.smsc_status.specs.Kinds.{kind_word}
use Rattle.smsc_status.specs.Numbers.{moment_text}
use Rattle.smsc_status.specs.Quantiles.{limit_text}
use Rattle.smsc_status.specs.Quoting.{string}

-- what begins an array that is a member behind others, and what ends it
unfoldable pub array_start : List ℕ → List ℕ
array_start name = codes ",\"" ++ (name ++ codes "\":[")

unfoldable pub array_end : List ℕ
array_end = codes "]"

-- the elements of an array, a comma between two
abbrev pub elements : {A : Type 0} → (A → List ℕ) → List A → List ℕ
elements text [] = []
elements text (x ∷ xs) = text x ++ flat_map (λ y. codes "," ++ text y) xs

-- an array that is a member behind others
unfoldable pub array_text : {A : Type 0} → List ℕ → (A → List ℕ) → List A → List ℕ
array_text name text xs = array_start name ++ (elements text xs ++ array_end)

-- what stands before the element of that place
abbrev pub comma : ℕ → List ℕ
comma zero = []
comma (suc place) = codes ","

abbrev pub truth_text : Bool → List ℕ
truth_text is_so = if is_so then codes "true" else codes "false"

-- ---- the run and its messages

unfoldable pub run_text : StatusView → List ℕ
run_text v =
    codes "{\"centre\":" ++ (string v.centre.now ++ (codes ",\"version\":" ++ (string (trim_end v.version.now) ++ (codes ",\"start\":\"" ++ (moment_text v.start
    ++ (codes "\",\"now\":\"" ++ (moment_text v.now ++ codes "\"")))))))

unfoldable pub messages_text : MessageFigures → List ℕ
messages_text m =
    codes ",\"messages\":{\"enroute\":" ++ (decimal m.enroute ++ (codes ",\"delivered\":" ++ (decimal m.delivered ++ (codes ",\"expired\":"
    ++ (decimal m.expired
    ++ (codes ",\"deleted\":" ++ (decimal m.deleted ++ (codes ",\"undeliverable\":" ++ (decimal m.undeliverable ++ codes "}")))))))))

unfoldable pub counts_text : MessageCounts → List ℕ
counts_text m =
    codes ",\"since_start\":{\"accepted\":" ++ (decimal m.accepted ++ (codes ",\"delivered\":" ++ (decimal m.delivered ++ (codes ",\"expired\":"
    ++ (decimal m.expired
    ++ (codes ",\"deleted\":" ++ (decimal m.deleted ++ (codes ",\"undeliverable\":" ++ (decimal m.undeliverable ++ codes "}")))))))))

unfoldable pub sample_text : Sample → List ℕ
sample_text s = codes "[" ++ (decimal s.submissions ++ (codes "," ++ (decimal s.deliveries ++ (codes "," ++ (decimal s.commits ++ codes "]")))))

-- ---- sessions and links

unfoldable pub session_text : SessionLine → List ℕ
session_text s =
    codes "{\"seat\":" ++ (decimal s.seat ++ (codes ",\"account\":" ++ (string (string_bytes s.account) ++ (codes ",\"kind\":\"" ++ (kind_word s.kind
    ++ (codes "\",\"since\":\"" ++ (moment_text s.since ++ (codes "\",\"submits\":" ++ (decimal s.submits ++ (codes ",\"receipts\":" ++ (decimal s.receipts
    ++ (codes ",\"window\":" ++ (decimal s.window ++ codes "}")))))))))))))

unfoldable pub link_text : LinkLine → List ℕ
link_text l =
    codes "{\"seat\":" ++ (decimal l.seat ++ (codes ",\"handset\":" ++ (string (string_bytes l.handset) ++ (codes ",\"since\":\"" ++ (moment_text l.since
    ++ (codes "\",\"waiting\":" ++ (decimal l.waiting ++ (codes ",\"full\":" ++ (truth_text l.is_full ++ (codes ",\"under_way\":" ++ (truth_text l.is_under_way
    ++ codes "}")))))))))))

-- ---- what is stuck

unfoldable pub refusal_text : LastCause → List ℕ
refusal_text c = codes "{\"cause\":" ++ (decimal c.cause ++ (codes ",\"reason\":\"" ++ (c.reason.now ++ codes "\"}")))

abbrev pub last_cause_text : Option LastCause → List ℕ
last_cause_text None = codes "null"
last_cause_text (Some cause) = refusal_text cause

unfoldable pub moment_string : ℕ → List ℕ
moment_string moment = codes "\"" ++ (moment_text moment ++ codes "\"")

abbrev pub due_text : Option ℕ → List ℕ
due_text None = codes "null"
due_text (Some due) = moment_string due

unfoldable pub stuck_counts : StuckLine → List ℕ
stuck_counts l =
    codes "{\"handset\":" ++ (string (string_bytes l.handset) ++ (codes ",\"waiting\":" ++ (decimal l.waiting ++ (codes ",\"since\":\"" ++ (moment_text l.since
    ++ (codes "\",\"failed\":" ++ (decimal l.failed ++ (codes ",\"linked\":" ++ (truth_text l.is_linked ++ codes ",\"last_cause\":")))))))))

unfoldable pub stuck_line : StuckLine → List ℕ
stuck_line l = stuck_counts l ++ (last_cause_text l.cause ++ (codes ",\"due\":" ++ (due_text l.due ++ codes "}")))

unfoldable pub whose_text : PendingMessage → List ℕ
whose_text m =
    codes "\",\"handset\":" ++ (string m.handset.now ++ (codes ",\"submitted\":\"" ++ (moment_text m.submitted ++ codes "\"}")))

unfoldable pub pending_text : PendingMessage → List ℕ
pending_text m = codes "{\"id\":\"" ++ (id_text m.id ++ whose_text m)

abbrev pub oldest_text : Option PendingMessage → List ℕ
oldest_text None = codes "null"
oldest_text (Some message) = pending_text message

-- the handsets for which most waits, and the oldest message that is pending
unfoldable pub stuck_text : StatusView → List ℕ
stuck_text v =
    array_text (codes "stuck") stuck_line v.stuck.now ++ (codes ",\"oldest\":" ++ oldest_text v.oldest)

-- ---- accounts

unfoldable pub account_text : AccountLine → List ℕ
account_text a =
    codes "{\"account\":" ++ (string (string_bytes a.account) ++ (codes ",\"submits\":" ++ (decimal a.submits ++ (codes ",\"receipts\":"
    ++ (decimal a.receipts ++ codes "}")))))

-- ---- what was refused

unfoldable pub refused_submits_text : RefusedSubmits → List ℕ
refused_submits_text r =
    codes "{\"account\":" ++ (string (string_bytes r.account) ++ (codes ",\"status\":" ++ (decimal r.status ++ (codes ",\"count\":"
    ++ (decimal r.count ++ codes "}")))))

unfoldable pub refused_binds_text : RefusedBinds → List ℕ
refused_binds_text r = codes "{\"reason\":\"" ++ (r.reason.now ++ (codes "\",\"count\":" ++ (decimal r.count ++ codes "}")))

unfoldable pub refused_deliveries_text : RefusedDeliveries → List ℕ
refused_deliveries_text r =
    codes "{\"cause\":" ++ (decimal r.cause ++ (codes ",\"reason\":\"" ++ (r.reason.now ++ (codes "\",\"count\":" ++ (decimal r.count ++ codes "}")))))

-- ---- the store

-- a place: its limit, and how many commits count there
unfoldable pub place_text : ℕ → ℕ → List ℕ
place_text limit count = codes "[" ++ (decimal limit ++ (codes "," ++ (decimal count ++ codes "],")))

-- the first so many places
unfoldable pub first_places : List ℕ → ℕ → List ℕ
first_places counts zero = []
first_places counts (suc place) = first_places counts place ++ place_text (get_or LIMITS place 0) (get_or counts place 0)

unfoldable pub store_text : StoreFigures → CommitFigures → Quantile → Quantile → List ℕ
store_text s c median most =
    codes ",\"store\":{\"octets\":" ++ (decimal s.file ++ (codes ",\"log_octets\":" ++ (decimal s.log ++ (codes ",\"commits\":" ++ (decimal (counted c.counts)
    ++ (codes ",\"commits_refused\":" ++ (decimal c.refused ++ (codes ",\"commit_micros\":" ++ (decimal c.micros
    ++ (codes ",\"median_at_most_micros\":" ++ (limit_text median ++ (codes ",\"percentile_99_at_most_micros\":" ++ (limit_text most
    ++ codes ",\"at_most_micros\":[")))))))))))))

-- the last place has no limit
unfoldable pub last_place : ℕ → List ℕ
last_place count = codes "[null," ++ (decimal count ++ codes "]]}")

unfoldable pub lost_text : ℕ → ℕ → List ℕ
lost_text events lines = codes ",\"lost_events\":" ++ (decimal events ++ (codes ",\"lost_log_lines\":" ++ (decimal lines ++ codes "}\n")))

-- ---- the whole

unfoldable pub lists_text : StatusView → List ℕ
lists_text v =
    array_text (codes "seconds") sample_text v.samples.now ++ (array_text (codes "sessions") session_text v.sessions.now
    ++ array_text (codes "links") link_text v.links.now)

unfoldable pub refusals_text : StatusView → List ℕ
refusals_text v =
    array_text (codes "refused_submits") refused_submits_text v.refused_submits.now
    ++ (array_text (codes "refused_binds") refused_binds_text v.refused_binds.now
    ++ array_text (codes "refused_deliveries") refused_deliveries_text v.refused_deliveries.now)

unfoldable pub commits_text : StoreFigures → CommitFigures → Quantile → Quantile → List ℕ
commits_text s c median most = store_text s c median most ++ (first_places c.counts 13 ++ last_place (get_or c.counts 13 0))

unfoldable pub json_text : StatusView → Quantile → Quantile → List ℕ
json_text v median most =
    run_text v ++ (messages_text v.messages ++ (counts_text v.counts ++ (lists_text v ++ (stuck_text v
    ++ (array_text (codes "accounts") account_text v.accounts.now ++ (refusals_text v ++ (commits_text v.store v.commits median most
    ++ (array_text (codes "events") (λ event. string (string_bytes event)) v.events.now ++ lost_text v.lost_events v.lost_lines))))))))
