-- The page, in HTML.
use Rattle.std.specs.Prelude.{ℕ, ◌-◌, ◌==◌, ◌&&◌, Bool, List, [], ◌∷◌, ◌++◌, Option, Some, None, codes, decimal, flat_map, if◌then◌else◌, length, map, reverse}
use Rattle.std.specs.Prelude.{string_bytes}
use Rattle.std.specs.Str.{trim_end}
use Rattle.smsc_status.specs.declared.commits.CommitFigures.{CommitFigures}
use Rattle.smsc_status.specs.declared.commits.Quantile.{Quantile}
use Rattle.smsc_status.specs.declared.figures.AccountLine.{AccountLine}
use Rattle.smsc_status.specs.declared.figures.LastCause.{LastCause}
use Rattle.smsc_status.specs.declared.figures.LinkLine.{LinkLine}
use Rattle.smsc_status.specs.declared.figures.MessageFigures.{MessageFigures}
use Rattle.smsc_status.specs.declared.figures.PendingMessage.{PendingMessage}
use Rattle.smsc_status.specs.declared.figures.RefusedBinds.{RefusedBinds}
use Rattle.smsc_status.specs.declared.figures.RefusedDeliveries.{RefusedDeliveries}
use Rattle.smsc_status.specs.declared.figures.RefusedSubmits.{RefusedSubmits}
use Rattle.smsc_status.specs.declared.figures.Sample.{Sample}
use Rattle.smsc_status.specs.declared.figures.SessionLine.{SessionLine}
use Rattle.smsc_status.specs.declared.figures.StatusView.{StatusView}
use Rattle.smsc_status.specs.declared.figures.StoreFigures.{StoreFigures}
use Rattle.smsc_status.specs.declared.figures.StuckLine.{StuckLine}
use Rattle.smsc_status.specs.declared.groups.GroupFigures.{GroupFigures}
use Rattle.smsc_status.specs.declared.page.TheConstants.{HEAD, SESSIONS_HEAD, LINKS_HEAD, STUCK_HEAD, ACCOUNTS_HEAD, REFUSALS_HEAD}
use Rattle.smsc_status.specs.declared.page.Tile.{Tile}
use Rattle.smsc_status.specs.declared.page.Tile.TheVariants.{Figure, Graded}
use Rattle.sms_base.specs.MessageId.{id_text}
use Rattle.smsc_status.specs.Charts.{chart_text}
use Rattle.smsc_status.specs.Kinds.{kind_word}
use Rattle.sms_base.specs.Markup.{escaped}
use Rattle.smsc_status.specs.Numbers.{moment_text, size_text}
use Rattle.smsc_status.specs.Pieces.{piece_text}
use Rattle.smsc_status.specs.Quantiles.{quantile_text}
use Rattle.smsc_status.specs.Series.{commits_a_second}

unfoldable pub heading_text : StatusView → List ℕ
heading_text v =
    codes "<h1>smscd</h1><p>centre " ++ (escaped v.centre.now ++ (codes ", at " ++ (moment_text v.now ++ (codes "</p><p>since " ++ (moment_text v.start
    ++ codes "; this page shows itself anew every five seconds</p>\n")))))

-- ---- messages

-- a figure over its word
unfoldable pub tile : List ℕ → List ℕ → List ℕ
tile figure word = codes "<div class=\"tile\"><b>" ++ (figure ++ (codes "</b><span>" ++ (word ++ codes "</span></div>")))

-- a figure that is bad where it is not 0 stands out then
abbrev pub mark : ℕ → List ℕ
mark number = if number == 0 then [] else codes " class=\"bad\""

unfoldable pub graded_tile : ℕ → List ℕ → List ℕ
graded_tile number word =
    codes "<div class=\"tile\"><b" ++ (mark number ++ (codes ">" ++ (decimal number ++ (codes "</b><span>" ++ (word ++ codes "</span></div>")))))

unfoldable pub tiles_begin : List ℕ → List ℕ
tiles_begin title = codes "<h2>" ++ (title ++ codes "</h2><div class=\"tiles\">")

unfoldable pub tiles_end : List ℕ
tiles_end = codes "</div>\n"

abbrev pub tile_text : Tile → List ℕ
tile_text (Figure figure word) = tile (piece_text figure) word.now
tile_text (Graded number word) = graded_tile number word.now

-- tiles and what ends them
abbrev pub tiles_text : List Tile → List ℕ
tiles_text [] = tiles_end
tiles_text (some ∷ tiles) = tile_text some ++ tiles_text tiles

unfoldable pub messages_tiles : MessageFigures → List ℕ
messages_tiles m =
    tiles_begin (codes "Messages") ++ (tile (decimal m.enroute) (codes "ENROUTE") ++ (tile (decimal m.delivered) (codes "DELIVRD")
    ++ (graded_tile m.expired (codes "EXPIRED")
    ++ (tile (decimal m.deleted) (codes "DELETED") ++ (graded_tile m.undeliverable (codes "UNDELIV") ++ tiles_end)))))

-- ---- seats

-- the seats of those who have said who they are, and what is left of 32
unfoldable pub seats_tiles : ℕ → ℕ → List ℕ
seats_tiles sessions links =
    tiles_begin (codes "Seats") ++ (tile (decimal sessions) (codes "sessions") ++ (tile (decimal links) (codes "links")
    ++ (tile (decimal (32 - sessions - links)) (codes "free of 32") ++ tiles_end)))

-- ---- the last ten minutes

unfoldable pub charts_text : List ℕ → List ℕ → List ℕ
charts_text submissions deliveries =
    codes "<div class=\"charts\">" ++ (chart_text (codes "Submissions, ten minutes") submissions
    ++ (chart_text (codes "Deliveries, ten minutes") deliveries ++ tiles_end))

-- ---- tables

unfoldable pub table_end : List ℕ
table_end = codes "</table></div>\n"

-- what a table has in place of rows, where it has none
unfoldable pub none_cell : List ℕ → List ℕ
none_cell columns = codes "<tr><td colspan=\"" ++ (columns ++ codes "\">none</td></tr>\n")

abbrev pub none_row : Bool → List ℕ → List ℕ
none_row is_none columns = if is_none then none_cell columns else []

-- behind the head of a table, its rows or what it has in their place, and its end
unfoldable pub table_text : {A : Type 0} → List ℕ → (A → List ℕ) → List A → List ℕ → List ℕ
table_text head row rows columns = head ++ (flat_map row rows ++ (none_row (length rows == 0) columns ++ table_end))

unfoldable pub session_row : SessionLine → List ℕ
session_row s =
    codes "<tr><td>" ++ (escaped (string_bytes s.account) ++ (codes "</td><td>" ++ (kind_word s.kind ++ (codes "</td><td class=\"n\">" ++ (decimal s.submits
    ++ (codes "</td><td class=\"n\">" ++ (decimal s.receipts ++ (codes "</td><td class=\"n\">" ++ (decimal s.window ++ (codes "</td><td>"
    ++ (moment_text s.since
    ++ (codes "</td><td class=\"n\">" ++ (decimal s.seat ++ codes "</td></tr>\n")))))))))))))

abbrev pub yes_or_no : Bool → List ℕ
yes_or_no is_so = if is_so then codes "yes" else codes "no"

-- what is bad where it is so stands out then
abbrev pub bad_or_not : Bool → List ℕ
bad_or_not is_so = if is_so then codes "<span class=\"bad\">yes</span>" else codes "no"

unfoldable pub link_row : LinkLine → List ℕ
link_row l =
    codes "<tr><td>" ++ (escaped (string_bytes l.handset) ++ (codes "</td><td class=\"n\">" ++ (decimal l.waiting ++ (codes "</td><td>" ++ (bad_or_not l.is_full
    ++ (codes "</td><td>" ++ (yes_or_no l.is_under_way ++ (codes "</td><td>" ++ (moment_text l.since ++ (codes "</td><td class=\"n\">" ++ (decimal l.seat
    ++ codes "</td></tr>\n")))))))))))

-- ---- what is stuck

unfoldable pub whose_text : PendingMessage → List ℕ
whose_text m = codes " to " ++ (escaped m.handset.now ++ (codes ", submitted " ++ (moment_text m.submitted ++ codes "</p>")))

unfoldable pub pending_text : PendingMessage → List ℕ
pending_text m = codes "the oldest message that is pending: " ++ (id_text m.id ++ whose_text m)

abbrev pub oldest_text : Option PendingMessage → List ℕ
oldest_text None = codes "no message is pending</p>"
oldest_text (Some message) = pending_text message

abbrev pub link_word : Bool → List ℕ
link_word is_linked = if is_linked then codes "none</td><td>" else codes "no link</td><td>"

unfoldable pub refusal_text : LastCause → List ℕ
refusal_text c = codes "RP cause " ++ (decimal c.cause ++ (codes ", " ++ (escaped c.reason.now ++ codes "</td><td>")))

-- what the handset said last as it refused something; where it said nothing, whether it has a link
abbrev pub last_cause_text : Bool → Option LastCause → List ℕ
last_cause_text is_linked None = link_word is_linked
last_cause_text is_linked (Some cause) = refusal_text cause

abbrev pub wait_word : Bool → List ℕ
wait_word is_linked = if is_linked then codes "once it has memory" else codes "once it has a link"

-- when something is offered next, or what it waits for
abbrev pub next_try_text : Bool → Option ℕ → List ℕ
next_try_text is_linked None = wait_word is_linked
next_try_text is_linked (Some due) = moment_text due

unfoldable pub stuck_counts : StuckLine → List ℕ
stuck_counts l =
    codes "<tr><td>" ++ (escaped (string_bytes l.handset) ++ (codes "</td><td class=\"n\">" ++ (decimal l.waiting ++ (codes "</td><td>" ++ (moment_text l.since
    ++ (codes "</td><td class=\"n\">" ++ (decimal l.failed ++ codes "</td><td>")))))))

unfoldable pub stuck_row : StuckLine → List ℕ
stuck_row l =
    stuck_counts l ++ (last_cause_text l.is_linked l.cause ++ (next_try_text l.is_linked l.due ++ codes "</td></tr>\n"))

-- the oldest message that is pending, over the handsets for which most waits
unfoldable pub stuck_text : StatusView → List ℕ
stuck_text v = codes "<h2>What is stuck</h2><p>" ++ (oldest_text v.oldest ++ table_text STUCK_HEAD.now stuck_row v.stuck.now (codes "6"))

-- ---- accounts

unfoldable pub account_row : AccountLine → List ℕ
account_row a =
    codes "<tr><td>" ++ (escaped (string_bytes a.account) ++ (codes "</td><td class=\"n\">" ++ (decimal a.submits ++ (codes "</td><td class=\"n\">"
    ++ (decimal a.receipts
    ++ codes "</td></tr>\n")))))

-- ---- what was refused

unfoldable pub submits_row : RefusedSubmits → List ℕ
submits_row r =
    codes "<tr><td>submit_sm</td><td>" ++ (escaped (string_bytes r.account) ++ (codes "</td><td>command_status " ++ (decimal r.status
    ++ (codes "</td><td class=\"n\">" ++ (decimal r.count ++ codes "</td></tr>\n")))))

unfoldable pub binds_row : RefusedBinds → List ℕ
binds_row r =
    codes "<tr><td>bind</td><td></td><td>" ++ (escaped r.reason.now ++ (codes "</td><td class=\"n\">" ++ (decimal r.count ++ codes "</td></tr>\n")))

unfoldable pub deliveries_row : RefusedDeliveries → List ℕ
deliveries_row r =
    codes "<tr><td>delivery</td><td></td><td>RP cause " ++ (decimal r.cause ++ (codes ", " ++ (escaped r.reason.now ++ (codes "</td><td class=\"n\">"
    ++ (decimal r.count
    ++ codes "</td></tr>\n")))))

abbrev pub is_nothing_refused : StatusView → Bool
is_nothing_refused v = length v.refused_submits.now == 0 && (length v.refused_binds.now == 0 && length v.refused_deliveries.now == 0)

unfoldable pub refusals_table : StatusView → List ℕ
refusals_table v =
    REFUSALS_HEAD.now ++ (flat_map submits_row v.refused_submits.now ++ (flat_map binds_row v.refused_binds.now
    ++ (flat_map deliveries_row v.refused_deliveries.now
    ++ (none_row (is_nothing_refused v) (codes "4") ++ table_end))))

-- ---- the store

unfoldable pub store_tiles : StoreFigures → CommitFigures → List Sample → Quantile → Quantile → List ℕ
store_tiles s c samples median most =
    tiles_begin (codes "Store") ++ (tile (size_text s.file) (codes "file") ++ (tile (size_text s.log) (codes "its log")
    ++ (tile (decimal (commits_a_second samples)) (codes "commits a second") ++ (tile (quantile_text median) (codes "median of a commit")
    ++ (tile (quantile_text most) (codes "99 of 100 commits") ++ (graded_tile c.refused (codes "commits refused") ++ tiles_end))))))

-- how many groups were committed, and how many of them were no larger than that
unfoldable pub groups_tiles : GroupFigures → List ℕ
groups_tiles g =
    tiles_begin (codes "Groups of requests that were committed at once") ++ (tile (decimal g.up_to_64) (codes "groups") ++ (tile (decimal g.of_1) (codes "of 1")
    ++ (tile (decimal g.up_to_2) (codes "of 2 at most") ++ (tile (decimal g.up_to_4) (codes "of 4 at most") ++ (tile (decimal g.up_to_8) (codes "of 8 at most")
    ++ (tile (decimal g.up_to_16) (codes "of 16 at most") ++ (tile (decimal g.up_to_32) (codes "of 32 at most")
    ++ (tile (decimal g.items) (codes "items of all") ++ tiles_end))))))))

-- ---- events

-- an element of the list of events
unfoldable pub event_item : List ℕ → List ℕ
event_item event = codes "<li>" ++ (escaped event ++ codes "</li>\n")

-- how many of something were lost, if any were
abbrev pub lost_text : List ℕ → ℕ → List ℕ
lost_text what count = if count == 0 then [] else codes "<p class=\"bad\">" ++ (what ++ (codes ": " ++ (decimal count ++ codes "</p>\n")))

unfoldable pub events_begin : List ℕ
events_begin = codes "<h2>Events, the latest first</h2><div class=\"wide\"><ol>\n"

unfoldable pub events_end : List ℕ
events_end = codes "</ol></div>\n"

-- the latest first
unfoldable pub events_list : StatusView → List ℕ
events_list v =
    events_begin ++ (flat_map (λ event. event_item (string_bytes event)) (reverse v.events.now) ++ (events_end
    ++ (lost_text (codes "events that found no room") v.lost_events
    ++ lost_text (codes "lines of the log that were lost") v.lost_lines)))

-- ---- the whole

unfoldable pub foot_text : List ℕ → List ℕ
foot_text version =
    codes "<h2>Program</h2><p>" ++ (escaped version
    ++ codes "</p><p><a href=\"/metrics\">/metrics</a> <a href=\"/status.json\">/status.json</a></p>\n</body></html>\n")

unfoldable pub page_text : StatusView → Quantile → Quantile → List ℕ
page_text v median most =
    HEAD.now ++ (heading_text v ++ (messages_tiles v.messages
    ++ (charts_text (map (λ (s : Sample). s.submissions) v.samples.now) (map (λ (s : Sample). s.deliveries) v.samples.now)
    ++ (seats_tiles (length v.sessions.now) (length v.links.now)
    ++ (table_text SESSIONS_HEAD.now session_row v.sessions.now (codes "7") ++ (table_text LINKS_HEAD.now link_row v.links.now (codes "6")
    ++ (stuck_text v
    ++ (table_text ACCOUNTS_HEAD.now account_row v.accounts.now (codes "3") ++ (refusals_table v
    ++ (store_tiles v.store v.commits v.samples.now median most ++ (groups_tiles v.groups
    ++ (events_list v ++ foot_text (trim_end v.version.now)))))))))))))
