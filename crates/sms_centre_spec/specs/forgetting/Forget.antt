-- Forgetting as stages of an event, with its changes. It looks at so many messages from a number on, and those that may go leave, each
-- with its report, its parts and its priority. What they lay claim to is kept as bars. Nothing is due by it, so nothing follows it.
use Rattle.std.specs.Prelude.{ℕ, zero, suc, ◌==◌, ◌&&◌, ◌||◌, not, drop, List, [], ◌∷◌, ◌++◌, Bool, false, Option, Some, None}
use Rattle.sms_base.specs.declared.carried.Carried.{Carried}
use Rattle.sms_base.specs.declared.holder.Holder.{Holder}
use Rattle.sms_base.specs.declared.holder.Holder.TheVariants.{Part, Report, Entry, Memory}
use Rattle.sms_rows.specs.declared.table.change.Change.{Change}
use Rattle.sms_rows.specs.table.Since.{oldest_first as changes_of, take_out, untouched}
use Rattle.sms_rows.specs.table.Table.{rows_from}
use Rattle.sms_centre_rows.specs.declared.messages.bar.BarRow.{BarRow}
use Rattle.sms_centre_rows.specs.declared.messages.message.MessageRow.{MessageRow}
use Rattle.sms_centre_rows.specs.declared.messages.part.PartRow.{PartRow}
use Rattle.sms_centre_rows.specs.declared.messages.claim.Claim.{Claim}
use Rattle.sms_centre_rows.specs.messages.Bars.{claims_of, put_bars}
use Rattle.sms_centre_rows.specs.messages.Messages.{Messages, message_at, message_key, part_at, part_key, parts_of}
use Rattle.sms_centre_rows.specs.messages.SplitReferences.{is_among}
use Rattle.sms_centre_rows.specs.declared.reports.report.ReportRow.{ReportRow}
use Rattle.sms_centre_rows.specs.reports.Receipts.{is_unanswered}
use Rattle.sms_centre_rows.specs.reports.Reports.{report_key, report_of, reports_of}
use Rattle.sms_centre_rows.specs.declared.waiting.handset_link.HandsetLink.{HandsetLink}
use Rattle.sms_centre_rows.specs.declared.waiting.revision.Revision.TheVariants.{Remove}
use Rattle.sms_centre_rows.specs.waiting.Revisions.{Revised}
use Rattle.sms_centre_spec.specs.Draft.{Core, Draft, Store, draft_of, in_store, store_of}
use Rattle.sms_centre_spec.specs.forgetting.Forgetting.{going_from, may_go}

-- ---- which messages may go now: neither is a receipt of one unanswered, nor is anything of it under way

abbrev pub is_held_for : ℕ → Holder → Bool
is_held_for id (Part n number) = n == id
is_held_for id (Report n) = n == id
is_held_for id (Entry n) = false
is_held_for id (Memory n) = false

abbrev pub is_carried : ℕ → Option Carried → Bool
is_carried id None = false
is_carried id (Some transfer) = is_held_for id transfer.tag

abbrev pub is_on_way : ℕ → List HandsetLink → Bool
is_on_way id [] = false
is_on_way id (l ∷ ls) = is_carried id l.near_end.under_way || is_on_way id ls

abbrev pub may_go_now : ℕ → Core → MessageRow → Bool
may_go_now before c m =
    may_go before c.rows m && (not (is_unanswered m.id c.sessions) && not (is_on_way m.id c.links))

abbrev pub going_now : ℕ → ℕ → ℕ → Core → List ℕ
going_now before from most c = going_from (may_go_now before c) from most c.rows.messages

abbrev pub is_going_now : ℕ → ℕ → ℕ → Core → ℕ → Bool
is_going_now before from most c id = is_among id (going_now before from most c)

-- the number of the first message that is not looked at, or 0 where the last one is
abbrev pub first_number : List MessageRow → ℕ
first_number [] = 0
first_number (m ∷ ms) = m.id

abbrev pub next_from : ℕ → ℕ → List MessageRow → ℕ
next_from from most ms = first_number (drop most (rows_from message_key from ms))

-- ---- moves of messages, and of reports: one change of one list each

abbrev pub remove_in : {A : Type 0} → ℕ → Revised A → Revised A
remove_in n t = record { base = t.base; news = Remove n ∷ t.news }

abbrev pub without_message : ℕ → Messages → Messages
without_message id m = record m { messages = take_out id m.messages }

abbrev pub without_priority : ℕ → Messages → Messages
without_priority id m = record m { priorities = take_out id m.priorities }

abbrev pub without_part : ℕ → Messages → Messages
without_part key m = record m { parts = remove_in key m.parts }

-- ---- a message with its parts and its priority

abbrev pub part_gone : Option PartRow → Messages → Messages
part_gone None m = m
part_gone (Some p) m = without_part (part_key p) m

abbrev pub part_out : ℕ → ℕ → Messages → Messages
part_out id number m = part_gone (part_at id number (parts_of m)) m

-- those with numbers up to that, the lowest first
unfoldable pub parts_out : ℕ → ℕ → Messages → Messages
parts_out id zero m = m
parts_out id (suc n) m = part_out id (suc n) (parts_out id n m)

-- a message has at most 20 parts
abbrev pub message_out : ℕ → Messages → Messages
message_out id m = without_message id (without_priority id (parts_out id 20 m))

-- ---- its report

abbrev pub report_gone : Option ReportRow → Revised ReportRow → Revised ReportRow
report_gone None t = t
report_gone (Some r) t = remove_in (report_key r) t

abbrev pub report_out : ℕ → Revised ReportRow → Revised ReportRow
report_out id t = report_gone (report_of id (reports_of t)) t

-- ---- the event

abbrev pub message_gone : ℕ → Store → Store
message_gone id s = record s { messages = message_out id s.messages; reports = report_out id s.reports }

abbrev pub messages_gone : List ℕ → Store → Store
messages_gone [] s = s
messages_gone (id ∷ ids) s = messages_gone ids (message_gone id s)

-- what the messages of these numbers lay claim to
abbrev pub claims_at : Option MessageRow → List PartRow → List Claim
claims_at None ps = []
claims_at (Some m) ps = claims_of m ps

abbrev pub claims_by : List ℕ → List MessageRow → List PartRow → List Claim
claims_by [] ms ps = []
claims_by (id ∷ ids) ms ps = claims_at (message_at id ms) ps ++ claims_by ids ms ps

-- the bars that are put for it
abbrev pub bars_put : List Claim → List BarRow → List (Change BarRow)
bars_put claims bars = changes_of (put_bars claims (untouched bars)).news

abbrev pub kept_as_bars : List Claim → Store → Store
kept_as_bars claims s = record s { bars = put_bars claims s.bars }

abbrev pub forget : ℕ → ℕ → ℕ → Core → Draft
forget before from most c =
    in_store
    (kept_as_bars (claims_by (going_now before from most c) c.rows.messages c.rows.parts)
    (messages_gone (going_now before from most c) (store_of c.rows c.moment)))
    (draft_of c)
