-- What is offered to handsets: to each one whose link is ready, the next that is due. It touches the links alone.
use Rattle.std.specs.Prelude.{ℕ, ◌==◌, ◌||◌, List, [], ◌∷◌, Bool, false, if◌then◌else◌, Option, Some, None}
use Rattle.sms_base.specs.declared.holder.Holder.{Holder}
use Rattle.sms_base.specs.declared.holder.Holder.TheVariants.{Part, Report}
use Rattle.sms_link.specs.LinkTurn.{begun}
use Rattle.sms_relay.specs.RelayGrammar.{data_down}
use Rattle.sms_tpdu.specs.AddressGrammar.{relay_address}
use Rattle.sms_tpdu.specs.MoreMessages.{with_more_messages}
use Rattle.sms_centre_rows.specs.declared.messages.part.PartRow.{PartRow}
use Rattle.sms_centre_rows.specs.messages.Messages.{part_at, part_key}
use Rattle.sms_centre_rows.specs.declared.reports.report.ReportRow.{ReportRow}
use Rattle.sms_centre_rows.specs.reports.Reports.{report_of, status_tpdu}
use Rattle.sms_centre_rows.specs.declared.waiting.handset.HandsetRow.{HandsetRow}
use Rattle.sms_centre_rows.specs.declared.waiting.handset_link.HandsetLink.{HandsetLink}
use Rattle.sms_centre_rows.specs.declared.waiting.queued_part.QueuedPart.{QueuedPart}
use Rattle.sms_centre_rows.specs.declared.waiting.revision.Revision.{Revision}
use Rattle.sms_centre_rows.specs.declared.waiting.revision.Revision.TheVariants.{Put, Amend, Remove}
use Rattle.sms_centre_rows.specs.waiting.Keys.{queued_key}
use Rattle.sms_centre_rows.specs.waiting.Links.{Links, is_ready, link_of, read_for, turn_link}
use Rattle.sms_centre_rows.specs.waiting.Waiting.{next, waits_beside}
use Rattle.sms_centre_spec.specs.Draft.{Draft, Store, handsets_in, on_links, parts_in, reports_in, waiting_in}

-- ---- the TPDU of what waits, as made when its reference was given

abbrev pub part_tpdu : Option PartRow → List ℕ
part_tpdu None = []
part_tpdu (Some p) = p.tpdu

abbrev pub report_tpdu : Option ReportRow → List ℕ
report_tpdu None = []
report_tpdu (Some r) = status_tpdu r.kind

abbrev pub tpdu_of : QueuedPart → Store → List ℕ
tpdu_of l s = if l.number == 0 then report_tpdu (report_of l.id (reports_in s)) else part_tpdu (part_at l.id l.number (parts_in s))

-- ---- it is read from the store, unless this event made it

abbrev pub puts_part : ℕ → List (Revision PartRow) → Bool
puts_part key [] = false
puts_part key (Put p ∷ news) = (part_key p == key) || puts_part key news
puts_part key (Amend n progress ∷ news) = puts_part key news
puts_part key (Remove n ∷ news) = puts_part key news

abbrev pub puts_report : ℕ → List (Revision ReportRow) → Bool
puts_report id [] = false
puts_report id (Put r ∷ news) = (r.id == id) || puts_report id news
puts_report id (Amend n progress ∷ news) = puts_report id news
puts_report id (Remove n ∷ news) = puts_report id news

abbrev pub is_made : QueuedPart → Store → Bool
is_made l s = if l.number == 0 then puts_report l.id s.reports.news else puts_part (queued_key l) s.messages.parts.news

abbrev pub read_of : QueuedPart → Store → Links → Links
read_of l s links = if is_made l s then links else read_for (queued_key l) links

-- ---- offering it

-- number 0 is a status report
abbrev pub holder_of : QueuedPart → Holder
holder_of l = if l.number == 0 then Report l.id else Part l.id l.number

abbrev pub unit_of : QueuedPart → Bool → Store → List ℕ
unit_of l more s = data_down l.reference (relay_address s.setup.centre) (with_more_messages more (tpdu_of l s))

abbrev pub offer_queued : HandsetLink → List QueuedPart → Option QueuedPart → Store → Links → Links
offer_queued link waiting None s links = links
offer_queued link waiting (Some l) s links =
    turn_link link (begun s.moment l.reference (holder_of l) (unit_of l (waits_beside s.moment l waiting) s) link.near_end) (read_of l s links)

abbrev pub offer_among : HandsetLink → List QueuedPart → Store → Links → Links
offer_among link waiting s links = offer_queued link waiting (next s.moment waiting) s links

abbrev pub offer_on : HandsetLink → Store → Links → Links
offer_on link s links = if is_ready link then offer_among link (waiting_in link.handset s) s links else links

abbrev pub offer_to : List ℕ → Store → Links → Links
offer_to handset s links = offer_on (link_of handset links.all) s links

-- in order of first mention
abbrev pub offer_all : List HandsetRow → Store → Links → Links
offer_all [] s links = links
offer_all (h ∷ hs) s links = offer_all hs s (offer_to h.number s links)

abbrev pub offer : Draft → Draft
offer d = on_links (offer_all (handsets_in d.store) d.store d.links) d
