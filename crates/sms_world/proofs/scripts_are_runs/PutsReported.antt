-- The rows that an event tells of parts stand in the order of the parts' keys.
use Rattle.std.proofs.Common.{◌≡◌, ℕ, ◌<◌, List, [], ◌∷◌, ◌++◌, refl, sym, ◌∙◌, ap, subst, ⊎_elim}
use Rattle.sms_base.specs.Among.{Among}
use Rattle.sms_base.specs.declared.holder.Holder.TheVariants.{Part}
use Rattle.sms_script.specs.declared.report.rows.Direction.TheVariants.{Down}
use Rattle.sms_script.specs.declared.report.rows.GivenRow.{GivenRow}
use Rattle.sms_centre_rows.specs.messages.Messages.{message_at, part_key}
use Rattle.sms_centre_rows.specs.declared.messages.message.MessageRow.{MessageRow}
use Rattle.sms_centre_rows.specs.declared.messages.part.PartRow.{PartRow}
use Rattle.sms_centre_rows.specs.declared.reports.report.ReportKind.{ReportKind}
use Rattle.sms_centre_rows.specs.declared.reports.report.ReportKind.TheVariants.{Receipt, Status, Unsent}
use Rattle.sms_centre_rows.specs.declared.reports.report.ReportRow.{ReportRow}
use Rattle.sms_centre_rows.specs.declared.waiting.revision.Revision.{Revision}
use Rattle.sms_centre_rows.specs.declared.waiting.revision.Revision.TheVariants.{Put, Amend, Remove}
use Rattle.sms_centre_rows.specs.waiting.Revisions.{oldest_first}
use Rattle.sms_centre_spec.specs.CentreEvent.{happened}
use Rattle.sms_centre_spec.specs.Draft.{Core, Draft, changes_in, messages_in}
use Rattle.sms_centre_spec.specs.SoundCore.{IsEvent, IsSoundCore}
use Rattle.sms_centre_spec.specs.declared.event.CentreEvent.{CentreEvent}
use Rattle.sms_play.specs.CentreSide.{destination_in, given_by, parts_given as part_rows, report_given, reports_given, source_in}
use Rattle.sms_world.specs.headline.SeenWorld.{PartGiven, parts_reported}
use Rattle.sms_world.proofs.scripts_are_runs.Falling.{Falls, key_of, told_over}
use Rattle.sms_world.proofs.scripts_are_runs.PartsInOrder.{AllBelow, PutsFall, event_puts}

-- the parts that were put, newest first
abbrev puts_of : List MessageRow → List (Revision PartRow) → List PartGiven
puts_of ms [] = []
puts_of ms (Put p ∷ news) = record { handset = destination_in (message_at p.id ms); reference = p.reference; id = p.id; number = p.number } ∷ puts_of ms news
puts_of ms (Amend n progress ∷ news) = puts_of ms news
puts_of ms (Remove n ∷ news) = puts_of ms news

all_below : (key : ℕ) (ms : List MessageRow) (news : List (Revision PartRow)) → AllBelow key news → (y : PartGiven) → Among y (puts_of ms news) → key_of y < key
all_below key ms [] below y i = absurd i
all_below key ms (Put p ∷ news) below y i = ⊎_elim
    (λ (e : y ≡ _). subst (λ (k : ℕ). k < key) (ap key_of (sym e)) below.0)
    (λ (j : Among y (puts_of ms news)). all_below key ms news below.1 y j)
    i
all_below key ms (Amend n progress ∷ news) below y i = all_below key ms news below y i
all_below key ms (Remove n ∷ news) below y i = all_below key ms news below y i

puts_fall : (ms : List MessageRow) (news : List (Revision PartRow)) → PutsFall news → Falls (puts_of ms news)
puts_fall ms [] fall = tt
puts_fall ms (Put p ∷ news) fall = (all_below (part_key p) ms news fall.0, puts_fall ms news fall.1)
puts_fall ms (Amend n progress ∷ news) fall = puts_fall ms news fall
puts_fall ms (Remove n ∷ news) fall = puts_fall ms news fall

pub rows_over : (moment : ℕ) (ms : List MessageRow) (xs ys : List (Revision PartRow)) → part_rows moment ms (xs ++ ys) ≡ part_rows moment ms xs ++ part_rows moment ms ys
rows_over moment ms [] ys = refl
rows_over moment ms (Put p ∷ xs) ys =
    let row : GivenRow = record { handset = destination_in (message_at p.id ms); direction = Down; reference = p.reference; holder = Part p.id p.number; moment = moment } in
    ap (λ (z : List GivenRow). row ∷ z) (rows_over moment ms xs ys)
rows_over moment ms (Amend n progress ∷ xs) ys = rows_over moment ms xs ys
rows_over moment ms (Remove n ∷ xs) ys = rows_over moment ms xs ys

one_more : (moment : ℕ) (ms : List MessageRow) (news : List (Revision PartRow)) (x : Revision PartRow) → parts_reported [] (part_rows moment ms (oldest_first news)) ≡ puts_of ms news
    → parts_reported [] (part_rows moment ms (oldest_first news ++ x ∷ [])) ≡ parts_reported (puts_of ms news) (part_rows moment ms (x ∷ []))
one_more moment ms news x e =
    ap (λ (z : List GivenRow). parts_reported [] z) (rows_over moment ms (oldest_first news) (x ∷ []))
    ∙ told_over [] (part_rows moment ms (oldest_first news)) (part_rows moment ms (x ∷ []))
    ∙ ap (λ (z : List PartGiven). parts_reported z (part_rows moment ms (x ∷ []))) e

puts_reported : (moment : ℕ) (ms : List MessageRow) (news : List (Revision PartRow)) → parts_reported [] (part_rows moment ms (oldest_first news)) ≡ puts_of ms news
puts_reported moment ms [] = refl
puts_reported moment ms (Put p ∷ news) = one_more moment ms news (Put p) (puts_reported moment ms news)
puts_reported moment ms (Amend n progress ∷ news) = one_more moment ms news (Amend n progress) (puts_reported moment ms news)
puts_reported moment ms (Remove n ∷ news) = one_more moment ms news (Remove n) (puts_reported moment ms news)

-- ---- status reports are no parts

kind_reported : (newest : List PartGiven) (moment id : ℕ) (handset : List ℕ) (k : ReportKind) → parts_reported newest (report_given moment id handset k) ≡ newest
kind_reported newest moment id handset Receipt = refl
kind_reported newest moment id handset (Status reference tpdu) = refl
kind_reported newest moment id handset Unsent = refl

reports_reported : (newest : List PartGiven) (moment : ℕ) (ms : List MessageRow) (cs : List (Revision ReportRow)) → parts_reported newest (reports_given moment ms cs) ≡ newest
reports_reported newest moment ms [] = refl
reports_reported newest moment ms (Put r ∷ cs) =
    let rows : List GivenRow = report_given moment r.id (source_in (message_at r.id ms)) r.kind in
    told_over newest rows (reports_given moment ms cs)
    ∙ ap (λ (z : List PartGiven). parts_reported z (reports_given moment ms cs)) (kind_reported newest moment r.id (source_in (message_at r.id ms)) r.kind)
    ∙ reports_reported newest moment ms cs
reports_reported newest moment ms (Amend n progress ∷ cs) = reports_reported newest moment ms cs
reports_reported newest moment ms (Remove n ∷ cs) = reports_reported newest moment ms cs

-- ---- an event

pub rows_fall : (event : CentreEvent) (c : Core) → IsSoundCore c → IsEvent event → Falls (parts_reported [] (given_by (happened event c)))
rows_fall event c sound is =
    let d : Draft = happened event c in
    let ms : List MessageRow = messages_in d.store in
    let news : List (Revision PartRow) = d.store.messages.parts.news in
    let same : parts_reported [] (given_by d) ≡ puts_of ms news =
    told_over [] (part_rows d.store.moment ms (oldest_first news)) (reports_given d.store.moment ms (changes_in d.store).reports)
    ∙ reports_reported (parts_reported [] (part_rows d.store.moment ms (oldest_first news))) d.store.moment ms (changes_in d.store).reports
    ∙ puts_reported d.store.moment ms news in
    subst (λ (ps : List PartGiven). Falls ps) (sym same) (puts_fall ms news (event_puts event c sound is))
