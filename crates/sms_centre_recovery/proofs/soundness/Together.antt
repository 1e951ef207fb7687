-- Tests that hold together.
use Rattle.std.proofs.Common.{◌≡◌, ℕ, List, Bool, true, false, sym, ◌∙◌}
use Rattle.std.specs.Prelude.{◌&&◌}
use Rattle.std.proofs.lemmas.Bool.{and_from, and_parts}
use Rattle.sms_base.specs.Among.{Among}
use Rattle.sms_centre_rows.specs.declared.messages.message.MessageRow.{MessageRow}
use Rattle.sms_centre_rows.specs.messages.Bars.{bar_key}
use Rattle.sms_centre_rows.specs.messages.SoundMessages.{SoundMessages}
use Rattle.sms_centre_rows.specs.reports.SoundReports.{SoundReports}
use Rattle.sms_centre_rows.specs.waiting.References.{handset_at}
use Rattle.sms_centre_rows.specs.waiting.SoundAllocations.{SoundAllocations}
use Rattle.sms_centre_rows.specs.waiting.SoundWaiting.{SoundWaiting}
use Rattle.sms_centre_spec.specs.declared.rows.Rows.{Rows}
use Rattle.sms_centre_spec.specs.SoundRows.{AreSplitApart, AreTimes, HasReportAddress, IsSetup, IsSound, all_for}
use Rattle.sms_centre_recovery.specs.soundness.RowsOf.{IsSoundAlone}
use Rattle.sms_rows.specs.table.Table.{Rises}

-- ---- all conditions of the rows

-- what waits, where all else is sound
abbrev pub WaitingIsTested : Rows → Bool → Type 0
WaitingIsTested rows b =
    SoundAllocations rows.handsets rows.references → SoundMessages rows.messages rows.parts rows.priorities → SoundReports rows.messages rows.reports
    → ((m : MessageRow) → Among m rows.messages → HasReportAddress m.originator m.source)
    → (b ≡ true → (number : List ℕ) → SoundWaiting (handset_at number rows.handsets) rows.references (all_for number rows))
    × (((number : List ℕ) → SoundWaiting (handset_at number rows.handsets) rows.references (all_for number rows)) → b ≡ true)

abbrev pub IsTestOf : Bool → Type 0 → Type 0
IsTestOf b P = (b ≡ true → P) × (P → b ≡ true)

pub alone_from : (rows : Rows) (setup times told messages one two out : Bool) → IsTestOf setup (IsSetup rows.setup) → IsTestOf times (AreTimes rows.messages rows.references rows.reports)
    → IsTestOf told ((m : MessageRow) → Among m rows.messages → HasReportAddress m.originator m.source) → IsTestOf messages (SoundMessages rows.messages rows.parts rows.priorities)
    → Rises bar_key rows.bars → one ≡ setup && times → two ≡ told && messages → out ≡ one && two → out ≡ true → IsSoundAlone rows
alone_from rows setup times told messages one two out s t d m r a b o x =
    let top = and_parts one two (sym o ∙ x) in
    let x1 = and_parts setup times (sym a ∙ top.0) in
    let x2 = and_parts told messages (sym b ∙ top.1) in
    record { setup = s.0 x1.0; times = t.0 x1.1; report_addresses = d.0 x2.0; sound = m.0 x2.1; bars = r }

pub alone_to : (rows : Rows) (setup times told messages one two out : Bool) → IsTestOf setup (IsSetup rows.setup) → IsTestOf times (AreTimes rows.messages rows.references rows.reports)
    → IsTestOf told ((m : MessageRow) → Among m rows.messages → HasReportAddress m.originator m.source) → IsTestOf messages (SoundMessages rows.messages rows.parts rows.priorities)
    → one ≡ setup && times → two ≡ told && messages → out ≡ one && two → IsSound rows → out ≡ true
alone_to rows setup times told messages one two out s t d m a b o sound =
    o ∙ and_from one two (a ∙ and_from setup times (s.1 sound.setup) (t.1 sound.times)) (b ∙ and_from told messages (d.1 sound.report_addresses) (m.1 sound.messages))

pub beside_decides : (rows : Rows) (allocations reports splits waiting three four out : Bool)
    → IsTestOf allocations (SoundAllocations rows.handsets rows.references) → IsTestOf reports (SoundReports rows.messages rows.reports) → IsTestOf splits (AreSplitApart rows.messages) → WaitingIsTested rows waiting
    → three ≡ allocations && reports → four ≡ splits && waiting → out ≡ three && four → IsSoundAlone rows → IsTestOf out (IsSound rows)
beside_decides rows allocations reports splits waiting three four out g r p w e f o alone = (
  λ x.
      let top = and_parts three four (sym o ∙ x) in
      let x3 = and_parts allocations reports (sym e ∙ top.0) in
      let x4 = and_parts splits waiting (sym f ∙ top.1) in
      record {
        setup = alone.setup;
        times = alone.times;
        messages = alone.sound;
        report_addresses = alone.report_addresses;
        allocations = g.0 x3.0;
        reports = r.0 x3.1;
        waiting = (w (g.0 x3.0) alone.sound (r.0 x3.1) alone.report_addresses).0 x4.1;
        splits = p.0 x4.0;
        bars = alone.bars;
      },
  λ sound.
      o ∙ and_from three four (e ∙ and_from allocations reports (g.1 sound.allocations) (r.1 sound.reports))
      (f ∙ and_from splits waiting (p.1 sound.splits) ((w sound.allocations sound.messages sound.reports sound.report_addresses).1 sound.waiting)),
)

-- what does not stand alone is not sound
pub not_alone : (rows : Rows) (alone : Bool) → (IsSound rows → alone ≡ true) → alone ≡ false → IsTestOf false (IsSound rows)
not_alone rows alone only e = (λ x. absurd cc, λ sound. let bad : true ≡ false = sym (only sound) ∙ e in absurd cc)
