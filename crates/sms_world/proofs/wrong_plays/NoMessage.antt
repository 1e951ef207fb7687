-- A message that nobody submitted is in no report of no events, and comes from none.
use Rattle.std.proofs.Common.{◌≡◌, List, [], ◌∷◌, refl, sym, ◌∙◌, ap, inl, Result, Ok}
use Rattle.std.specs.Prelude.{◌++◌}
use Rattle.sms_centre_rows.specs.declared.messages.message.MessageRow.{MessageRow}
use Rattle.sms_centre_rows.specs.declared.messages.part.PartRow.{PartRow}
use Rattle.sms_play.specs.PlayState.{PlayState}
use Rattle.sms_play.specs.Playing.{report_of}
use Rattle.sms_script.specs.declared.event.WorldEvent.{WorldEvent}
use Rattle.sms_script.specs.declared.play_fault.PlayFault.{PlayFault}
use Rattle.sms_script.specs.declared.report.Report.{Report}
use Rattle.sms_centre_rows.specs.declared.report_lines.MessageState.TheVariants.{Enroute}
use Rattle.sms_world.specs.headline.Origins.{IsFrom}
use Rattle.sms_world.specs.wrong_plays.Plays.{first, from_application, setup}
use Rattle.sms_world.specs.wrong_plays.Told.{FromNoneLaw, LineOfNoneLaw, NobodysLaw, ReceiptOfNoneLaw}
use Rattle.sms_world.specs.wrong_reports.Literals.{line, receipt}

abbrev pub Leads : Result PlayState PlayFault → PlayState → Type 0
Leads found c = found ≡ Ok c

pub inside : (c d : PlayState) → Leads (Ok c) d → c ≡ d
inside c d e = cc

no_line : [] ≡ line Enroute ∷ [] → ⊥
no_line e = absurd cc

pub nobodys : NobodysLaw
nobodys h =
    no_line (sym (ap (λ (r : Report). r.table) h.is_of ∙ ap (λ (c : PlayState). (report_of c).table) (sym (inside first h.play h.leads))))

-- no events have no first event
pub no_events : (some : List WorldEvent) (e : WorldEvent) (others : List WorldEvent) → [] ≡ some ++ e ∷ others → ⊥
no_events [] e others q = absurd cc
no_events (x ∷ xs) e others q = absurd cc

no_origin : (m : MessageRow) (parts : List PartRow) → IsFrom setup [] m parts → ⊥
no_origin m parts o = no_events o.some o.event o.others o.among

pub from_none : FromNoneLaw
from_none all = no_origin from_application _ (all from_application (inl refl))

pub line_of_none : LineOfNoneLaw
line_of_none all =
    let x = all (record { id = 1; from = from_application.source.digits; to = from_application.handset; state = _ }) (inl refl) refl in
    no_origin x.0 _ x.1.2.0

pub receipt_of_none : ReceiptOfNoneLaw
receipt_of_none all = let x = all receipt (inl refl) refl in no_origin x.0 _ x.1.2.0
