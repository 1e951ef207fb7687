-- The whole plain headline, from its claims one by one, and of each report.
use Rattle.std.proofs.Common.{◌≡◌, ℕ, List, [], length, sym, ◌∙◌, ap, subst, Option, Result, Ok}
use Rattle.sms_base.specs.Among.{Among}
use Rattle.sms_base.specs.declared.holder.Holder.{Holder}
use Rattle.sms_control.specs.ControlReading.{cp_at}
use Rattle.sms_play.specs.PlayState.{PlayState}
use Rattle.sms_play.specs.Playing.{broken_on, play_of, play_state_of, premises_of, report_of}
use Rattle.sms_play.specs.Setups.{beginning, can_be_played}
use Rattle.sms_script.specs.declared.event.WorldEvent.{WorldEvent}
use Rattle.sms_script.specs.declared.play_fault.PlayFault.{PlayFault}
use Rattle.sms_script.specs.declared.report.Broken.{Broken}
use Rattle.sms_script.specs.declared.report.Report.{Report}
use Rattle.sms_script.specs.declared.script.Script.{Script}
use Rattle.sms_script.specs.declared.setup.Setup.{Setup}
use Rattle.sms_world.specs.headline.SeenFrames.{frame_tpdu}
use Rattle.sms_world.specs.headline.TypedEvents.{AreTyped}
use Rattle.sms_world.specs.headline.HeadlineLaws.{IsScript, LeadsOn}
use Rattle.sms_world.specs.headline.OwnerClaims.{IsOwners, OwnersAreSent}
use Rattle.sms_world.specs.headline.PlainHeadline.{Receipts}
use Rattle.sms_world.specs.headline.PlainLaws.{AreReports, PlainLaw, PlainReportLaw}
use Rattle.sms_world.specs.headline.PlainReports.{IsPlain}
use Rattle.sms_world.specs.headline.PlainReport.{AnswersAscend, AreAscending, GivenOnce, NoSystemError, NoneTwice, compared_lines}
use Rattle.sms_world.proofs.headline.ScriptCourses.{can_play}
use Rattle.sms_world.proofs.headline.ExactPremises.{none_is, premises_are, reported_plays, to_head}
use Rattle.sms_world.proofs.headline.EntryFrames.{HolderSays}
use Rattle.sms_world.proofs.headline.HeadlineHolds.{nothing_more, of_play}
use Rattle.sms_world.proofs.headline.PlainClaims.{ascend_is, ascending_is, no_error_is, plain_once_is, receipts_is, references_is}
use Rattle.sms_world.proofs.headline.PlainDeleted.{deleted_is}
use Rattle.sms_world.proofs.headline.PlainDelivered.{accepted_lines_are, delivered_lines_are, of_events_is, told_lines_are}
use Rattle.sms_world.proofs.headline.PlainEntries.{OwnersKnown, owners_known}
use Rattle.sms_world.proofs.headline.PlainJoined.{joined_pieces_are}
use Rattle.sms_world.proofs.headline.PlainNamed.{named_is}
use Rattle.sms_world.proofs.headline.PlainRequests.{cancels_are, queries_are}
use Rattle.sms_world.proofs.headline.PlainReports.{reports_is}
use Rattle.sms_world.proofs.headline.PlainSent.{sent_lines_are}
use Rattle.sms_world.proofs.headline.PlainStays.{each_stays_is}
use Rattle.sms_world.proofs.headline.PlainSteps.{all_of, last_of, on_last}

abbrev answer : Option Broken → Result (Option Broken) PlayFault
answer o = Ok o

pub plain_is : PlainLaw
plain_is script after broken typed reports is =
    let c : PlayState = (last_of script after typed reports).0 in
    let back : report_of c ≡ after (length script.events) = sym (last_of script after typed reports).1.1 in
    let its : IsScript script script.events [] = all_of script after typed reports in
    let on : LeadsOn script script.events c c = on_last script after typed reports in
    record {
      messages = record {
        ascending = subst (λ (r : Report). AreAscending r.table) back (ascending_is script script.events [] c c its on);
        of_events = of_events_is script after typed reports;
        stay = each_stays_is script after typed reports;
      };
      receipts = subst (λ (r : Report). Receipts r) back (receipts_is script script.events [] c c its on);
      answers = record {
        ascend = subst (λ (r : Report). AnswersAscend r.answers) back (ascend_is script script.events [] c c its on);
        named = named_is script after typed reports;
        queries = queries_are script after typed reports;
        cancels = cancels_are script after typed reports;
        deleted = deleted_is script after typed reports;
        no_system_error = subst (λ (r : Report). NoSystemError r) back (no_error_is script script.events [] c c its on);
      };
      references = subst (λ (r : Report). GivenOnce r.given) back (references_is script script.events [] c c its on);
      deliveries = λ none.
          let p = (none_is script.setup script.events).0 (is ∙ ap answer none) in
          record {
            lines = delivered_lines_are script after typed reports p.1;
            receipts = told_lines_are script after typed reports p.1;
            accepted = accepted_lines_are script after typed reports p.1;
            once = subst (λ (r : Report). NoneTwice (compared_lines r.accepted)) back (plain_once_is script script.events [] c c its on p.1);
            sent = sent_lines_are script after typed reports p.1;
            joined = joined_pieces_are script after typed reports p.1 p.2;
          };
    }

-- ---- of each report

-- a script that plays has its premises decided
decided : (s : Setup) (events : List WorldEvent) (c : PlayState) → play_state_of s events ≡ Ok c → (o : Option Broken) × (premises_of s events ≡ answer o)
decided s events c leads =
    let there = can_play s events c leads in
    let o = reported_plays 1 events (beginning s) c there.leads in
    (o.0, to_head (can_be_played s) (broken_on 1 events (beginning s)) o.0 there.can o.1)

-- what a handset sent for an entry is of its owner's text
owners_sent : (script : Script) (after : ℕ → Report) → AreTyped script.events → AreReports script after → (report : Report) → play_of script.setup script.events ≡ Ok report → OwnersAreSent script after report
owners_sent script after typed reports report plays f x e i up carries kind tag =
    let p = of_play (play_state_of script.setup script.events) report plays in
    let known : OwnersKnown script after p.0 = owners_known script after typed reports script.events [] p.0 (nothing_more script.events) p.1.0 in
    let there : Among f p.0.bag = subst (λ (r : Report). Among f r.bag) p.1.1 i in
    subst (λ (h : Holder). HolderSays (IsOwners script after f.handset) h (frame_tpdu (cp_at f.octets))) tag (known.bag f there up x carries kind)

-- the reports of a script are such, whatever breaks its premises
pub plainly : (setup : Setup) (events : List WorldEvent) (report : Report) (broken : Option Broken) → AreTyped events → play_of setup events ≡ Ok report → premises_of setup events ≡ answer broken
    → IsPlain setup events report broken
plainly setup events report broken typed plays is =
    let script : Script = record { setup = setup; events = events } in
    let r = reports_is script report typed plays in
    record {
      after = r.0;
      each = r.1.0;
      last = r.1.1;
      headline = plain_is script r.0 broken typed r.1.0 is;
      owners = owners_sent script r.0 typed r.1.0 report plays;
    }

pub plain_report_is : PlainReportLaw
plain_report_is setup events report typed plays =
    let x = of_play (play_state_of setup events) report plays in
    let d = decided setup events x.0 x.1.0 in
    (d.0, (premises_are setup events d.0 d.1, plainly setup events report d.0 typed plays d.1))
