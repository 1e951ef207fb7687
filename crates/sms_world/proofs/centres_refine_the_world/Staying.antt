-- What others do leaves what the centre sees, and the next event finds it.
use Rattle.std.proofs.Common.{ℕ, List, refl, sym, subst, Option, Some, None}
use Rattle.sms_base.specs.Among.{Among}
use Rattle.sms_base.specs.declared.carried.Carried.{Carried}
use Rattle.sms_control.specs.declared.link_state.Answer.{Answer}
use Rattle.sms_control.specs.declared.link_state.Begun.{Begun}
use Rattle.sms_control.specs.declared.link_state.Opened.{Opened}
use Rattle.sms_control.specs.declared.transaction.TransactionFlag.{TransactionFlag}
use Rattle.sms_control.specs.declared.transaction.TransactionFlag.TheVariants.{FromOriginator, ToOriginator}
use Rattle.sms_centre_spec.specs.Draft.{Draft, draft_of, handsets_in, messages_in, parts_in, references_in, reports_in}
use Rattle.sms_centre_rows.specs.declared.messages.message.MessageRow.{MessageRow}
use Rattle.sms_world_model.specs.LastAllocations.{LastAllocations, RefinesAllocations}
use Rattle.sms_world.specs.centres_refine_the_world.RefinesGiven.{RefinesHolders, seconds_by}
use Rattle.sms_world.specs.headline.SeenWorld.{PartSeen, RefinesTable, messages_by, parts_by}
use Rattle.sms_world.specs.centres_refine_the_world.RefinesReports.{ReportSeen, RefinesReports, reports_by}
use Rattle.sms_centre_rows.specs.declared.waiting.handset_link.HandsetLink.{HandsetLink}
use Rattle.sms_world_model.specs.WorldStep.{end}
use Rattle.sms_world_model.specs.ScriptRun.{items}
use Rattle.sms_world_model.specs.Sides.{LeavesCentre}
use Rattle.sms_world_model.specs.World.{Allocation, Message, ReceiptOf, Sent, World}
use Rattle.sms_world_model.proofs.Apart.{handset_leaves_centre}
use Rattle.sms_world.specs.centres_refine_the_world.CentreLaws.{HandsetLaw, NextLaw}
use Rattle.sms_world.specs.centres_refine_the_world.CentreRefinement.{RowsSee}
use Rattle.sms_world.specs.centres_refine_the_world.RefinesLinks.{RefinesAnswerDown, RefinesBegunDown, RefinesLink, RefinesOpenedDown, WasSentDown}
use Rattle.sms_world.proofs.handset_runs_are_steps.Others.{items_grow}

-- ---- frames only come

module _ (bag more : List Sent) (grown : (x : Sent) → Among x bag → Among x more) (h : List ℕ) where
  sent_still : (flag : TransactionFlag) (octets : List ℕ) (c : Carried) → WasSentDown h bag flag octets c → WasSentDown h more flag octets c
  sent_still flag octets c s = (s.0, s.1, (s.2.0, grown _ s.2.1))

  answer_still : (answered : Option Carried) (a : Option Answer) → RefinesAnswerDown h bag answered a → RefinesAnswerDown h more answered a
  answer_still answered None s = tt
  answer_still answered (Some a) s = (s.0, (s.1.0, sent_still ToOriginator a.frame s.0 s.1.1))

  opened_still : (answered : Option Carried) (o : Option Opened) → RefinesOpenedDown h bag answered o → RefinesOpenedDown h more answered o
  opened_still answered None s = tt
  opened_still answered (Some o) s = (s.0, answer_still answered o.answer s.1)

  begun_still : (under_way : Option Carried) (o : Option Begun) → RefinesBegunDown h bag under_way o → RefinesBegunDown h more under_way o
  begun_still under_way None s = tt
  begun_still under_way (Some b) s = (s.0, (s.1.0, sent_still FromOriginator b.frame s.0 s.1.1, s.1.2))

pub link_still : (bag more : List Sent) → ((x : Sent) → Among x bag → Among x more) → (link : HandsetLink) → RefinesLink bag link → RefinesLink more link
link_still bag more grown link s = record {
  next = s.next;
  opened = opened_still bag more grown link.handset link.near_end.answered link.near_end.links.opened s.opened;
  begun = begun_still bag more grown link.handset link.near_end.under_way link.near_end.links.begun s.begun;
}

-- ---- rows see what is left

module _ (d : Draft) where
  abbrev ms : ℕ → Option MessageRow
  ms = messages_by (messages_in d.store)

  abbrev ps : ℕ → ℕ → Option PartSeen
  ps = parts_by (parts_in d.store)

  abbrev rs : ℕ → Option ReportSeen
  rs = reports_by (reports_in d.store)

  abbrev ks : LastAllocations
  ks = seconds_by (handsets_in d.store) (references_in d.store)

  pub rows_still : (w v : World) → LeavesCentre w v → RowsSee d w → RowsSee d v
  rows_still w v l s = record {
    table = subst (λ (t : List Message). RefinesTable ms ps t) (sym l.table) s.table;
    reports = subst (λ (t : List ReceiptOf). RefinesReports rs t v.reports) (sym l.receipts) (subst (λ (t : List ℕ). RefinesReports rs w.receipts t) (sym l.reports) s.reports);
    holders = subst (λ (t : List Allocation). RefinesHolders ms ps rs t) (sym l.down) s.holders;
    seconds = subst (λ (t : List Allocation). RefinesAllocations ks t d.store.moment) (sym l.down) s.seconds;
  }

pub handset_stays : HandsetLaw
handset_stays h c w m b steps o s =
    let v : World = end w (items m b steps) in
    record {
      frames = refl;
      whole = tt;
      links = λ link i. link_still w.bag v.bag (items_grow w m b steps) link (s.links link i);
      rows = rows_still (draft_of c) w v (handset_leaves_centre h w m b steps o) s.rows;
    }

pub next_refines : NextLaw
next_refines b d w s = record { frames = refl; whole = tt; links = s.links; rows = s.rows }
