-- Links that come up and go down, and questions: the world shows nothing of them but what is offered then.
use Rattle.std.proofs.Common.{◌≡◌, ℕ, ◌<◌, arith, List, [], ◌∷◌, refl, sym, ◌∙◌, Option, Some, None}
use Rattle.std.specs.Prelude.{◌==◌}
use Rattle.std.proofs.lemmas.Bool.{cond_both}
use Rattle.sms_base.specs.declared.carried.Carried.{Carried}
use Rattle.sms_base.specs.declared.holder.Holder.{Holder}
use Rattle.sms_base.specs.declared.holder.Holder.TheVariants.{Part, Report, Entry, Memory}
use Rattle.sms_centre_rows.specs.messages.Messages.{message_at, part_at, part_key}
use Rattle.sms_centre_rows.specs.declared.messages.message.MessageRow.{MessageRow}
use Rattle.sms_centre_rows.specs.declared.messages.part.PartRow.{PartRow}
use Rattle.sms_centre_rows.specs.reports.Reports.{report_of}
use Rattle.sms_centre_rows.specs.declared.reports.report.ReportRow.{ReportRow}
use Rattle.sms_rows.specs.table.Keys.{pair_key}
use Rattle.sms_rows.specs.table.Table.{row_at}
use Rattle.sms_centre_rows.specs.waiting.Links.{link_of, lowered, put_link, raised as raised_link}
use Rattle.sms_centre_rows.specs.waiting.Trying.{due_at, tried}
use Rattle.sms_centre_rows.specs.declared.waiting.handset_link.HandsetLink.{HandsetLink}
use Rattle.sms_centre_rows.specs.declared.waiting.queued_part.QueuedPart.{QueuedPart}
use Rattle.sms_centre_rows.specs.declared.waiting.progress.Progress.{Progress}
use Rattle.sms_centre_spec.proofs.SoundAccepted.{sound_steady}
use Rattle.sms_centre_spec.proofs.SoundStores.{SoundStore}
use Rattle.sms_centre_spec.proofs.Steady.{part_own, report_own}
use Rattle.sms_centre_spec.specs.CentreEvent.{lost, lower, raise}
use Rattle.sms_centre_spec.specs.Draft.{Draft, Store, messages_in, on_links, parts_in, reports_in, waiting_in, with_part_at, with_report_at}
use Rattle.sms_centre_spec.specs.Receiving.{all_due, due_now, queued_due, part_due, report_due}
use Rattle.sms_centre_spec.specs.Transfers.{ended_with, holder_ended, is_open, part_ended_at, part_ended_of, report_ended_at}
use Rattle.sms_centre_spec.specs.declared.verdict.Verdict.{Verdict}
use Rattle.sms_centre_spec.specs.declared.verdict.Verdict.TheVariants.{Again, Late}
use Rattle.sms_world_model.specs.World.{World}
use Rattle.sms_world.specs.centres_refine_the_world.CentreRefinement.{CentreRefines, StoreRefines}
use Rattle.sms_world.specs.centres_refine_the_world.RefinesLinks.{RefinesLink}
use Rattle.sms_world.proofs.centres_refine_the_world.Offers.{link_refines, links_with}
use Rattle.sms_world.proofs.centres_refine_the_world.Unseen.{part_far_unseen, report_far_unseen}

-- a sound store that sees the world
abbrev pub Both : World → Store → Type 0
Both w s = SoundStore s × StoreRefines s w

module _ (w : World) where
  part_both : (p : PartRow) (q : Progress) (s : Store) → Both w s → row_at part_key (part_key p) (parts_in s) ≡ Some p → q.is_done ≡ p.progress.is_done → Both w (with_part_at p q s)
  part_both p q s k there same = (sound_steady.part_far p q s k.0 there same, part_far_unseen p q s w there same k.1)

  report_both : (r : ReportRow) (q : Progress) (s : Store) → Both w s → report_of r.id (reports_in s) ≡ Some r → q.is_done ≡ r.progress.is_done → Both w (with_report_at r q s)
  report_both r q s k there same =
      (sound_steady.report_far r q s k.0 there (λ e. sym same ∙ e), report_far_unseen r q s w k.0.consistent.held.report_keys there (λ t. same) k.1)

  -- ---- due now

  part_due_both : (key : ℕ) (o : Option PartRow) (s : Store) → Both w s → row_at part_key key (parts_in s) ≡ o → Both w (part_due o s)
  part_due_both key None s k there = k
  part_due_both key (Some p) s k there = part_both p (due_at s.moment p.progress) s k (part_own key p s there) refl

  report_due_both : (id : ℕ) (o : Option ReportRow) (s : Store) → Both w s → report_of id (reports_in s) ≡ o → Both w (report_due o s)
  report_due_both id None s k there = k
  report_due_both id (Some r) s k there = report_both r (due_at s.moment r.progress) s k (report_own id r s there) refl

  queued_due_both : (l : QueuedPart) (s : Store) → Both w s → Both w (queued_due l s)
  queued_due_both l s k =
      cond_both (l.number == 0) (report_due (report_of l.id (reports_in s)) s) (part_due (part_at l.id l.number (parts_in s)) s) (Both w)
      (λ t. report_due_both l.id (report_of l.id (reports_in s)) s k refl) (λ t. part_due_both (pair_key l.id l.number) (part_at l.id l.number (parts_in s)) s k refl)

  pub all_due_both : (ls : List QueuedPart) (s : Store) → Both w s → Both w (all_due ls s)
  all_due_both [] s k = k
  all_due_both (l ∷ ls) s k = all_due_both ls (queued_due l s) (queued_due_both l s k)

  pub due_now_both : (handset : List ℕ) (s : Store) → Both w s → Both w (due_now handset s)
  due_now_both handset s k = all_due_both (waiting_in handset s) s k

  -- ---- lost, and tried again

  part_lost : (p : PartRow) (o : Option MessageRow) (s : Store) → Both w s → row_at part_key (part_key p) (parts_in s) ≡ Some p → Both w (part_ended_of Again p o s)
  part_lost p None s k there = k
  part_lost p (Some m) s k there = part_both p (tried s.moment p.progress) s k there refl

  part_late : (p : PartRow) (o : Option MessageRow) (s : Store) → Both w s → Both w (part_ended_of Late p o s)
  part_late p None s k = k
  part_late p (Some m) s k = k

  part_again : (key : ℕ) (o : Option PartRow) (s : Store) → Both w s → row_at part_key key (parts_in s) ≡ o → Both w (part_ended_at Again o s)
  part_again key None s k there = k
  part_again key (Some p) s k there = part_lost p (message_at p.id (messages_in s)) s k (part_own key p s there)

  part_too_late : (o : Option PartRow) (s : Store) → Both w s → Both w (part_ended_at Late o s)
  part_too_late None s k = k
  part_too_late (Some p) s k = part_late p (message_at p.id (messages_in s)) s k

  report_again : (id : ℕ) (o : Option ReportRow) (s : Store) → Both w s → report_of id (reports_in s) ≡ o → Both w (report_ended_at Again o s)
  report_again id None s k there = k
  report_again id (Some r) s k there = report_both r (tried s.moment r.progress) s k (report_own id r s there) refl

  report_too_late : (o : Option ReportRow) (s : Store) → Both w s → Both w (report_ended_at Late o s)
  report_too_late None s k = k
  report_too_late (Some r) s k = k

  pub again_both : (h : Holder) (s : Store) → Both w s → Both w (holder_ended Again h s)
  again_both (Part id number) s k = part_again (pair_key id number) (part_at id number (parts_in s)) s k refl
  again_both (Report id) s k = report_again id (report_of id (reports_in s)) s k refl
  again_both (Entry n) s k = k
  again_both (Memory n) s k = k

  pub late_both : (h : Holder) (s : Store) → Both w s → Both w (holder_ended Late h s)
  late_both (Part id number) s k = part_too_late (part_at id number (parts_in s)) s k
  late_both (Report id) s k = report_too_late (report_of id (reports_in s)) s k
  late_both (Entry n) s k = k
  late_both (Memory n) s k = k

-- ---- drafts

module _ (b : World) (d : Draft) (w : World) (sound : SoundStore d.store) (s : CentreRefines b d w) where
  pub raise_law : (handset : List ℕ) → CentreRefines b (raise handset d) w
  raise_law handset =
      let link : HandsetLink = link_of handset d.links.all in
      let l : RefinesLink w.bag link = link_refines w.bag handset d.links.all s.links in
      record {
        frames = s.frames;
        whole = s.whole;
        links = links_with w.bag (raised_link link) d.links.all (record { next = l.next; opened = l.opened; begun = l.begun }) s.links;
        rows = (due_now_both w link.handset d.store (sound, s.rows)).1;
      }

-- a transfer that is lost is tried again, if it still waits
pub lost_law : (b : World) (handset : List ℕ) (o : Option Carried) (d : Draft) (w : World) → SoundStore d.store → CentreRefines b d w → CentreRefines b (lost handset o d) w
lost_law b handset None d w sound s = s
lost_law b handset (Some t) d w sound s =
    cond_both (is_open t.tag d.store) Again Late (λ (v : Verdict). CentreRefines b (ended_with v handset t.tag d) w)
    (λ e. record { frames = s.frames; whole = s.whole; links = s.links; rows = (again_both w t.tag d.store (sound, s.rows)).1 })
    (λ e. record { frames = s.frames; whole = s.whole; links = s.links; rows = (late_both w t.tag d.store (sound, s.rows)).1 })

pub lower_law : (b : World) (d : Draft) (w : World) (handset : List ℕ) → SoundStore d.store → CentreRefines b d w → CentreRefines b (lower handset d) w
lower_law b d w handset sound s =
    let link : HandsetLink = link_of handset d.links.all in
    lost_law b link.handset link.near_end.under_way (on_links (put_link (lowered link) d.links) d) w sound (record {
      frames = s.frames;
      whole = s.whole;
      links = links_with w.bag (lowered link) d.links.all (record { next = (let l : 0 < 7 = omega arith in l); opened = tt; begun = tt }) s.links;
      rows = s.rows;
    })
