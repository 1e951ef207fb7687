-- Sound rows are sound without the messages that may go.
use Rattle.std.proofs.Common.{◌≡◌, ℕ, ◌<◌, List, [], ◌∷◌, Bool, true, false, refl, sym, ◌∙◌, ap, subst, ⊎_elim, arith}
use Rattle.std.specs.Prelude.{◌*◌, ◌+◌, ◌==◌, ◌&&◌, not}
use Rattle.std.proofs.lemmas.Bool.{and_left, cases_Bool, ne_eqb}
use Rattle.sms_base.specs.Among.{Among}
use Rattle.sms_rows.specs.table.Keys.{pair_key}
use Rattle.sms_centre_rows.specs.declared.messages.message.MessageRow.{MessageRow}
use Rattle.sms_centre_rows.specs.declared.messages.part.PartRow.{PartRow}
use Rattle.sms_centre_rows.specs.declared.messages.priority.PriorityRow.{PriorityRow}
use Rattle.sms_centre_rows.specs.messages.Messages.{all_done, is_undone, message_key, part_at, part_key, priority_key}
use Rattle.sms_centre_rows.specs.messages.SoundMessages.{SoundMessages}
use Rattle.sms_centre_rows.specs.declared.reports.report.ReportRow.{ReportRow}
use Rattle.sms_centre_rows.specs.reports.Reports.{report_key}
use Rattle.sms_centre_rows.specs.reports.SoundReports.{SoundReports}
use Rattle.sms_centre_rows.specs.declared.waiting.queued_part.QueuedPart.{QueuedPart}
use Rattle.sms_centre_rows.specs.waiting.References.{handset_at}
use Rattle.sms_centre_rows.specs.waiting.SoundWaiting.{SoundWaiting}
use Rattle.sms_centre_spec.proofs.forgetting.BarsStand.{bars_rise}
use Rattle.sms_centre_spec.specs.declared.rows.Rows.{Rows}
use Rattle.sms_centre_spec.specs.SoundRows.{IsSound}
use Rattle.sms_centre_spec.specs.forgetting.Forgetting.{MayGo, claims_left, kept, part_id, report_id, rows_without}
use Rattle.sms_centre_spec.proofs.forgetting.Kept.{at_stays, kept_among, kept_gone, kept_here, not_both, rises_kept}
use Rattle.sms_centre_spec.proofs.forgetting.Looks.{message_stays, priority_stays, waiting_same}

other_done : (id : ℕ) (p : PartRow) → ¬ (p.id ≡ id) → is_undone id p ≡ false
other_done id p ne = and_left (p.id == id) (not p.progress.is_done) (ne_eqb p.id id ne)

pub all_done_same : (goes : ℕ → Bool) (id : ℕ) (ps : List PartRow) → goes id ≡ false → all_done id (kept part_id goes ps) ≡ all_done id ps
all_done_same goes id [] s = refl
all_done_same goes id (p ∷ ps) s = ⊎_elim
    (λ (t : goes p.id ≡ true).
    ap (λ (l : List PartRow). all_done id l) (kept_gone part_id goes p ps t) ∙ all_done_same goes id ps s
    ∙ sym (ap (λ (b : Bool). not b && all_done id ps) (other_done id p (λ e. not_both (goes p.id) t (ap goes e ∙ s)))))
    (λ (t : goes p.id ≡ false).
    ap (λ (l : List PartRow). all_done id l) (kept_here part_id goes p ps t) ∙ ap (λ (b : Bool). not (is_undone id p) && b) (all_done_same goes id ps s))
    (cases_Bool (goes p.id))

pub part_stays : (goes : ℕ → Bool) (id n : ℕ) (ps : List PartRow) → goes id ≡ false → n < 256 → ((p : PartRow) → Among p ps → p.number < 256) → part_at id n (kept part_id goes ps) ≡ part_at id n ps
part_stays goes id n ps s small few = at_stays part_id goes part_key (pair_key id n) ps (λ y a e.
    let l : y.number < 256 = few y a in
    let k : 256 * y.id + y.number ≡ 256 * id + n = e in
    let same : y.id ≡ id = omega (arith, k, l, small) in ap goes same ∙ s)

sound_messages : (goes : ℕ → Bool) (ms : List MessageRow) (ps : List PartRow) (qs : List PriorityRow) → SoundMessages ms ps qs
    → SoundMessages (kept message_key goes ms) (kept part_id goes ps) (kept priority_key goes qs)
sound_messages goes ms ps qs s = record {
  message_keys = rises_kept message_key goes message_key ms s.message_keys;
  part_keys = rises_kept part_id goes part_key ps s.part_keys;
  priority_keys = rises_kept priority_key goes priority_key qs s.priority_keys;
  each_message = λ m a.
      let k = kept_among message_key goes m ms a in
      let i = s.each_message m k.0 in
      record {
        id = i.id;
        source = i.source;
        handset = i.handset;
        ended = i.ended;
        delivered = i.delivered ∙ sym (all_done_same goes m.id ps k.1);
        first = (i.first.0, part_stays goes m.id 1 ps k.1 (omega arith) few ∙ i.first.1);
        priority = (i.priority.0, priority_stays goes m.id qs k.1 ∙ i.priority.1);
      };
  each_part = λ p a.
      let k = kept_among part_id goes p ps a in
      let i = s.each_part p k.0 in
      record { first = i.first; few = i.few; reference = i.reference; message = (i.message.0, (message_stays goes p.id ms k.1 ∙ i.message.1.0, i.message.1.1)) };
  each_priority = λ q a.
      let k = kept_among priority_key goes q qs a in
      let i = s.each_priority q k.0 in record { few = i.few; message = (i.message.0, message_stays goes q.id ms k.1 ∙ i.message.1) };
}
  where
    few : (p : PartRow) → Among p ps → p.number < 256
    few p a = let l = (s.each_part p a).few in omega (arith, l)

sound_reports : (goes : ℕ → Bool) (ms : List MessageRow) (rs : List ReportRow) → SoundReports ms rs → SoundReports (kept message_key goes ms) (kept report_id goes rs)
sound_reports goes ms rs s = record {
  keys = rises_kept report_id goes report_key rs s.keys;
  each = λ r a.
      let k = kept_among report_id goes r rs a in
      let i = s.each r k.0 in record { place = i.place; message = (i.message.0, (message_stays goes r.id ms k.1 ∙ i.message.1.0, i.message.1.1)) };
  once = λ r x a b e. s.once r x (kept_among report_id goes r rs a).0 (kept_among report_id goes x rs b).0 e;
}

pub without_sound : (goes : ℕ → Bool) (rows : Rows) → IsSound rows → MayGo goes rows → IsSound (rows_without goes rows)
without_sound goes rows s may = record {
  setup = s.setup;
  times = record {
    submitted = λ m a. s.times.submitted m (kept_among message_key goes m rows.messages a).0;
    given = s.times.given;
    made = λ r a. s.times.made r (kept_among report_id goes r rows.reports a).0;
  };
  messages = sound_messages goes rows.messages rows.parts rows.priorities s.messages;
  report_addresses = λ m a. s.report_addresses m (kept_among message_key goes m rows.messages a).0;
  allocations = s.allocations;
  reports = sound_reports goes rows.messages rows.reports s.reports;
  waiting = λ number.
      subst (λ (l : List QueuedPart). SoundWaiting (handset_at number rows.handsets) rows.references l)
      (sym (waiting_same goes number rows.messages rows.priorities rows.parts rows.reports may.ended may.closed)) (s.waiting number);
  splits = λ m n reference a b.
      s.splits m n reference (kept_among message_key goes m rows.messages a).0 (kept_among message_key goes n rows.messages b).0;
  bars = bars_rise (claims_left goes rows.messages rows.parts) rows.bars s.bars;
}
