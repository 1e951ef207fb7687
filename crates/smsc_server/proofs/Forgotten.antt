-- What the rows of a run say of what they do not forget.
use Rattle.std.proofs.Common.{◌≡◌, ⊎_elim, ℕ, Bool, true, false, true≢false, List, [], ◌∷◌, Option, Some, refl, sym, ap, subst, ◌∙◌}
use Rattle.std.proofs.lemmas.Bool.{cases_Bool, cond-false, cond-true}
use Rattle.std.proofs.lemmas.Option.{same_Some}
use Rattle.sms_base.specs.Among.{Among}
use Rattle.sms_rows.specs.table.Keys.{pair_key}
use Rattle.sms_rows.specs.table.Table.{Rises, row_at}
use Rattle.sms_rows.proofs.table.Tables.{among_found}
use Rattle.sms_centre_rows.specs.declared.messages.message.MessageRow.{MessageRow}
use Rattle.sms_centre_rows.specs.declared.messages.part.PartRow.{PartRow}
use Rattle.sms_centre_rows.specs.declared.reports.report.ReportRow.{ReportRow}
use Rattle.sms_centre_rows.specs.messages.Messages.{message_at, part_at, part_key}
use Rattle.sms_centre_rows.specs.reports.Reports.{report_of}
use Rattle.sms_centre_spec.specs.Draft.{Core, core_of}
use Rattle.sms_centre_spec.specs.Keeping.{IsMessageStill, IsPartStill, IsReportStill, Keeps}
use Rattle.sms_centre_spec.specs.SoundRows.{IsSound}
use Rattle.sms_centre_spec.specs.declared.jobs.job.Job.{Job}
use Rattle.sms_centre_spec.specs.declared.jobs.reply.Reply.{Reply}
use Rattle.sms_centre_spec.specs.declared.rows.Rows.{Rows}
use Rattle.sms_centre_spec.specs.forgetting.Forget.{forget, is_going_now}
use Rattle.sms_centre_spec.specs.forgetting.Forgetting.{part_id, rows_without}
use Rattle.sms_centre_spec.proofs.Keeping.{same_message, same_part, same_report}
use Rattle.sms_centre_spec.proofs.forgetting.Kept.{at_stays}
use Rattle.sms_centre_spec.proofs.forgetting.Looks.{message_stays}
use Rattle.sms_centre_spec.proofs.forgetting.Moves.{report_stays}
use Rattle.sms_centre_spec.proofs.forgetting.Removed.{forget_leaves}
use Rattle.sms_keeper.specs.declared.machine.Item.{Item}
use Rattle.smsc_service.specs.Serving.{Serving, after}
use Rattle.smsc_server.specs.Forgotten.{forgets, left}

-- ---- what is still so is so behind more

pub message_through : (m x y : MessageRow) → IsMessageStill m x → IsMessageStill x y → IsMessageStill m y
message_through m x y f g = record {
  handset = g.handset ∙ f.handset;
  source = g.source ∙ f.source;
  originator = g.originator ∙ f.originator;
  split = g.split ∙ f.split;
  final = λ state q.
      let same : x ≡ m = f.final state q in
      g.final state (ap (λ (z : MessageRow). z.state) same ∙ q) ∙ same;
}

pub part_through : (p x y : PartRow) → IsPartStill p x → IsPartStill x y → IsPartStill p y
part_through p x y f g = record { id = g.id ∙ f.id; reference = g.reference ∙ f.reference; tpdu = g.tpdu ∙ f.tpdu; done = λ t. g.done (f.done t) }

pub report_through : (r x y : ReportRow) → IsReportStill r x → IsReportStill x y → IsReportStill r y
report_through r x y f g = record { kind = g.kind ∙ f.kind; made = g.made ∙ f.made; closed = λ t. g.closed (f.closed t) }

-- ---- one step, of the rows of one message

pub record KeepsOne (n : ℕ) (before behind : Rows) : Type 0 where
  pub messages : (m : MessageRow) → message_at n before.messages ≡ Some m → (x : MessageRow) × ((message_at n behind.messages ≡ Some x) × IsMessageStill m x)
  pub parts : (id number : ℕ) (p : PartRow) → p.id ≡ n → part_at id number before.parts ≡ Some p → (x : PartRow) × ((part_at id number behind.parts ≡ Some x) × IsPartStill p x)
  pub reports : (r : ReportRow) → report_of n before.reports ≡ Some r → (x : ReportRow) × ((report_of n behind.reports ≡ Some x) × IsReportStill r x)

-- where nothing is lost
pub one_of : (n : ℕ) (a b : Rows) → Keeps a b → KeepsOne n a b
one_of n a b k = record { messages = k.messages n; parts = λ id number p is e. k.parts id number p e; reports = k.reports n }

-- a part that is found under a key is the only one of it
same_part_there : (key : ℕ) (p y : PartRow) (parts : List PartRow) → Rises part_key parts → row_at part_key key parts ≡ Some p → Among y parts → part_key y ≡ key → y ≡ p
same_part_there key p y parts rises found there is =
    same_Some y p (sym (ap (λ (k : ℕ). row_at part_key k parts) (sym is) ∙ among_found part_key y parts rises there) ∙ found)

without_one : (goes : ℕ → Bool) (n : ℕ) (rows : Rows) → Rises part_key rows.parts → goes n ≡ false → KeepsOne n rows (rows_without goes rows)
without_one goes n rows keys stays = record {
  messages = λ m e. (m, (message_stays goes n rows.messages stays ∙ e, same_message m));
  parts = λ id number p is e. (
    p,
    (
      at_stays part_id goes part_key (pair_key id number) rows.parts
          (λ y there own. ap (λ (x : PartRow). goes x.id) (same_part_there (pair_key id number) p y rows.parts keys e there own) ∙ (ap goes is ∙ stays))
          ∙ e,
      same_part p,
    ),
  );
  reports = λ r e. (r, (report_stays goes n rows.reports stays ∙ e, same_report r));
}

pub forget_one : (before from most n : ℕ) (c : Core) → IsSound c.rows → is_going_now before from most c n ≡ false → KeepsOne n c.rows (core_of (forget before from most c)).rows
forget_one before from most n c sound stays = subst (λ (x : Core). KeepsOne n c.rows x.rows) (sym (forget_leaves before from most c sound))
    (without_one (is_going_now before from most c) n c.rows sound.messages.part_keys stays)

-- ---- through a run

module _ (IsGood : Serving → Type 0) (IsAsked : Item Job Reply → Type 0) (AreAsked : List (Item Job Reply) → Type 0) (first_asked : (e : Item Job Reply) (items : List (Item Job Reply)) → AreAsked (e ∷ items) → IsAsked e)
    (rest_asked : (e : Item Job Reply) (items : List (Item Job Reply)) → AreAsked (e ∷ items) → AreAsked items)
    (stays_good : (s : Serving) (e : Item Job Reply) → IsGood s → IsAsked e → IsGood (after s e.stimulus e.fate)) where
  module _ {A : Type 0} (found : Rows → Option A) (n : ℕ) (own : A → ℕ) (Still : A → A → Type 0) (same : (x : A) → Still x x) (through : (x y z : A) → Still x y → Still y z → Still x z)
      (owned : (x y : A) → Still x y → own y ≡ own x)
      (step : (s : Serving) (e : Item Job Reply) → IsGood s → IsAsked e → forgets s e n ≡ false → (x : A) → own x ≡ n → found s.core.rows ≡ Some x
      → (y : A) × ((found (after s e.stimulus e.fate).core.rows ≡ Some y) × Still x y)) where
    pub still_left : (items : List (Item Job Reply)) (s : Serving) → IsGood s → AreAsked items → (x : A) → own x ≡ n → found s.core.rows ≡ Some x
        → (y : A) × ((left found n s items ≡ Some y) × Still x y)
    still_left [] s good are x is at = (x, (at, same x))
    still_left (e ∷ items) s good are x is at = ⊎_elim
        (λ (t : forgets s e n ≡ true). (x, (cond-true (forgets s e n) (found s.core.rows) (left found n (after s e.stimulus e.fate) items) t ∙ at, same x)))
        (λ (t : forgets s e n ≡ false).
        let one = step s e good (first_asked e items are) t x is at in
        let rest = still_left items (after s e.stimulus e.fate) (stays_good s e good (first_asked e items are)) (rest_asked e items are) one.0 (owned x one.0 one.1.1 ∙ is) one.1.0 in (
          rest.0,
          (
            cond-false (forgets s e n) (found s.core.rows) (left found n (after s e.stimulus e.fate) items) t ∙ rest.1.0,
            through x one.0 rest.0 one.1.1 rest.1.1,
          ),
        ))
        (cases_Bool (forgets s e n))
