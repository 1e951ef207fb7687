-- A sound centre is sound without the messages that may go, where none of them is under way.
use Rattle.std.proofs.Common.{◌≡◌, ℕ, ◌≤◌, List, [], ◌∷◌, Bool, true, false, Option, Some, None, refl, sym, ◌∙◌, ap, subst, ⊎_elim, arith, eq-eqb}
use Rattle.std.specs.Prelude.{◌==◌, ◌||◌, max}
use Rattle.std.proofs.lemmas.Bool.{cases_Bool, or_right}
use Rattle.sms_base.specs.Among.{Among}
use Rattle.sms_base.specs.declared.carried.Carried.{Carried}
use Rattle.sms_base.specs.declared.holder.Holder.{Holder}
use Rattle.sms_base.specs.declared.holder.Holder.TheVariants.{Part, Report, Entry, Memory}
use Rattle.sms_rows.specs.table.Keys.{pair_key}
use Rattle.sms_rows.specs.table.Table.{Rises}
use Rattle.sms_rows.proofs.table.Tables.{found_among, found_key}
use Rattle.sms_centre_rows.specs.declared.messages.message.MessageRow.{MessageRow}
use Rattle.sms_centre_rows.specs.declared.messages.part.PartRow.{PartRow}
use Rattle.sms_centre_rows.specs.messages.Messages.{message_key, part_key}
use Rattle.sms_centre_rows.specs.messages.SplitReferences.{is_among}
use Rattle.sms_centre_rows.specs.declared.reports.report.ReportRow.{ReportRow}
use Rattle.sms_centre_rows.specs.declared.waiting.reference.ReferenceRow.{ReferenceRow}
use Rattle.sms_centre_spec.specs.declared.rows.Rows.{Rows}
use Rattle.sms_centre_spec.specs.CentreEvent.{after_messages, after_references, after_reports, links_awaited, moment_of, recovered}
use Rattle.sms_link.specs.declared.ending.Side.TheVariants.{Centre}
use Rattle.sms_link.specs.LinkTurn.{new_link}
use Rattle.sms_centre_rows.specs.declared.waiting.handset_link.HandsetLink.{HandsetLink}
use Rattle.sms_centre_rows.specs.reports.Receipts.{Session}
use Rattle.sms_centre_spec.proofs.forgetting.Latest.{moment_same}
use Rattle.sms_centre_spec.specs.Draft.{Core}
use Rattle.sms_centre_spec.specs.SoundCore.{IsSentFor, IsSoundCore, IsUnderWay}
use Rattle.sms_centre_spec.specs.forgetting.Forgetting.{AreNoLater, kept, part_id, report_id, rows_without}
use Rattle.sms_centre_spec.specs.forgetting.Forgot.{AreAway, CanForget, Forgot, IsAway, IsAwayTag, core_without}
use Rattle.sms_centre_spec.proofs.forgetting.Going.{one_row}
use Rattle.sms_centre_spec.proofs.forgetting.Kept.{at_stays, kept_gone, kept_here}
use Rattle.sms_centre_spec.proofs.forgetting.Looks.{message_stays}
use Rattle.sms_centre_spec.proofs.forgetting.Moves.{report_stays}
use Rattle.sms_centre_spec.proofs.forgetting.Sound.{without_sound}

messages_later : (goes : ℕ → Bool) (a b : ℕ) (ms : List MessageRow) → a ≤ b → after_messages a (kept message_key goes ms) ≤ after_messages b ms
messages_later goes a b [] l = l
messages_later goes a b (m ∷ ms) l = ⊎_elim
    (λ (t : goes m.id ≡ true). subst (λ (x : List MessageRow). after_messages a x ≤ after_messages (max b m.submitted) ms) (sym (kept_gone message_key goes m ms t)) (messages_later goes a (max b m.submitted) ms (omega (arith, l))))
    (λ (t : goes m.id ≡ false). subst (λ (x : List MessageRow). after_messages a x ≤ after_messages (max b m.submitted) ms) (sym (kept_here message_key goes m ms t)) (messages_later goes (max a m.submitted) (max b m.submitted) ms (omega (arith, l))))
    (cases_Bool (goes m.id))

references_later : (a b : ℕ) (rs : List ReferenceRow) → a ≤ b → after_references a rs ≤ after_references b rs
references_later a b [] l = l
references_later a b (r ∷ rs) l = references_later (max a r.last) (max b r.last) rs (omega (arith, l))

reports_later : (goes : ℕ → Bool) (a b : ℕ) (rs : List ReportRow) → a ≤ b → after_reports a (kept report_id goes rs) ≤ after_reports b rs
reports_later goes a b [] l = l
reports_later goes a b (m ∷ ms) l = ⊎_elim
    (λ (t : goes m.id ≡ true). subst (λ (x : List ReportRow). after_reports a x ≤ after_reports (max b m.made) ms) (sym (kept_gone report_id goes m ms t)) (reports_later goes a (max b m.made) ms (omega (arith, l))))
    (λ (t : goes m.id ≡ false). subst (λ (x : List ReportRow). after_reports a x ≤ after_reports (max b m.made) ms) (sym (kept_here report_id goes m ms t)) (reports_later goes (max a m.made) (max b m.made) ms (omega (arith, l))))
    (cases_Bool (goes m.id))

pub is_member : (id : ℕ) (ns : List ℕ) → Among id ns → is_among id ns ≡ true
is_member id [] a = absurd a
is_member id (n ∷ ns) a = ⊎_elim
    (λ (e : id ≡ n). ap (λ (b : Bool). b || is_among id ns) (eq-eqb n id (sym e)))
    (λ (b : Among id ns). or_right (n == id) (is_among id ns) (is_member id ns b))
    a

tag_without : (goes : ℕ → Bool) (rows : Rows) (keys : Rises part_key rows.parts) (h : List ℕ) (r : ℕ) (tag : Holder) → IsAwayTag goes tag → IsSentFor h r tag rows → IsSentFor h r tag (rows_without goes rows)
tag_without goes rows keys h r (Part id number) away s =
    let p : PartRow = s.0 in
    let e = s.1.1 in
    let a : Among p rows.parts = found_among part_key (pair_key id number) p rows.parts e.0 in
    let own : part_key p ≡ pair_key id number = found_key part_key (pair_key id number) p rows.parts e.0 in (
      p,
      (
        s.1.0,
        (
          at_stays part_id goes part_key (pair_key id number) rows.parts (λ y b f. ap (λ (x : PartRow). goes x.id) (one_row part_key y p rows.parts keys b a (f ∙ sym own)) ∙ ap goes e.4 ∙ away) ∙ e.0,
          e.1,
          message_stays goes id rows.messages away ∙ e.2,
          e.3,
          e.4,
        ),
      ),
    )
tag_without goes rows keys h r (Report id) away s =
    let e = s.1.1.1 in
    (s.0, (s.1.0, (s.1.1.0, (report_stays goes id rows.reports away ∙ e.0, e.1, message_stays goes id rows.messages away ∙ e.2, e.3))))
tag_without goes rows keys h r (Entry n) away s = absurd s
tag_without goes rows keys h r (Memory n) away s = absurd s

way_without : (goes : ℕ → Bool) (rows : Rows) (keys : Rises part_key rows.parts) (h : List ℕ) (o : Option Carried) → IsAway goes o → IsUnderWay h o rows → IsUnderWay h o (rows_without goes rows)
way_without goes rows keys h None away s = tt
way_without goes rows keys h (Some t) away s = (s.0, tag_without goes rows keys h t.reference t.tag away s.1)

pub never_later : (goes : ℕ → Bool) (rows : Rows) → moment_of (rows_without goes rows) ≤ moment_of rows
never_later goes rows =
    let first : ℕ = after_messages rows.setup.start (kept message_key goes rows.messages) in
    let all : ℕ = after_messages rows.setup.start rows.messages in
    reports_later goes (after_references first rows.references) (after_references all rows.references) rows.reports
    (references_later first all rows.references (messages_later goes rows.setup.start rows.setup.start rows.messages (omega arith)))

pub begins : (goes : ℕ → Bool) (c : Core) → IsSoundCore c → CanForget goes c → AreAway goes c → Forgot goes (core_without goes c) c
begins goes c s can away = record {
  without = refl;
  sound = s;
  left = record {
    rows = without_sound goes c.rows s.rows can.may;
    now = s.now;
    moment = let m = never_later goes c.rows in let n : moment_of c.rows ≤ c.moment = s.moment in omega (arith, m, n);
    each_link = λ l a.
        let i = s.each_link l a in
        record { handset = i.handset; side = i.side; under_way = way_without goes c.rows s.rows.messages.part_keys l.handset l.near_end.under_way (away l a) i.under_way; answered = i.answered };
    apart = s.apart;
    session_keys = s.session_keys;
    each_session = λ x a. record {
      unanswered = λ id b.
          let r = (s.each_session x a).unanswered id b in
          (r.0, (report_stays goes id c.rows.reports (can.answered x id a (is_member id x.unanswered b)) ∙ r.1.0, r.1.1));
    };
  };
  may = can.may;
  given = can.given;
}

-- ---- a recovery: nothing is under way

pub awaited_away : (goes : ℕ → Bool) (rows : Rows) (handsets : List (List ℕ)) (l : HandsetLink) → Among l (links_awaited handsets) → IsAway goes l.near_end.under_way
awaited_away goes rows [] l a = absurd a
awaited_away goes rows (n ∷ ns) l a = ⊎_elim
    (λ (e : l ≡ record { handset = n; is_up = false; is_awaited = true; is_full = false; near_end = new_link Centre }). subst (λ (x : HandsetLink). IsAway goes x.near_end.under_way) (sym e) tt)
    (λ (b : Among l (links_awaited ns)). awaited_away goes rows ns l b)
    a

pub recovers : (goes : ℕ → Bool) (rows : Rows) (handsets : List (List ℕ)) (sessions : List Session) → IsSoundCore (recovered rows handsets sessions) → AreNoLater goes rows
    → CanForget goes (recovered rows handsets sessions) → Forgot goes (recovered (rows_without goes rows) handsets sessions) (recovered rows handsets sessions)
recovers goes rows handsets sessions s no_later can =
    let c : Core = recovered rows handsets sessions in
    subst (λ (n : ℕ). Forgot goes (record { rows = rows_without goes rows; moment = n; links = links_awaited handsets; sessions = sessions }) c) (sym (moment_same goes rows can.may no_later))
    (begins goes c s can (awaited_away goes rows handsets))
