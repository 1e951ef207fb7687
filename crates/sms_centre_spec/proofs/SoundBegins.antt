-- A centre that starts or recovers with sound rows is sound, and the rows of a new store are.
use Rattle.std.proofs.Common.{◌≡◌, ℕ, List, [], ◌∷◌, true, false, refl, sym, ap, subst, inl, inr, ⊎_elim, arith}
use Rattle.std.specs.Prelude.{max}
use Rattle.sms_base.specs.Among.{Among}
use Rattle.sms_base.specs.TimeStamp.{IsMoment}
use Rattle.sms_rows.specs.table.Table.{Rises}
use Rattle.sms_link.specs.declared.ending.Side.TheVariants.{Centre}
use Rattle.sms_link.specs.LinkTurn.{LinkOf, new_link}
use Rattle.sms_centre_rows.specs.declared.messages.message.MessageRow.{MessageRow}
use Rattle.sms_centre_rows.specs.declared.reports.report.ReportRow.{ReportRow}
use Rattle.sms_centre_rows.specs.reports.Receipts.{Session, session_key}
use Rattle.sms_centre_rows.specs.declared.waiting.handset_link.HandsetLink.{HandsetLink}
use Rattle.sms_centre_rows.specs.declared.waiting.reference.ReferenceRow.{ReferenceRow}
use Rattle.sms_centre_rows.specs.waiting.SoundAllocations.{IsNumber}
use Rattle.sms_centre_spec.specs.declared.rows.Rows.{Rows}
use Rattle.sms_centre_spec.specs.declared.setup.Setup.{Setup}
use Rattle.sms_centre_spec.specs.CentreEvent.{after_messages, after_references, after_reports, links_awaited, links_up, moment_of, recovered, started}
use Rattle.sms_centre_spec.specs.SoundCore.{AreDifferent, AreLinks, IsAnswer, IsLink, IsSession, IsSoundCore, IsUnderWay}
use Rattle.sms_centre_spec.specs.SoundRows.{IsSetup, IsSound, first_rows}
use Rattle.sms_centre_spec.proofs.SoundLinks.{link_none}

-- ---- the moment of rows is one

pub greatest : (n k : ℕ) → IsMoment n → IsMoment k → IsMoment (max n k)
greatest n k a b = record { from_2000 = (let f = a.from_2000 in omega (arith, f)); to_2099 = (let f = a.to_2099 in let g = b.to_2099 in omega (arith, f, g)) }

messages_moment : (n : ℕ) (ms : List MessageRow) → IsMoment n → ((m : MessageRow) → Among m ms → IsMoment m.submitted) → IsMoment (after_messages n ms)
messages_moment n [] is f = is
messages_moment n (m ∷ ms) is f = messages_moment (max n m.submitted) ms (greatest n m.submitted is (f m (inl refl))) (λ x a. f x (inr a))

references_moment : (n : ℕ) (rs : List ReferenceRow) → IsMoment n → ((r : ReferenceRow) → Among r rs → IsMoment r.last) → IsMoment (after_references n rs)
references_moment n [] is f = is
references_moment n (r ∷ rs) is f = references_moment (max n r.last) rs (greatest n r.last is (f r (inl refl))) (λ x a. f x (inr a))

reports_moment : (n : ℕ) (rs : List ReportRow) → IsMoment n → ((r : ReportRow) → Among r rs → IsMoment r.made) → IsMoment (after_reports n rs)
reports_moment n [] is f = is
reports_moment n (r ∷ rs) is f = reports_moment (max n r.made) rs (greatest n r.made is (f r (inl refl))) (λ x a. f x (inr a))

rows_moment : (rows : Rows) → IsSound rows → IsMoment (moment_of rows)
rows_moment rows s =
    reports_moment (after_references (after_messages rows.setup.start rows.messages) rows.references) rows.reports
    (references_moment (after_messages rows.setup.start rows.messages) rows.references (messages_moment rows.setup.start rows.messages s.setup.start s.times.submitted) s.times.given)
    s.times.made

-- ---- links of different handsets, with nothing under way

-- each is of one of the handsets, with a new link
abbrev AreNew : Rows → List (List ℕ) → List HandsetLink → Type 0
AreNew rows ns ls = (l : HandsetLink) → Among l ls → Among l.handset ns × (l.near_end ≡ new_link Centre)

awaited_new : (rows : Rows) (ns : List (List ℕ)) → AreNew rows ns (links_awaited ns)
awaited_new rows [] l among = absurd among
awaited_new rows (n ∷ ns) l among = ⊎_elim
    (λ (e : l ≡ record { handset = n; is_up = false; is_awaited = true; is_full = false; near_end = new_link Centre }).
    (inl (ap (λ (x : HandsetLink). x.handset) e), ap (λ (x : HandsetLink). x.near_end) e))
    (λ (a : Among l (links_awaited ns)). let r = awaited_new rows ns l a in (inr r.0, r.1))
    among

up_new : (rows : Rows) (ns : List (List ℕ)) → AreNew rows ns (links_up ns)
up_new rows [] l among = absurd among
up_new rows (n ∷ ns) l among = ⊎_elim
    (λ (e : l ≡ record { handset = n; is_up = true; is_awaited = false; is_full = false; near_end = new_link Centre }).
    (inl (ap (λ (x : HandsetLink). x.handset) e), ap (λ (x : HandsetLink). x.near_end) e))
    (λ (a : Among l (links_up ns)). let r = up_new rows ns l a in (inr r.0, r.1))
    among

new_links : (rows : Rows) (ns : List (List ℕ)) (ls : List HandsetLink) → AreNew rows ns ls → ((n : List ℕ) → Among n ns → IsNumber n) → (l : HandsetLink) → Among l ls → IsLink rows l
new_links rows ns ls new are l among =
    let is = new l among in
    record {
      handset = are l.handset is.0;
      side = ap (λ (x : LinkOf). x.side) is.1;
      under_way = subst (λ (x : LinkOf). IsUnderWay l.handset x.under_way rows) (sym is.1) tt;
      answered = subst (λ (x : LinkOf). IsAnswer x.answered) (sym is.1) tt;
    }

awaited_apart : (rows : Rows) (ns : List (List ℕ)) → AreDifferent ns → AreLinks (links_awaited ns)
awaited_apart rows [] apart = tt
awaited_apart rows (n ∷ ns) apart = (link_none n (links_awaited ns) (λ x a e. apart.0 (subst (λ (k : List ℕ). Among k ns) e (awaited_new rows ns x a).0)), awaited_apart rows ns apart.1)

up_apart : (rows : Rows) (ns : List (List ℕ)) → AreDifferent ns → AreLinks (links_up ns)
up_apart rows [] apart = tt
up_apart rows (n ∷ ns) apart = (link_none n (links_up ns) (λ x a e. apart.0 (subst (λ (k : List ℕ). Among k ns) e (up_new rows ns x a).0)), up_apart rows ns apart.1)

pub recovered_sound : (rows : Rows) (ns : List (List ℕ)) (ss : List Session) → IsSound rows → ((n : List ℕ) → Among n ns → IsNumber n) → AreDifferent ns → Rises session_key ss
    → ((s : Session) → Among s ss → IsSession rows s) → IsSoundCore (recovered rows ns ss)
recovered_sound rows ns ss sound are apart keys each = record {
  rows = sound;
  now = rows_moment rows sound;
  moment = omega arith;
  each_link = new_links rows ns (links_awaited ns) (awaited_new rows ns) are;
  apart = awaited_apart rows ns apart;
  session_keys = keys;
  each_session = each;
}

pub started_sound : (rows : Rows) (ns : List (List ℕ)) (ss : List Session) → IsSound rows → ((n : List ℕ) → Among n ns → IsNumber n) → AreDifferent ns → Rises session_key ss
    → ((s : Session) → Among s ss → IsSession rows s) → IsSoundCore (started rows ns ss)
started_sound rows ns ss sound are apart keys each = record {
  rows = sound;
  now = rows_moment rows sound;
  moment = omega arith;
  each_link = new_links rows ns (links_up ns) (up_new rows ns) are;
  apart = up_apart rows ns apart;
  session_keys = keys;
  each_session = each;
}

-- ---- the rows of a new store

pub first_sound : (setup : Setup) → IsSetup setup → IsSound (first_rows setup)
first_sound setup is = record {
  setup = is;
  times = record { submitted = λ m a. absurd a; given = λ r a. absurd a; made = λ r a. absurd a };
  messages = record { message_keys = tt; part_keys = tt; priority_keys = tt; each_message = λ m a. absurd a; each_part = λ p a. absurd a; each_priority = λ p a. absurd a };
  report_addresses = λ m a. absurd a;
  allocations = record { handset_keys = tt; reference_keys = tt; mentioned = λ h a. absurd a; given = λ r a. absurd a; apart = λ h g a b e. absurd a };
  reports = record { keys = tt; each = λ r a. absurd a; once = λ r s a b e. absurd a };
  waiting = λ number. record { keys = tt; small = λ l a. absurd a; given = λ l a. absurd a; apart = λ l k a b e. absurd a };
  splits = λ m n r a b e f g h i j. absurd a;
  bars = tt;
}
