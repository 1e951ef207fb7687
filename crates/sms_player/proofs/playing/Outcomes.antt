-- How the calls of a play continue, by how they ended.
use Rattle.std.proofs.Common.{◌≡◌, ℕ, zero, suc, ◌+◌, ◌-◌, ◌<◌, ◌≤◌, List, [], ◌∷◌, ◌++◌, length, drop, drop-cons, get_or, arith, true, refl, sym, ◌∙◌, subst, ap, Option, Some, None, Result, Ok, Err}
use Rattle.std.specs.Prelude.{OnOk}
use Rattle.sms_centre_spec.specs.CentreEvent.{happened, recovered}
use Rattle.sms_centre_spec.specs.Draft.{Draft, core_of}
use Rattle.sms_centre_spec.specs.declared.answer.CentreAnswer.{CentreAnswer}
use Rattle.sms_centre_spec.specs.declared.event.CentreEvent.{CentreEvent}
use Rattle.sms_centre_spec.specs.declared.rows.Rows.{Rows}
use Rattle.sms_centre_spec.specs.declared.event.CentreEvent.TheVariants.{DeliverAnswered}
use Rattle.sms_handset.specs.declared.event.HandsetEvent.{HandsetEvent}
use Rattle.sms_play.specs.CentreSide.{accepted_after, answered_as, centre_meets, committed, done, given_by, with_answer, whole}
use Rattle.sms_play.specs.PlayState.{PlayState, Party, answer}
use Rattle.sms_play.specs.Meeting.{AtCentre, AtHandset, Meeting, account_from, asked_by, at_handset, by_account, by_handset, meeting_of}
use Rattle.sms_play.specs.PlayedEvent.{centre_restarted, sessions_from}
use Rattle.sms_script.specs.declared.play_fault.PlayFault.{PlayFault}
use Rattle.sms_script.specs.declared.play_fault.PlayFault.TheVariants.{NoSuchAccount, NoSuchSide}
use Rattle.sms_player.specs.playing.Plays.{Represents as PlayRepresents}
use Rattle.sms_player.specs.playing.Places.{IsFirstAt, place_from}
use Rattle.sms_player.specs.playing.Played.{PlayingOf}
use Rattle.sms_player.specs.playing.Playing.{LeadsTo, acted, carried_out, met_as, or_no_memory}
use Rattle.sms_player.specs.centre.PlayedCentre.{Represents as PlayedRepresents, PlayedOf}
use Rattle.sms_player.proofs.playing.Placed.{IsThere, none_there, there}
use Rattle.sms_player.proofs.playing.Showing.{answered_behind, centre_begun_again, centre_committed}
use Rattle.sms_script.specs.declared.report.answers.Answered.{Answered}
use Rattle.sms_script.specs.declared.report.rows.GivenRow.{GivenRow}
use Rattle.sms_centre_rows.specs.declared.reports.delivery.Delivery.{Delivery}
use Rattle.sms_script.specs.declared.event.Act.{Act}
use Rattle.sms_script.specs.declared.event.StopPoint.{StopPoint}
use Rattle.sms_play.proofs.judging.Looking.{none_left}

-- ---- the centre

module _ (c : PlayState) (p : PlayingOf) (s : PlayRepresents c p) where
  pub committed_as : {A E : Type 0} (res : Result A E) (d : Draft) (centre : PlayedOf) (given : List GivenRow) → OnOk res (PlayedRepresents (core_of d) centre.centre centre.rows) → centre.handsets ≡ p.centre.handsets → OnOk res (given ≡ p.given ++ given_by d)
      → OnOk res (PlayRepresents (committed d c) (record p { centre = centre; given = given }))
  committed_as (Ok x) d centre given played same said = centre_committed c p s d centre given played same said
  committed_as (Err e) d centre given played same said = tt

  pub restarted_as : {A E : Type 0} (res : Result A E) (centre : PlayedOf) → OnOk res (PlayedRepresents (recovered c.centre.rows p.centre.handsets (sessions_from 0 c.centre.rows.setup.accounts)) centre.centre centre.rows) → centre.handsets ≡ p.centre.handsets
      → OnOk res (PlayRepresents (centre_restarted c) (record p { centre = centre }))
  restarted_as (Ok x) centre played same = centre_begun_again c p s centre played same
  restarted_as (Err e) centre played same = tt

  pub answered_next : {A E : Type 0} (res : Result A E) (q : PlayingOf) (event : ℕ) (answered : Answered) → OnOk res (q ≡ record p { answers = p.answers ++ record { event = event; answered = answered } ∷ [] }) → OnOk res (PlayRepresents (answer event answered c) q)
  answered_next (Ok x) q event answered e = subst (λ (x : PlayingOf). PlayRepresents (answer event answered c) x) (sym e) (answered_behind c p s event answered)
  answered_next (Err e) q event answered is = tt

  pub told_some : {A E : Type 0} (res : Result A E) (q : PlayingOf) (event : ℕ) (o : Option CentreAnswer) (a : CentreAnswer) (answered : Answered) → o ≡ Some a → answered ≡ answered_as a → OnOk res (q ≡ record p { answers = p.answers ++ record { event = event; answered = answered } ∷ [] }) → OnOk res (PlayRepresents (with_answer event o c) q)
  told_some res q event o a answered is as_told e =
      subst (λ (x : Option CentreAnswer). OnOk res (PlayRepresents (with_answer event x c) q)) (sym is)
      (subst (λ (x : Answered). OnOk res (PlayRepresents (answer event x c) q)) as_told (answered_next res q event answered e))

  pub told_none : (event : ℕ) (o : Option CentreAnswer) → o ≡ None → PlayRepresents (with_answer event o c) p
  told_none event o is = subst (λ (x : Option CentreAnswer). PlayRepresents (with_answer event x c) p) (sym is) s

-- ---- receipts that are accepted one after another

-- none waits
pub none_waits : (d : Draft) (most : ℕ) (c : PlayState) → accepted_after d most [] c ≡ c
none_waits d zero c = refl
none_waits d (suc most) c = refl

-- all that wait were accepted
pub all_accepted : (d : Draft) (most place : ℕ) (waiting : List Delivery) (c : PlayState) → length waiting ≤ place → accepted_after d most (drop place waiting) c ≡ c
all_accepted d most place waiting c l = ap (λ (xs : List Delivery). accepted_after d most xs c) (none_left waiting place l) ∙ none_waits d most c

drop_append : {A : Type 0} (xs ys : List A) (n : ℕ) → n ≤ length xs → drop n (xs ++ ys) ≡ drop n xs ++ ys
drop_append xs ys zero l = refl
drop_append [] ys (suc n) l = absurd (omega (arith, l))
drop_append (x ∷ xs) ys (suc n) l = drop_append xs ys n (omega (arith, l))

-- the next is accepted, and those that it lets go wait behind the others
pub next_accepted : (d : Draft) (most place : ℕ) (waiting more : List Delivery) (x : Delivery) (c : PlayState) → place < length waiting → place < most → x ≡ get_or waiting place x
    → more ≡ (happened (DeliverAnswered x.session x.id true) c.centre).bindings.deliveries
    → accepted_after d (most - place) (drop place waiting) c
    ≡ accepted_after (happened (DeliverAnswered x.session x.id true) c.centre) (most - (place + 1)) (drop (place + 1) (waiting ++ more)) (done (happened (DeliverAnswered x.session x.id true) c.centre) c)
next_accepted d most place waiting more x c low next_state is lets =
    let e : Draft = happened (DeliverAnswered x.session x.id true) c.centre in
    let one : most - place ≡ suc (most - (place + 1)) = omega (arith, next_state) in
    let q : suc place ≡ place + 1 = omega arith in
    let split : drop place waiting ≡ x ∷ drop (place + 1) waiting =
    drop-cons waiting place x low ∙ ap (λ (y : Delivery). y ∷ drop (suc place) waiting) (sym is) ∙ ap (λ (n : ℕ). x ∷ drop n waiting) q in
    let rest : drop (place + 1) (waiting ++ more) ≡ drop (place + 1) waiting ++ e.bindings.deliveries =
    drop_append waiting more (place + 1) (omega (arith, low)) ∙ ap (λ (ys : List Delivery). drop (place + 1) waiting ++ ys) lets in
    ap (λ (n : ℕ). accepted_after d n (drop place waiting) c) one
    ∙ ap (λ (xs : List Delivery). accepted_after d (suc (most - (place + 1))) xs c) split
    ∙ ap (λ (xs : List Delivery). accepted_after e (most - (place + 1)) xs (done e c)) (sym rest)

-- ---- handsets, by their numbers

module _ (stop : Option StopPoint) (event : ℕ) (act : Act) (e : HandsetEvent) (number : List ℕ) (c : PlayState) (meant : meeting_of event act c ≡ at_handset event number e c) where
  -- there is none
  pub no_side : (q : PlayingOf) (parties : List Party) → parties ≡ c.parties → place_from 0 number parties ≡ None → LeadsTo {X = Unit {0}} (Err (NoSuchSide event)) q (acted stop event act c)
  no_side q parties same none =
      ap (λ (m : Result Meeting PlayFault). carried_out stop event act m c) meant
      ∙ ap (λ (o : Option Party). carried_out stop event act (by_handset e event o) c) (none_there 0 number c.parties (sym (ap (λ (ps : List Party). place_from 0 number ps) same) ∙ none))

  -- it stands there, and meets the event
  pub at_side : (place : ℕ) (parties : List Party) → parties ≡ c.parties → place_from 0 number parties ≡ Some place
      → (party : Party) × (IsFirstAt place party c.parties × (acted stop event act c ≡ Ok (met_as stop event act (AtHandset party e) c)))
  at_side place parties same is =
      let r : IsThere 0 place number c.parties = there 0 place number c.parties (sym (ap (λ (ps : List Party). place_from 0 number ps) same) ∙ is) in
      let at : r.behind ≡ place = omega (arith, r.place_is) in (
        r.party,
        (
          subst (λ (n : ℕ). IsFirstAt n r.party c.parties) at r.first,
          ap (λ (m : Result Meeting PlayFault). carried_out stop event act m c) meant ∙ ap (λ (o : Option Party). carried_out stop event act (by_handset e event o) c) r.found,
        ),
      )

-- what was done is what was wanted
pub leads : {X E : Type 0} (res : Result X E) (event : ℕ) (q : PlayingOf) (d : PlayState) (wanted : Result PlayState PlayFault) → wanted ≡ Ok d → OnOk res (PlayRepresents d q) → LeadsTo (or_no_memory event res) q wanted
leads (Ok x) event q d wanted is s = (d, (is, s))
leads (Err e) event q d wanted is s = tt

-- the centre met an event: receipts were accepted, and the answer was told
pub centre_met : {X E : Type 0} (res : Result X E) (event : ℕ) (e : CentreEvent) (c : PlayState) (p q : PlayingOf) (deliveries : List Delivery) (o : Option CentreAnswer)
    → deliveries ≡ (happened e c.centre).bindings.deliveries → o ≡ (happened e c.centre).answer
    → PlayRepresents (accepted_after (happened e c.centre) (length (done (happened e c.centre) c).centre.rows.reports) deliveries (done (happened e c.centre) c)) p
    → ((d : PlayState) → PlayRepresents d p → OnOk res (PlayRepresents (with_answer event o d) q))
    → OnOk res (PlayRepresents (centre_meets event e c) q)
centre_met res event e c p q deliveries o same alike shown tells =
    let d : Draft = happened e c.centre in
    let most : ℕ = length (done d c).centre.rows.reports in
    let now : PlayRepresents (whole d c) p = subst (λ (xs : List Delivery). PlayRepresents (accepted_after d most xs (done d c)) p) same shown in
    subst (λ (x : Option CentreAnswer). OnOk res (PlayRepresents (with_answer event x (whole d c)) q)) alike (tells (whole d c) now)

-- ---- accounts, by their names

module _ (stop : Option StopPoint) (event : ℕ) (act : Act) (name : List ℕ) (request : ℕ → CentreEvent) (c : PlayState) (meant : meeting_of event act c ≡ asked_by event name request c) where
  pub no_account : (q : PlayingOf) (rows : Rows) → rows ≡ c.centre.rows → None ≡ account_from 0 name rows.setup.accounts → LeadsTo {X = Unit {0}} (Err (NoSuchAccount event)) q (acted stop event act c)
  no_account q rows same none =
      ap (λ (m : Result Meeting PlayFault). carried_out stop event act m c) meant
      ∙ ap (λ (o : Option ℕ). carried_out stop event act (by_account event request o) c) (sym (none ∙ ap (λ (r : Rows). account_from 0 name r.setup.accounts) same))

  pub at_account : (place : ℕ) (rows : Rows) → rows ≡ c.centre.rows → Some place ≡ account_from 0 name rows.setup.accounts → acted stop event act c ≡ Ok (met_as stop event act (AtCentre (request place)) c)
  at_account place rows same is =
      ap (λ (m : Result Meeting PlayFault). carried_out stop event act m c) meant
      ∙ ap (λ (o : Option ℕ). carried_out stop event act (by_account event request o) c) (sym (is ∙ ap (λ (r : Rows). account_from 0 name r.setup.accounts) same))

-- the same, of what is told of it
pub or_none : {X E : Type 0} (res : Result X E) (said : Result X PlayFault) (event : ℕ) (q : PlayingOf) (d : PlayState) (wanted : Result PlayState PlayFault) → said ≡ or_no_memory event res → wanted ≡ Ok d → OnOk res (PlayRepresents d q) → LeadsTo said q wanted
or_none res said event q d wanted e is s = subst (λ (r : Result _ PlayFault). LeadsTo r q wanted) (sym e) (leads res event q d wanted is s)

-- ---- receipts, one after another

-- So many receipts were looked at: what the script in play shows is a course from which those that wait lead where all lead.
pub record Accepts (d : Draft) (total : ℕ) (deliveries : List Delivery) (c : PlayState) (most place : ℕ) (waiting : List Delivery) (p : PlayingOf) : Type 0 where
  pub now : PlayState
  pub by : Draft
  pub represents : PlayRepresents now p
  pub goes : accepted_after d total deliveries c ≡ accepted_after by (most - place) (drop place waiting) now

pub none_accepted : (d : Draft) (total most : ℕ) (deliveries waiting : List Delivery) (c : PlayState) (p : PlayingOf) → PlayRepresents c p → most ≡ total → waiting ≡ deliveries → Accepts d total deliveries c most 0 waiting p
none_accepted d total most deliveries waiting c p shown as_many same = record {
  now = c;
  by = d;
  represents = shown;
  goes = ap (λ (n : ℕ). accepted_after d n deliveries c) (omega (arith, as_many)) ∙ ap (λ (xs : List Delivery). accepted_after d (most - 0) xs c) (sym same);
}

pub all_looked_at : (d : Draft) (total most place : ℕ) (deliveries waiting : List Delivery) (c : PlayState) (p : PlayingOf) → Accepts d total deliveries c most place waiting p → length waiting ≤ place → PlayRepresents (accepted_after d total deliveries c) p
all_looked_at d total most place deliveries waiting c p a l =
    subst (λ (x : PlayState). PlayRepresents x p) (sym (a.goes ∙ all_accepted a.by (most - place) place waiting a.now l)) a.represents

pub no_more : (d : Draft) (total most place : ℕ) (deliveries waiting : List Delivery) (c : PlayState) (p : PlayingOf) → Accepts d total deliveries c most place waiting p → most ≤ place → PlayRepresents (accepted_after d total deliveries c) p
no_more d total most place deliveries waiting c p a l =
    let none : most - place ≡ zero = omega (arith, l) in
    subst (λ (x : PlayState). PlayRepresents x p) (sym (a.goes ∙ ap (λ (n : ℕ). accepted_after a.by n (drop place waiting) a.now) none)) a.represents

pub accepts_next : (d : Draft) (total most place : ℕ) (deliveries waiting more later : List Delivery) (x : Delivery) (c : PlayState) (p q : PlayingOf) → (a : Accepts d total deliveries c most place waiting p) → place < length waiting → place < most → x ≡ get_or waiting place x
    → more ≡ (happened (DeliverAnswered x.session x.id true) a.now.centre).bindings.deliveries → later ≡ waiting ++ more
    → PlayRepresents (done (happened (DeliverAnswered x.session x.id true) a.now.centre) a.now) q → Accepts d total deliveries c most (place + 1) later q
accepts_next d total most place deliveries waiting more later x c p q a low next_state is lets same shown =
    let e : Draft = happened (DeliverAnswered x.session x.id true) a.now.centre in
    record {
      now = done e a.now;
      by = e;
      represents = shown;
      goes =
          a.goes ∙ next_accepted a.by most place waiting more x a.now low next_state is lets
          ∙ ap (λ (xs : List Delivery). accepted_after e (most - (place + 1)) (drop (place + 1) xs) (done e a.now)) (sym same);
    }
