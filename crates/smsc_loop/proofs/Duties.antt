-- What verdicts and orders lead to are courses, and each reason to leave is meant.
use Rattle.std.proofs.Common.{◌≡◌, ℕ, List, Option, Some, None, Bool, true, false, Result, Ok, Err, ◌||◌, refl, sym, ap, subst, ◌∙◌}
use Rattle.std.specs.Prelude.{is_ok, IfOk}
use Rattle.std.proofs.lemmas.Bool.{false≢true}
use Rattle.smpp_session.specs.Patience.{since_first}
use Rattle.smsc_loop.specs.declared.note.LeaveReason.TheVariants.{Ordered as OrderedReason}
use Rattle.smpp_session.specs.declared.patience.Patience.{Patience}
use Rattle.smpp_session.specs.declared.patience.WaitOutcome.{WaitOutcome}
use Rattle.smpp_session.specs.declared.patience.WaitOutcome.TheVariants.{Waits, AsksLink, Silent, Stalled, Unanswered, Inactive, Ordered}
use Rattle.sms_centre_spec.specs.declared.jobs.job.Job.{Job}
use Rattle.sms_centre_spec.specs.declared.jobs.reply.Reply.{Reply}
use Rattle.sms_seats.specs.declared.seat.Seat.{Seat}
use Rattle.smsc_loop.specs.declared.surroundings.Order.{Order}
use Rattle.smsc_loop.specs.declared.surroundings.Order.TheVariants.{Stay, Unbind, End, Replaced}
use Rattle.smsc_loop.specs.declared.turn_end.TurnEnd.{TurnEnd}
use Rattle.smsc_loop.specs.declared.turn_end.TurnEnd.TheVariants.{Stays, Leaves}
use Rattle.smsc_loop.specs.Calls.{Call, AskedLink, AskedToLeave}
use Rattle.smsc_loop.specs.Courses.{Did, standing}
use Rattle.smsc_loop.specs.Duties.{AsksToLeave, Heeds, Obeys, Stood, Unbinds, end_by}
use Rattle.smsc_loop.specs.Phases.{Serves, behind}
use Rattle.smsc_loop.specs.Served.{MeantAt, SideEnd}
use Rattle.smsc_loop.proofs.Joins.{did_none, did_still}

module _ {V : Type 0} (waits : V → List ℕ) (over owing : V → Bool) where
  ended_by : (verdict : WaitOutcome) (stays : Bool) (u : V) (side : SideEnd) (closed : Bool) → MeantAt waits over owing side closed u (end_by verdict stays)
  ended_by Waits stays u side closed = tt
  ended_by AsksLink stays u side closed = tt
  ended_by Silent stays u side closed = refl
  ended_by Stalled stays u side closed = refl
  ended_by Unanswered stays u side closed = refl
  ended_by Inactive stays u side closed = refl
  ended_by Ordered true u side closed = tt
  ended_by Ordered false u side closed = refl

  stood_ends : (is_kept : Bool) (now : ℕ) (p q : Patience) (u : V) (end : TurnEnd) → Stood is_kept now p q end
      → (side : SideEnd) (closed : Bool) → MeantAt waits over owing side closed u end
  stood_ends true now p q u end h side closed = subst (λ (x : TurnEnd). MeantAt waits over owing side closed u x) (sym h.1) tt
  stood_ends false now p q u end h side closed = subst (λ (x : TurnEnd). MeantAt waits over owing side closed u x) (sym h.1) refl

module _ {V E : Type 0} (does : Call → V → V → Type 0) (owing : V → Bool) where
  pub heeds_as : (verdict known : WaitOutcome) (stays : Bool) (now : ℕ) (p : Patience) (v : V) (q : Patience) (u : V) (result : Result TurnEnd E) → verdict ≡ known
      → Heeds does owing known stays now p v q u result → Heeds does owing verdict stays now p v q u result
  heeds_as verdict known stays now p v q u result e h = subst (λ (x : WaitOutcome). Heeds does owing x stays now p v q u result) (sym e) h

  pub obeys_as : (order known : Order) (now : ℕ) (p : Patience) (v : V) (q : Patience) (u : V) (result : Result TurnEnd E) → order ≡ known
      → Obeys does owing known now p v q u result → Obeys does owing order now p v q u result
  obeys_as order known now p v q u result e h = subst (λ (x : Order). Obeys does owing x now p v q u result) (sym e) h

  pub unbinds_as : (leaving known : Option ℕ) (now : ℕ) (p : Patience) (v : V) (q : Patience) (u : V) (result : Result TurnEnd E) → leaving ≡ known
      → Unbinds does owing known now p v q u result → Unbinds does owing leaving now p v q u result
  unbinds_as leaving known now p v q u result e h = subst (λ (x : Option ℕ). Unbinds does owing x now p v q u result) (sym e) h

pub stood_stays : (is_kept : Bool) (now : ℕ) (p q : Patience) → is_kept ≡ true → p.leaving ≡ None
    → q ≡ record p { leaving = since_first p.leaving now } → Stood is_kept now p q Stays
stood_stays true now p q e f h = (h ∙ ap (λ (leaving : Option ℕ). record p { leaving = since_first leaving now }) f, refl)
stood_stays false now p q e f h = absurd (false≢true e)

pub stood_leaves : (is_kept : Bool) (now : ℕ) (p : Patience) → is_kept ≡ false → Stood is_kept now p p (Leaves OrderedReason)
stood_leaves false now p e = (refl, refl)
stood_leaves true now p e = absurd (false≢true (sym e))

module _ {V E : Type 0} (waits : V → List ℕ) (over owing : V → Bool) (does : Call → V → V → Type 0) where
  -- what a turn so far led to, at whatever wire and seat
  abbrev pub LedTo : V → V → Result TurnEnd E → Type 0
  LedTo v u result = (a w : Option (List ℕ)) (s : Seat Job Reply) → Did does (standing v Serves a w s) (standing u (behind (is_ok result) Serves) a w s)

  -- each reason of its end is meant
  abbrev pub EndsSo : V → Result TurnEnd E → Type 0
  EndsSo u result = (side : SideEnd) (closed : Bool) → IfOk result (λ end. MeantAt waits over owing side closed u end)

  led_still : (v u : V) (end : TurnEnd) (result : Result TurnEnd E) → u ≡ v → result ≡ Ok end → LedTo v u result
  led_still v u end result e f a w s =
      subst (λ (r : Result TurnEnd E). Did does (standing v Serves a w s) (standing u (behind (is_ok r) Serves) a w s)) (sym f)
      (subst (λ (x : V). Did does (standing v Serves a w s) (standing x Serves a w s)) (sym e) (did_none does v Serves a w s))

  ends_still : (u : V) (end : TurnEnd) (result : Result TurnEnd E) → result ≡ Ok end
      → ((side : SideEnd) (closed : Bool) → MeantAt waits over owing side closed u end) → EndsSo u result
  ends_still u end result f m side closed =
      subst (λ (r : Result TurnEnd E). IfOk r (λ x. MeantAt waits over owing side closed u x)) (sym f) (m side closed)

  -- ---- verdicts

  pub heeds_led : (verdict : WaitOutcome) (stays : Bool) (now : ℕ) (p q : Patience) (v u : V) (result : Result TurnEnd E)
      → Heeds does owing verdict stays now p v q u result → LedTo v u result
  heeds_led AsksLink stays now p q v u (Ok end) h a w s = did_still does (AskedLink true) v u Serves Serves a w s refl refl refl refl h.0 (refl, refl)
  heeds_led AsksLink stays now p q v u (Err e) h a w s = did_still does (AskedLink false) v u Serves _ a w s refl refl refl refl h.0 (refl, refl)
  heeds_led Waits stays now p q v u result h a w s = led_still v u _ result h.0 h.2 a w s
  heeds_led Silent stays now p q v u result h a w s = led_still v u _ result h.0 h.2 a w s
  heeds_led Stalled stays now p q v u result h a w s = led_still v u _ result h.0 h.2 a w s
  heeds_led Unanswered stays now p q v u result h a w s = led_still v u _ result h.0 h.2 a w s
  heeds_led Inactive stays now p q v u result h a w s = led_still v u _ result h.0 h.2 a w s
  heeds_led Ordered stays now p q v u result h a w s = led_still v u _ result h.0 h.2 a w s

  pub heeds_ends : (verdict : WaitOutcome) (stays : Bool) (now : ℕ) (p q : Patience) (v u : V) (result : Result TurnEnd E)
      → Heeds does owing verdict stays now p v q u result → EndsSo u result
  heeds_ends AsksLink stays now p q v u (Ok end) h side closed = subst (λ (x : TurnEnd). MeantAt waits over owing side closed u x) (sym h.1.0) tt
  heeds_ends AsksLink stays now p q v u (Err e) h side closed = tt
  heeds_ends Waits stays now p q v u result h side closed = ends_still u _ result h.2 (ended_by waits over owing Waits stays u) side closed
  heeds_ends Silent stays now p q v u result h side closed = ends_still u _ result h.2 (ended_by waits over owing Silent stays u) side closed
  heeds_ends Stalled stays now p q v u result h side closed = ends_still u _ result h.2 (ended_by waits over owing Stalled stays u) side closed
  heeds_ends Unanswered stays now p q v u result h side closed = ends_still u _ result h.2 (ended_by waits over owing Unanswered stays u) side closed
  heeds_ends Inactive stays now p q v u result h side closed = ends_still u _ result h.2 (ended_by waits over owing Inactive stays u) side closed
  heeds_ends Ordered stays now p q v u result h side closed = ends_still u _ result h.2 (ended_by waits over owing Ordered stays u) side closed

  -- ---- orders

  asks_led : (now : ℕ) (p q : Patience) (v u : V) (result : Result TurnEnd E) → AsksToLeave does owing now p v q u result → LedTo v u result
  asks_led now p q v u (Ok end) h a w s = did_still does (AskedToLeave h.0 true) v u Serves Serves a w s refl refl refl refl h.1 (refl, refl)
  asks_led now p q v u (Err e) h a w s = did_still does (AskedToLeave false false) v u Serves _ a w s refl refl refl refl h.0 (refl, refl)

  asks_ends : (now : ℕ) (p q : Patience) (v u : V) (result : Result TurnEnd E) → AsksToLeave does owing now p v q u result → EndsSo u result
  asks_ends now p q v u (Ok end) h side closed = stood_ends waits over owing (h.0 || owing u) now p q u end h.2 side closed
  asks_ends now p q v u (Err e) h side closed = tt

  unbinds_led : (leaving : Option ℕ) (now : ℕ) (p q : Patience) (v u : V) (result : Result TurnEnd E) → Unbinds does owing leaving now p v q u result
      → LedTo v u result
  unbinds_led None now p q v u result h = asks_led now p q v u result h
  unbinds_led (Some since) now p q v u result h = led_still v u _ result h.0 h.2

  unbinds_ends : (leaving : Option ℕ) (now : ℕ) (p q : Patience) (v u : V) (result : Result TurnEnd E) → Unbinds does owing leaving now p v q u result
      → EndsSo u result
  unbinds_ends None now p q v u result h = asks_ends now p q v u result h
  unbinds_ends (Some since) now p q v u result h = ends_still u Stays result h.2 (λ side closed. tt)

  pub obeys_led : (order : Order) (now : ℕ) (p q : Patience) (v u : V) (result : Result TurnEnd E) → Obeys does owing order now p v q u result
      → LedTo v u result
  obeys_led Stay now p q v u result h = led_still v u _ result h.0 h.2
  obeys_led Unbind now p q v u result h = unbinds_led p.leaving now p q v u result h
  obeys_led End now p q v u result h = led_still v u _ result h.0 h.2
  obeys_led Replaced now p q v u result h = led_still v u _ result h.0 h.2

  pub obeys_ends : (order : Order) (now : ℕ) (p q : Patience) (v u : V) (result : Result TurnEnd E) → Obeys does owing order now p v q u result
      → EndsSo u result
  obeys_ends Stay now p q v u result h = ends_still u Stays result h.2 (λ side closed. tt)
  obeys_ends Unbind now p q v u result h = unbinds_ends p.leaving now p q v u result h
  obeys_ends End now p q v u result h = ends_still u _ result h.2 (λ side closed. refl)
  obeys_ends Replaced now p q v u result h = ends_still u _ result h.2 (λ side closed. refl)
