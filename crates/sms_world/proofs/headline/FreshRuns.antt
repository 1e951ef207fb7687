-- While frames come in time and rounds begin only where they may, what ends at a handset is one round.
use Rattle.std.proofs.Common.{◌≡◌, ℕ, List, [], ◌∷◌, ◌++◌, Bool, refl, sym, ◌∙◌, subst, inl, ⊎_elim}
use Rattle.sms_base.proofs.Lists.{among_back, among_front}
use Rattle.sms_base.specs.Among.{Among}
use Rattle.sms_world_model.specs.Premises.{FreshParts, SubmitsFresh, IsTimely}
use Rattle.sms_world_model.specs.References.{Ticket}
use Rattle.sms_world_model.specs.WorldStep.{Run, after_item, end, Can, Delete, Receive, Remove, Status, Step, Submit, Take, after}
use Rattle.sms_world_model.specs.ScriptRun.{After, AllControl, AllMayFollow, AllWrite, Asked, Before, Belongs, Cancelled, Event, Follows, Handed, Happening, IsControl, IsExpiry, IsInOrder, IsOwn, IsPlayed, Reads, Removed, Restarted, Submitted, Tick_centre, Tick_handset, Went, Whole, Wrote, items}
use Rattle.sms_world_model.specs.Submission.{Submission}
use Rattle.sms_world_model.specs.World.{Accepted, Carried, Frame, Allocation, OutEntry, World}
use Rattle.sms_world_model.proofs.Faithful.{IsFaithful, faithful_run, faithful_step}
use Rattle.sms_world_model.proofs.Joins.{IsMatched, joins_step}
use Rattle.sms_world_model.proofs.Runs.{sound_run}
use Rattle.sms_world_model.proofs.Sound.{IsSound}
use Rattle.sms_world.proofs.headline.FaithfulRuns.{HandsDown, end_parts, one_faithful, run_parts}
use Rattle.sms_world_model.proofs.Scripts.{control_timely, stays_timely}
use Rattle.sms_world_model.proofs.Followers.{said_of_followers}

-- ---- steps that neither submit nor accept

abbrev pub IsQuiet : Step → Type 0
IsQuiet (Submit s ts) = ⊥
IsQuiet (Receive u s ts) = ⊥
IsQuiet (Take u) = ⊥
IsQuiet _ = Unit {0}

abbrev pub AllQuiet : List Step → Type 0
AllQuiet [] = Unit {0}
AllQuiet (s ∷ ss) = IsQuiet s × AllQuiet ss

quiet_step : (w : World) (m : ℕ) (s : Step) → IsQuiet s → IsMatched w → IsMatched (after w m s)
quiet_step w m (Submit s ts) q h = absurd q
quiet_step w m (Receive u s ts) q h = absurd q
quiet_step w m (Take u) q h = absurd q
quiet_step w m _ q h = h

quiet_steps : (w : World) (m : ℕ) (b : Bool) (ss : List Step) → AllQuiet ss → IsMatched w → IsMatched (end w (items m b ss))
quiet_steps w m b [] q h = h
quiet_steps w m b (s ∷ ss) q h = quiet_steps (after_item w (record { step = s; moment = m; stopped = b })) m b ss q.1 (quiet_step w m s q.0 h)

pub both_quiet : (a c : List Step) → AllQuiet a → AllQuiet c → AllQuiet (a ++ c)
both_quiet [] c x y = y
both_quiet (s ∷ a) c x y = (x.0, both_quiet a c x.1 y)

pub control_quiet : (ss : List Step) → AllControl ss → AllQuiet ss
control_quiet [] c = tt
control_quiet (s ∷ ss) c = (one s c.0, control_quiet ss c.1)
  where
    one : (s : Step) → IsControl s → IsQuiet s
    one (Submit x ts) c = absurd c
    one (Receive u x ts) c = absurd c
    one (Take u) c = absurd c
    one _ c = tt

follow_quiet : (s : Step) → Follows s → IsQuiet s
follow_quiet (Submit x ts) f = absurd f
follow_quiet (Receive u x ts) f = absurd f
follow_quiet (Take u) f = absurd f
follow_quiet _ f = tt

expiry_quiet : (s : Step) → IsExpiry s → IsQuiet s
expiry_quiet (Submit x ts) f = absurd f
expiry_quiet (Receive u x ts) f = absurd f
expiry_quiet (Take u) f = absurd f
expiry_quiet _ f = tt

pub follows_quiet : (event : Event) (ss : List Step) → AllMayFollow event ss → AllQuiet ss
follows_quiet event [] f = tt
follows_quiet event (s ∷ ss) f = (said_of_followers IsQuiet follow_quiet expiry_quiet event s f.0, follows_quiet event ss f.1)

pub writes_quiet : (ss : List Step) → AllWrite ss → AllQuiet ss
writes_quiet [] a = tt
writes_quiet (s ∷ ss) a = (subst (λ (z : Step). IsQuiet z) (sym a.0.2) tt, writes_quiet ss a.1)

-- ---- control frames leave what was given and accepted

pub control_leaves : (w : World) (m : ℕ) (b : Bool) (ss : List Step) → AllControl ss → ((end w (items m b ss)).down ≡ w.down) × ((end w (items m b ss)).accepted ≡ w.accepted)
control_leaves w m b [] c = (refl, refl)
control_leaves w m b (s ∷ ss) c =
    let v : World = after_item w (record { step = s; moment = m; stopped = b }) in
    let one = step_leaves w m s c.0 in
    let x = control_leaves v m b ss c.1 in
    (x.0 ∙ one.0, x.1 ∙ one.1)
  where
    step_leaves : (w : World) (m : ℕ) (s : Step) → IsControl s → ((after w m s).down ≡ w.down) × ((after w m s).accepted ≡ w.accepted)
    step_leaves w m (Submit x ts) c = absurd c
    step_leaves w m (Receive u x ts) c = absurd c
    step_leaves w m (Take u) c = absurd c
    step_leaves w m (Status x f t) c = absurd c
    step_leaves w m _ c = (refl, refl)

-- so what was fresh before them is so behind them
pub still_fresh : (w v : World) (m : ℕ) (s : Step) → v.down ≡ w.down → v.accepted ≡ w.accepted → SubmitsFresh w m s → SubmitsFresh v m s
still_fresh w v m (Submit s ts) e q f = subst (λ (z : List Allocation × List Accepted). FreshParts s m 1 ts z.0 z.1) (λ j. (sym e j, sym q j)) f
still_fresh w v m (Receive u s ts) e q f = subst (λ (z : List Allocation × List Accepted). FreshParts s m 1 ts z.0 z.1) (λ j. (sym e j, sym q j)) f
still_fresh w v m _ e q f = tt

-- ---- an event's own step

none_matched : (v : World) (m : ℕ) (b : Bool) (own : List Step) → own ≡ [] → IsMatched v → IsMatched (end v (items m b own))
none_matched v m b own e h = subst (λ (ss : List Step). IsMatched (end v (items m b ss))) (sym e) h

abbrev pub HandsOne : World → ℕ → List Step → Type 0
HandsOne w n own = (u : Frame) × (s : Step) × (Among (Carried u) w.bag × (u.number ≡ n) × Reads u s × (own ≡ s ∷ []))

module _ (w v : World) (m : ℕ) (b : Bool) (same : (v.down ≡ w.down) × (v.accepted ≡ w.accepted)) (sound : IsSound v) (faithful : IsFaithful v) (matched : IsMatched v) where
  submit_matched : (s : Submission) (ts : List Ticket) → Can v m (Submit s ts) → SubmitsFresh w m (Submit s ts) → IsMatched (after v m (Submit s ts))
  submit_matched s ts can fresh =
      joins_step v m (Submit s ts) sound (faithful_step v m (Submit s ts) sound faithful can tt) matched can (still_fresh w v m (Submit s ts) same.0 same.1 fresh)

  handed_matched : (n : ℕ) (own : List Step) → HandsOne w n own → ((u : Frame) → IsTimely w u → IsTimely v u) → HandsDown w (Handed n) → Run v (items m b own)
      → ((s : Step) → Among s own → SubmitsFresh w m s) → IsMatched (end v (items m b own))
  handed_matched n own (u, s, x) more hands run fresh =
      let one : Run v (items m b (s ∷ [])) = subst (λ (ss : List Step). Run v (items m b ss)) x.3 run in
      let mine : SubmitsFresh w m s = fresh s (subst (λ (ss : List Step). Among s ss) (sym x.3) (inl refl)) in
      subst (λ (ss : List Step). IsMatched (end v (items m b ss))) (sym x.3)
      (joins_step v m s sound (one_faithful v m u s x.2 (λ l. more u (hands u x.0 x.1 l)) sound faithful one.0) matched one.0 (still_fresh w v m s same.0 same.1 mine))

  own_matched : (event : Event) (own : List Step) → IsOwn w event own → ((u : Frame) → IsTimely w u → IsTimely v u) → HandsDown w event → Run v (items m b own)
      → ((s : Step) → Among s own → SubmitsFresh w m s) → IsMatched (end v (items m b own))
  own_matched Submitted own o more hands run fresh = ⊎_elim (λ (e : own ≡ []). none_matched v m b own e matched)
      (λ (x : (s : Submission) × (ts : List Ticket) × (own ≡ Submit s ts ∷ [])).
      let one : Run v (items m b (Submit x.0 x.1 ∷ [])) = subst (λ (ss : List Step). Run v (items m b ss)) x.2 run in
      subst (λ (ss : List Step). IsMatched (end v (items m b ss))) (sym x.2)
      (submit_matched x.0 x.1 one.0 (fresh (Submit x.0 x.1) (subst (λ (ss : List Step). Among (Submit x.0 x.1) ss) (sym x.2) (inl refl))))) o
  own_matched Cancelled own o more hands run fresh = ⊎_elim (λ (e : own ≡ []). none_matched v m b own e matched)
      (λ (x : (id : ℕ) × (own ≡ Delete id ∷ [])). subst (λ (ss : List Step). IsMatched (end v (items m b ss))) (sym x.1) matched) o
  own_matched Asked own o more hands run fresh = none_matched v m b own o matched
  own_matched (Handed n) own o more hands run fresh = ⊎_elim (λ (e : own ≡ []). none_matched v m b own e matched) (λ (x : HandsOne w n own). handed_matched n own x more hands run fresh) o
  own_matched Tick_centre own o more hands run fresh = none_matched v m b own o matched
  own_matched Tick_handset own o more hands run fresh = none_matched v m b own o matched
  own_matched Wrote own o more hands run fresh = quiet_steps v m b own (writes_quiet own o) matched
  own_matched Removed own o more hands run fresh = ⊎_elim (λ (e : own ≡ []). none_matched v m b own e matched)
      (λ (x : (e : OutEntry) × (own ≡ Remove e ∷ [])). subst (λ (ss : List Step). IsMatched (end v (items m b ss))) (sym x.1) matched) o
  own_matched Restarted own o more hands run fresh = none_matched v m b own o matched

-- ---- an event

-- each of these begins rounds only where it may
abbrev pub AllFreshAt : World → ℕ → List Step → Type 0
AllFreshAt w m steps = (s : Step) → Among s steps → SubmitsFresh w m s

order_matched : (w : World) (m : ℕ) (b : Bool) (event : Event) (steps : List Step) → IsInOrder w event steps → HandsDown w event → AllFreshAt w m steps → IsSound w → IsFaithful w → IsMatched w
    → Run w (items m b steps) → IsMatched (end w (items m b steps))
order_matched w m b event steps (control, own, follows, x) hands fresh sound faithful matched run =
    let whole : Run w (items m b (control ++ (own ++ follows))) = subst (λ (ss : List Step). Run w (items m b ss)) x.3 run in
    let first = run_parts w m b control (own ++ follows) whole in
    let v : World = end w (items m b control) in
    let second = run_parts v m b own follows first.1 in
    let z : World = end v (items m b own) in
    let sound_v : IsSound v = sound_run w (items m b control) sound first.0 in
    let faithful_v : IsFaithful v = faithful_run w (items m b control) sound faithful first.0 (control_timely w m b control x.0) in
    let at_v : IsMatched v = quiet_steps w m b control (control_quiet control x.0) matched in
    let at_z : IsMatched z = own_matched w v m b (control_leaves w m b control x.0) sound_v faithful_v at_v event own x.1 (λ u t. stays_timely w m b control u x.0 t) hands second.0
    (λ s i. fresh s (subst (λ (ss : List Step). Among s ss) (sym x.3) (among_back s control (own ++ follows) (among_front s own follows i)))) in
    let at_end : IsMatched (end z (items m b follows)) = quiet_steps z m b follows (follows_quiet event follows x.2) at_z in
    subst (λ (ss : List Step). IsMatched (end w (items m b ss))) (sym x.3)
    (subst (λ (y : World). IsMatched y) (sym (end_parts w m b control (own ++ follows) ∙ end_parts v m b own follows)) at_end)

module _ (w : World) (m : ℕ) (b : Bool) (steps : List Step) (sound : IsSound w) (faithful : IsFaithful w) (matched : IsMatched w) (run : Run w (items m b steps)) (fresh : AllFreshAt w m steps) where
  played_matched : (event : Event) → IsPlayed w event steps → HandsDown w event → IsMatched (end w (items m b steps))
  played_matched Asked p hands = none_matched w m b steps p matched
  played_matched Restarted p hands = none_matched w m b steps p matched
  played_matched Submitted p hands = order_matched w m b Submitted steps p hands fresh sound faithful matched run
  played_matched Cancelled p hands = order_matched w m b Cancelled steps p hands fresh sound faithful matched run
  played_matched (Handed n) p hands = order_matched w m b (Handed n) steps p hands fresh sound faithful matched run
  played_matched Tick_centre p hands = order_matched w m b Tick_centre steps p hands fresh sound faithful matched run
  played_matched Tick_handset p hands = order_matched w m b Tick_handset steps p hands fresh sound faithful matched run
  played_matched Wrote p hands = order_matched w m b Wrote steps p hands fresh sound faithful matched run
  played_matched Removed p hands = order_matched w m b Removed steps p hands fresh sound faithful matched run

  pub event_matched : (h : Happening) (went : Went) → Belongs w h went steps → HandsDown w h.event → IsMatched (end w (items m b steps))
  event_matched h Whole belongs hands = played_matched h.event belongs hands
  event_matched h After belongs hands = played_matched h.event belongs hands
  event_matched h Before belongs hands = none_matched w m b steps belongs matched
