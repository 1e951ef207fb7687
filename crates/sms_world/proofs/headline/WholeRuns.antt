-- While rounds begin only where they may, a long message that was submitted at once stands in one round alone.
use Rattle.std.proofs.Common.{◌≡◌, ℕ, List, [], ◌∷◌, ◌++◌, Bool, refl, sym, subst, inl, ⊎_elim}
use Rattle.sms_base.proofs.Lists.{among_back, among_front}
use Rattle.sms_base.specs.Among.{Among}
use Rattle.sms_world_model.specs.Premises.{Fresh, SubmitsFresh}
use Rattle.sms_world_model.specs.References.{Ticket}
use Rattle.sms_world_model.specs.WorldStep.{Run, after_item, end, Delete, Receive, Remove, Step, Submit}
use Rattle.sms_world_model.specs.ScriptRun.{After, Asked, Before, Belongs, Cancelled, Event, Handed, Happening, IsInOrder, IsOwn, IsPlayed, Removed, Restarted, Submitted, Tick_centre, Tick_handset, Went, Whole, Wrote, items}
use Rattle.sms_world_model.specs.Submission.{Submission}
use Rattle.sms_world_model.specs.World.{OutEntry, World}
use Rattle.sms_world_model.proofs.Sound.{IsSound}
use Rattle.sms_world_model.proofs.Wholes.{AllWhole, whole_run}
use Rattle.sms_world.proofs.headline.FreshRuns.{AllFreshAt, AllQuiet, HandsOne, IsQuiet, control_leaves, control_quiet, follows_quiet, still_fresh, writes_quiet}

-- ---- steps that begin rounds only where they may

quiet_fresh : (w : World) (m : ℕ) (b : Bool) (ss : List Step) → AllQuiet ss → Fresh w (items m b ss)
quiet_fresh w m b [] q = tt
quiet_fresh w m b (s ∷ ss) q = (one w m s q.0, quiet_fresh (after_item w (record { step = s; moment = m; stopped = b })) m b ss q.1)
  where
    one : (w : World) (m : ℕ) (s : Step) → IsQuiet s → SubmitsFresh w m s
    one w m (Submit x ts) q = absurd q
    one w m (Receive u x ts) q = absurd q
    one w m _ q = tt

fresh_both : (w : World) (m : ℕ) (b : Bool) (a c : List Step) → Fresh w (items m b a) → Fresh (end w (items m b a)) (items m b c) → Fresh w (items m b (a ++ c))
fresh_both w m b [] c x y = y
fresh_both w m b (s ∷ a) c x y = (x.0, fresh_both (after_item w (record { step = s; moment = m; stopped = b })) m b a c x.1 y)

none_fresh : (v : World) (m : ℕ) (b : Bool) (own : List Step) → own ≡ [] → Fresh v (items m b own)
none_fresh v m b own e = subst (λ (ss : List Step). Fresh v (items m b ss)) (sym e) tt

module _ (w v : World) (m : ℕ) (b : Bool) (same : (v.down ≡ w.down) × (v.accepted ≡ w.accepted)) where
  one_fresh : (own : List Step) (s : Step) → own ≡ s ∷ [] → AllFreshAt w m own → Fresh v (items m b own)
  one_fresh own s e fresh =
      subst (λ (ss : List Step). Fresh v (items m b ss)) (sym e) (still_fresh w v m s same.0 same.1 (fresh s (subst (λ (ss : List Step). Among s ss) (sym e) (inl refl))), tt)

  own_fresh : (event : Event) (own : List Step) → IsOwn w event own → AllFreshAt w m own → Fresh v (items m b own)
  own_fresh Submitted own o fresh = ⊎_elim (λ (e : own ≡ []). none_fresh v m b own e)
      (λ (x : (s : Submission) × (ts : List Ticket) × (own ≡ Submit s ts ∷ [])). one_fresh own (Submit x.0 x.1) x.2 fresh) o
  own_fresh Cancelled own o fresh = ⊎_elim (λ (e : own ≡ []). none_fresh v m b own e) (λ (x : (id : ℕ) × (own ≡ Delete id ∷ [])). one_fresh own (Delete x.0) x.1 fresh) o
  own_fresh Asked own o fresh = none_fresh v m b own o
  own_fresh (Handed n) own o fresh = ⊎_elim (λ (e : own ≡ []). none_fresh v m b own e) (λ (x : HandsOne w n own). one_fresh own x.1 x.2.3 fresh) o
  own_fresh Tick_centre own o fresh = none_fresh v m b own o
  own_fresh Tick_handset own o fresh = none_fresh v m b own o
  own_fresh Wrote own o fresh = quiet_fresh v m b own (writes_quiet own o)
  own_fresh Removed own o fresh = ⊎_elim (λ (e : own ≡ []). none_fresh v m b own e) (λ (x : (e : OutEntry) × (own ≡ Remove e ∷ [])). one_fresh own (Remove x.0) x.1 fresh) o
  own_fresh Restarted own o fresh = none_fresh v m b own o

order_fresh : (w : World) (m : ℕ) (b : Bool) (event : Event) (steps : List Step) → IsInOrder w event steps → AllFreshAt w m steps → Fresh w (items m b steps)
order_fresh w m b event steps (control, own, follows, x) fresh =
    let v : World = end w (items m b control) in
    subst (λ (ss : List Step). Fresh w (items m b ss)) (sym x.3)
    (fresh_both w m b control (own ++ follows) (quiet_fresh w m b control (control_quiet control x.0))
    (fresh_both v m b own follows
    (own_fresh w v m b (control_leaves w m b control x.0) event own x.1 (λ s i. fresh s (subst (λ (ss : List Step). Among s ss) (sym x.3) (among_back s control (own ++ follows) (among_front s own follows i)))))
    (quiet_fresh (end v (items m b own)) m b follows (follows_quiet event follows x.2))))

played_fresh : (w : World) (m : ℕ) (b : Bool) (event : Event) (steps : List Step) → IsPlayed w event steps → AllFreshAt w m steps → Fresh w (items m b steps)
played_fresh w m b Asked steps p fresh = none_fresh w m b steps p
played_fresh w m b Restarted steps p fresh = none_fresh w m b steps p
played_fresh w m b Submitted steps p fresh = order_fresh w m b Submitted steps p fresh
played_fresh w m b Cancelled steps p fresh = order_fresh w m b Cancelled steps p fresh
played_fresh w m b (Handed n) steps p fresh = order_fresh w m b (Handed n) steps p fresh
played_fresh w m b Tick_centre steps p fresh = order_fresh w m b Tick_centre steps p fresh
played_fresh w m b Tick_handset steps p fresh = order_fresh w m b Tick_handset steps p fresh
played_fresh w m b Wrote steps p fresh = order_fresh w m b Wrote steps p fresh
played_fresh w m b Removed steps p fresh = order_fresh w m b Removed steps p fresh

went_fresh : (w : World) (m : ℕ) (b : Bool) (steps : List Step) (h : Happening) (went : Went) → Belongs w h went steps → AllFreshAt w m steps → Fresh w (items m b steps)
went_fresh w m b steps h Whole belongs fresh = played_fresh w m b h.event steps belongs fresh
went_fresh w m b steps h After belongs fresh = played_fresh w m b h.event steps belongs fresh
went_fresh w m b steps h Before belongs fresh = none_fresh w m b steps belongs

-- ---- an event

pub event_whole : (w : World) (m : ℕ) (b : Bool) (steps : List Step) (h : Happening) (went : Went) → Belongs w h went steps → AllFreshAt w m steps → IsSound w → AllWhole w.table w.down → Run w (items m b steps)
    → AllWhole (end w (items m b steps)).table (end w (items m b steps)).down
event_whole w m b steps h went belongs fresh sound whole run = whole_run w (items m b steps) sound whole run (went_fresh w m b steps h went belongs fresh)
