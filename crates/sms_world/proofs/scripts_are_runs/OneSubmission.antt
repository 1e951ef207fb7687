-- An event of the centre takes one submission at most.
use Rattle.std.proofs.Common.{◌≡◌, ℕ, List, [], ◌∷◌, ◌++◌, sym, subst, inl, inr, ⊎_elim}
use Rattle.sms_base.specs.Among.{Among}
use Rattle.sms_centre_spec.specs.declared.event.CentreEvent.{CentreEvent}
use Rattle.sms_centre_spec.specs.declared.event.CentreEvent.TheVariants.{Bound, Cancel, DeliverAnswered, Frame as FrameCame, LinkDown, LinkUp, Ordered, Query, Submit as SubmitCame, Tick, Unbound}
use Rattle.sms_centre_spec.specs.declared.order.Order.TheVariants.{Retry, Delete as OrderDelete}
use Rattle.sms_world_model.specs.References.{Ticket}
use Rattle.sms_world_model.specs.ScriptRun.{AllControl, AllMayFollow, AllWrite, Asked, Cancelled, Event, Follows, Handed, IsControl, IsExpiry, IsInOrder, IsOwn, IsPlayed, Reads, Removed, Restarted, Submitted, Tick_centre, Tick_handset, Wrote}
use Rattle.sms_world_model.proofs.Followers.{said_of_followers}
use Rattle.sms_world_model.specs.Submission.{Submission}
use Rattle.sms_world_model.specs.World.{Carried, Frame, OutEntry, World}
use Rattle.sms_world_model.specs.WorldStep.{Delete, Receive, Remove, Step, Submit}
use Rattle.sms_world.specs.centres_refine_the_world.CentreLaws.{AllOffer}
use Rattle.sms_world.specs.centre_runs_are_steps.RunEvents.{AreOfEvent}
use Rattle.sms_world.specs.scripts_are_runs.AllocationLaws.{NoneSubmits, OneSubmits, Submits}

-- ---- lists of steps

none_one : (ss : List Step) → NoneSubmits ss → OneSubmits ss
none_one [] n = tt
none_one (s ∷ ss) n = inl n.1

none_both : (a b : List Step) → NoneSubmits a → NoneSubmits b → NoneSubmits (a ++ b)
none_both [] b n k = k
none_both (s ∷ a) b n k = (n.0, none_both a b n.1 k)

none_then : (a b : List Step) → NoneSubmits a → OneSubmits b → OneSubmits (a ++ b)
none_then [] b n o = o
none_then (s ∷ a) b n o = inr (n.0, none_then a b n.1 o)

one_then : (a b : List Step) → OneSubmits a → NoneSubmits b → OneSubmits (a ++ b)
one_then [] b o n = none_one b n
one_then (s ∷ a) b o n = ⊎_elim
    (λ (k : NoneSubmits a). inl (none_both a b k n))
    (λ (k : ¬ Submits s × OneSubmits a). inr (k.0, one_then a b k.1 n))
    o

-- ---- kinds of steps

control_none : (ss : List Step) → AllControl ss → NoneSubmits ss
control_none [] c = tt
control_none (s ∷ ss) c = (one s c.0, control_none ss c.1)
  where
    one : (s : Step) → IsControl s → ¬ Submits s
    one (Submit x ts) c = absurd c
    one (Receive u x ts) c = absurd c
    one _ c = λ t. t

follow_none : (s : Step) → Follows s → ¬ Submits s
follow_none (Submit x ts) f = absurd f
follow_none (Receive u x ts) f = absurd f
follow_none _ f = λ t. t

expiry_none : (s : Step) → IsExpiry s → ¬ Submits s
expiry_none (Submit x ts) f = absurd f
expiry_none (Receive u x ts) f = absurd f
expiry_none _ f = λ t. t

follows_none : (event : Event) (ss : List Step) → AllMayFollow event ss → NoneSubmits ss
follows_none event [] f = tt
follows_none event (s ∷ ss) f = (said_of_followers (λ (z : Step). ¬ Submits z) follow_none expiry_none event s f.0, follows_none event ss f.1)

writes_none : (ss : List Step) → AllWrite ss → NoneSubmits ss
writes_none [] a = tt
writes_none (s ∷ ss) a = (subst (λ (z : Step). ¬ Submits z) (sym a.0.2) (λ t. t), writes_none ss a.1)

offers_none : (ss : List Step) → AllOffer ss → NoneSubmits ss
offers_none [] a = tt
offers_none (s ∷ ss) a = (subst (λ (z : Step). ¬ Submits z) (sym a.0.2) (λ t. t), offers_none ss a.1)

-- ---- an event

nothing_one : (own : List Step) → own ≡ [] → OneSubmits own
nothing_one own e = subst (λ (ss : List Step). OneSubmits ss) (sym e) tt

step_one : (own : List Step) (s : Step) → own ≡ s ∷ [] → OneSubmits own
step_one own s e = subst (λ (ss : List Step). OneSubmits ss) (sym e) (inl tt)

own_one : (w : World) (event : Event) (own : List Step) → IsOwn w event own → OneSubmits own
own_one w Submitted own o = ⊎_elim (λ (e : own ≡ []). nothing_one own e) (λ (x : (s : Submission) × (tickets : List Ticket) × (own ≡ Submit s tickets ∷ [])). step_one own (Submit x.0 x.1) x.2) o
own_one w Cancelled own o = ⊎_elim (λ (e : own ≡ []). nothing_one own e) (λ (x : (id : ℕ) × (own ≡ Delete id ∷ [])). step_one own (Delete x.0) x.1) o
own_one w Asked own o = nothing_one own o
own_one w (Handed n) own o = ⊎_elim (λ (e : own ≡ []). nothing_one own e)
    (λ (x : (u : Frame) × (s : Step) × (Among (Carried u) w.bag × (u.number ≡ n) × Reads u s × (own ≡ s ∷ []))). step_one own x.1 x.2.3) o
own_one w Tick_centre own o = nothing_one own o
own_one w Tick_handset own o = nothing_one own o
own_one w Wrote own o = none_one own (writes_none own o)
own_one w Removed own o = ⊎_elim (λ (e : own ≡ []). nothing_one own e) (λ (x : (e : OutEntry) × (own ≡ Remove e ∷ [])). step_one own (Remove x.0) x.1) o
own_one w Restarted own o = nothing_one own o

order_one : (w : World) (event : Event) (steps : List Step) → IsInOrder w event steps → OneSubmits steps
order_one w event steps (control, own, follows, x) =
    subst (λ (ss : List Step). OneSubmits ss) (sym x.3)
    (none_then control (own ++ follows) (control_none control x.0) (one_then own follows (own_one w event own x.1) (follows_none event follows x.2)))

pub played_once : (w : World) (event : Event) (steps : List Step) → IsPlayed w event steps → OneSubmits steps
played_once w Asked steps p = nothing_one steps p
played_once w Restarted steps p = nothing_one steps p
played_once w Submitted steps p = order_one w Submitted steps p
played_once w Cancelled steps p = order_one w Cancelled steps p
played_once w (Handed n) steps p = order_one w (Handed n) steps p
played_once w Tick_centre steps p = order_one w Tick_centre steps p
played_once w Tick_handset steps p = order_one w Tick_handset steps p
played_once w Wrote steps p = order_one w Wrote steps p
played_once w Removed steps p = order_one w Removed steps p

pub event_once : (number : ℕ) (event : CentreEvent) (w : World) (steps : List Step) → AreOfEvent number event w steps → OneSubmits steps
event_once number (SubmitCame account message) w steps a = played_once w Submitted steps a
event_once number (Query account wanted) w steps a = played_once w Asked steps a
event_once number (Cancel account wanted) w steps a = played_once w Cancelled steps a
event_once number (Bound session account receives) w steps a = none_one steps (offers_none steps a)
event_once number (Unbound session) w steps a = none_one steps (offers_none steps a)
event_once number (DeliverAnswered session id is_accepted) w steps a = nothing_one steps a
event_once number (FrameCame handset octets tag) w steps a = played_once w (Handed number) steps a
event_once number (LinkUp handset) w steps a = none_one steps (offers_none steps a)
event_once number (LinkDown handset) w steps a = none_one steps (offers_none steps a)
event_once number (Ordered Retry id) w steps a = none_one steps (offers_none steps a)
event_once number (Ordered OrderDelete id) w steps a = played_once w Cancelled steps a
event_once number (Tick now) w steps a = played_once w Tick_centre steps a
