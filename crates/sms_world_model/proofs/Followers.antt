-- What is said of the steps that follow, and of those that expire, is said of each step that may follow an event.
use Rattle.std.proofs.Common.{⊎_elim}
use Rattle.sms_world_model.specs.ScriptRun.{Event, Follows, IsExpiry, MayFollow, Tick_centre}
use Rattle.sms_world_model.specs.WorldStep.{Step}

pub said_of_followers : (Says : Step → Type 0) → ((s : Step) → Follows s → Says s) → ((s : Step) → IsExpiry s → Says s) → (event : Event) (s : Step) → MayFollow event s → Says s
said_of_followers Says follows expires Tick_centre s f = ⊎_elim (λ (x : Follows s). follows s x) (λ (x : IsExpiry s). expires s x) f
said_of_followers Says follows expires _ s f = follows s f
