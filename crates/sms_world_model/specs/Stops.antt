-- What a stop in the middle of an event leaves: the world from before it, or that from after it without its frames.
use Rattle.std.specs.Prelude.{◌≡◌, ◌⊎◌, List, [], ◌∷◌}
use Rattle.sms_world_model.specs.ScriptRun.{Belongs, Happening, Went, Whole, happened}
use Rattle.sms_world_model.specs.WorldStep.{Run, end, Step}
use Rattle.sms_world_model.specs.World.{World, with_frames}

-- one event leads from the one world to the other
abbrev pub Leads : World → Happening → World → Type 0
Leads w h v = (steps : List Step) × (Belongs w h h.went steps × Run w (happened h steps) × (end w (happened h steps) ≡ v))

-- a world that the event may lead to when nothing stops it
abbrev pub LeadsWhole : World → Happening → World → Type 0
LeadsWhole w h v = Leads w (record h { went = Whole }) v

-- the world from before the event, or that from after it, where none of the event's frames was sent
abbrev pub IsBeforeOrAfter : World → Happening → World → Type 0
IsBeforeOrAfter w h v = (v ≡ w) ⊎ ((x : World) × (LeadsWhole w h x × (v ≡ with_frames w.bag x)))

-- ---- a group of events, which is committed at once

-- each of these events went so
abbrev pub AllWent : Went → List Happening → Type 0
AllWent went [] = Unit {0}
AllWent went (h ∷ group) = (h.went ≡ went) × AllWent went group

-- the world from after all of them, where none of their frames was sent
abbrev pub IsAfterAll : World → List Happening → World → Type 0
IsAfterAll w [] v = v ≡ w
IsAfterAll w (h ∷ group) v = (x : World) × (LeadsWhole w h x × IsAfterAll (with_frames w.bag x) group v)
